-- Lemmas on lines that are put, as the edit that the buffer makes of them.
use Rattle.std.proofs.Common.{◌≡◌, ℕ, zero, suc, ◌+◌, ◌-◌, ◌^◌, ◌<◌, ◌≤◌, List, [], ◌∷◌, ◌++◌, length, take, drop, All, Option, Some, None, MatchOption, unwrap_or, slice_get, true, false, refl, sym, ap, subst, ◌∙◌, arith, length-append, add-one}
use Rattle.std.proofs.lemmas.List.Elements.{All-head, All-tail, All-nil, All-cons}
use Rattle.std.proofs.lemmas.Option.{get_or_from_slice_get, slice_get-get_or}
use Rattle.std.proofs.lemmas.Bool.Decides.{nat_tests}
use Rattle.std.specs.List.{join_with_byte}
use Rattle.nv_places.specs.Flat.{flat, IsLine, row_start, line_at}
use Rattle.nv_places.specs.Places.{place_of, extent_of, offset_of, further, is_before, IsPlaceIn}
use Rattle.nv_places.specs.declared.place.Pos.{Pos}
use Rattle.nv_places.specs.declared.place.Extent.{Extent}
use Rattle.nv_places.proofs.FlatLemmas.{flat-joined}
use Rattle.nv_places.proofs.PlaceLemmas.{place-offset, extent_of-flat, extent_of-joined}
use Rattle.nv_buffer.specs.Splices.{IsInLine, IsNarrowLine, IsNarrowText, with_front, with_back, lines_between}
use Rattle.nv_buffer.specs.Changes.{rows_edit, text_edit}
use Rattle.nv_buffer.specs.declared.edit.ChangePart.{ChangePart}
use Rattle.nv_buffer.specs.declared.edit.Edit.{Edit}
use Rattle.nv_buffer.proofs.Edits.{MayPutText}
use Rattle.nv_buffer.proofs.Measures.{flat_small, row_start-mono, offsets_in_order}
use Rattle.nv_buffer.proofs.Placing.{extent-between}

-- how many bytes there are, where they are few enough
pub counted : (found : Option ℕ) (lines : List (List ℕ)) → MatchOption found (2 ^ 64 ≤ length (flat lines)) (λ n. n ≡ length (flat lines))
    → length lines < 2 ^ 32 → All IsNarrowLine lines → unwrap_or found 0 ≡ length (flat lines)
counted (Some n) lines is count columns = is
counted None lines is count columns = absurd (omega (arith, is, flat_small lines (record { count = count; columns = columns })))

-- the last line
pub last_there : (lines : List (List ℕ)) (place : ℕ) (line : List ℕ) → Some line ≡ slice_get lines place → line ≡ line_at lines place
last_there lines place line here = sym (get_or_from_slice_get lines place line [] (sym here))

pub reach_joined : (lines : List (List ℕ)) (rows cols : ℕ) → 0 < length lines → All IsLine lines → rows ≡ length lines - 1
    → cols ≡ length (line_at lines (length lines - 1)) → (let e : Extent = record { rows = rows; cols = cols } in e) ≡ extent_of (join_with_byte 10 lines)
reach_joined [] rows cols some are rows_is cols_is = absurd (omega arith)
reach_joined (line ∷ lines) rows cols some are rows_is cols_is =
    let count : length (line ∷ lines) - 1 ≡ length lines = omega arith in
    let r : rows ≡ length lines = rows_is ∙ count in
    let c : cols ≡ length (line_at (line ∷ lines) (length lines)) = cols_is ∙ ap (λ (n : ℕ). length (line_at (line ∷ lines) n)) count in
    (λ i. let e : Extent = record { rows = r i; cols = c i } in e) ∙ sym (extent_of-joined line lines are)

-- joined lines lack the last line end
pub some_bytes : (lines : List (List ℕ)) → 0 < length lines → 1 ≤ length (flat lines)
some_bytes [] some = absurd (omega arith)
some_bytes (line ∷ lines) some = omega (arith, length-append line (10 ∷ flat lines))

joined_len : (lines : List (List ℕ)) → 0 < length lines → length (flat lines) - 1 ≡ length (join_with_byte 10 lines)
joined_len [] some = absurd (omega arith)
joined_len (line ∷ lines) some =
    omega (arith, ap length (flat-joined line lines), length-append (join_with_byte 10 (line ∷ lines)) (10 ∷ []))

-- lines that are narrow with bytes around them are narrow
narrow_front : (front : List ℕ) (lines : List (List ℕ)) → All IsNarrowLine (with_front front lines) → All IsNarrowLine lines
narrow_front front [] are = All-nil IsNarrowLine
narrow_front front (line ∷ lines) are =
    let first : IsNarrowLine (front ++ line) = All-head IsNarrowLine (front ++ line) lines are in
    All-cons IsNarrowLine line lines (omega (arith, first, length-append front line)) (All-tail IsNarrowLine (front ++ line) lines are)

narrow_back : (lines : List (List ℕ)) (back : List ℕ) → All IsNarrowLine (with_back lines back) → All IsNarrowLine lines
narrow_back [] back are = All-nil IsNarrowLine
narrow_back (line ∷ []) back are =
    let last : IsNarrowLine (line ++ back) = All-head IsNarrowLine (line ++ back) [] are in
    All-cons IsNarrowLine line [] (omega (arith, last, length-append line back)) (All-nil IsNarrowLine)
narrow_back (line ∷ next ∷ lines) back are =
    All-cons IsNarrowLine line (next ∷ lines) (All-head IsNarrowLine line (with_back (next ∷ lines) back) are)
    (narrow_back (next ∷ lines) back (All-tail IsNarrowLine line (with_back (next ∷ lines) back) are))

pub narrow_between : (text : List (List ℕ)) (start stop : Pos) (new : List (List ℕ)) → All IsNarrowLine (lines_between text start stop new)
    → All IsNarrowLine new
narrow_between text start stop new are =
    let front : List ℕ = take start.col (line_at text start.row) in
    narrow_front front new (narrow_back (with_front front new) (drop stop.col (line_at text stop.row)) are)

-- ---- whole rows
abbrev row_place : ℕ → Pos
row_place row = record { row = row; col = 0 }

row_offset : (text : List (List ℕ)) (row : ℕ) → offset_of text (row_place row) ≡ row_start text row
row_offset text row = omega arith

row_in : (text : List (List ℕ)) (row : ℕ) → row ≤ length text → IsPlaceIn text (row_place row)
row_in text row low = record { row = low; col = omega arith }

rows_on : (from to : ℕ) (e : Extent) → from ≤ to → e ≡ record { rows = to - from; cols = 0 } → further (row_place from) e ≡ row_place to
rows_on from to e order is =
    ap (further (row_place from)) is ∙ reached from to order
  where
    row_is : (from to : ℕ) → from ≤ to → (further (row_place from) (record { rows = to - from; cols = 0 })).row ≡ to
    row_is from to order = grind (arith, nat_tests)

    col_is : (from to : ℕ) → from ≤ to → (further (row_place from) (record { rows = to - from; cols = 0 })).col ≡ 0
    col_is from to order = grind (arith, nat_tests)

    reached : (from to : ℕ) → from ≤ to → further (row_place from) (record { rows = to - from; cols = 0 }) ≡ row_place to
    reached from to order = let r = row_is from to order in let c = col_is from to order in λ i. record { row = r i; col = c i }

pub rows_edit_is : (part : ChangePart) (inside text new : List (List ℕ)) (from to at old bytes count : ℕ) (removed put : Extent) → inside ≡ text
    → All IsLine text → All IsLine new → from ≤ to → to ≤ length text → at ≡ row_start inside from → row_start inside from + old ≡ row_start inside to
    → bytes ≡ length (flat new) → removed ≡ record { rows = to - from; cols = 0 } → count ≡ length new → put ≡ record { rows = count; cols = 0 }
    → (let e : Edit = record { first = from; last = to; lines = new; at = at; old = old; new = bytes; start = row_place from; removed = removed; put = put; rows = true; part = part } in e)
    ≡ rows_edit part text from to new
rows_edit_is part inside text new from to at old bytes count removed put same are new_are order within at_is old_is bytes_is removed_is count_is put_is =
    let begin : row_start inside from ≡ row_start text from = ap (λ (t : List (List ℕ)). row_start t from) same in
    let end : row_start inside to ≡ row_start text to = ap (λ (t : List (List ℕ)). row_start t to) same in
    let a : at ≡ row_start text from = at_is ∙ begin in
    let o : old ≡ row_start text to - row_start text from = omega arith in
    let at_from = row_offset text from in
    let at_to = row_offset text to in
    let s : row_place from ≡ place_of (flat text) (row_start text from) =
    sym (ap (place_of (flat text)) (sym at_from) ∙ (place-offset text (row_place from) are (row_in text from (omega arith))).1) in
    let rise : offset_of text (row_place from) ≤ offset_of text (row_place to) = omega (arith, row_start-mono text from to order) in
    let r : removed ≡ extent_of (take (row_start text to - row_start text from) (drop (row_start text from) (flat text))) =
    extent-between text (row_place from) (row_place to) removed are (row_in text from (omega arith)) (row_in text to within) rise
    (rows_on from to removed order removed_is)
    ∙ (λ i. extent_of (take (at_to i - at_from i) (drop (at_from i) (flat text)))) in
    let p : put ≡ extent_of (flat new) =
    put_is ∙ (λ i. let e : Extent = record { rows = count_is i; cols = 0 } in e) ∙ sym (extent_of-flat new new_are) in
    λ i. record {
      first = from;
      last = to;
      lines = new;
      at = a i;
      old = o i;
      new = bytes_is i;
      start = s i;
      removed = r i;
      put = p i;
      rows = true;
      part = part;
    }

-- ---- between two places
pub text_edit_is : (part : ChangePart) (text new lines : List (List ℕ)) (start stop : Pos) (at old bytes : ℕ) (removed put : Extent) → All IsLine text
    → MayPutText text start stop new → lines ≡ lines_between text start stop new → at ≡ offset_of text start
    → offset_of text start + old ≡ offset_of text stop → bytes ≡ length (flat new) → further start removed ≡ stop
    → put ≡ extent_of (join_with_byte 10 new)
    → (let e : Edit = record { first = start.row; last = stop.row + 1; lines = lines; at = at; old = old; new = bytes - 1; start = start; removed = removed; put = put; rows = false; part = part } in e)
    ≡ text_edit part text start stop new
text_edit_is part text new lines start stop at old bytes removed put are may lines_is at_is old_is bytes_is removed_is put_is =
    let start_in : IsPlaceIn text start = record { row = omega (arith, may.start_in.row); col = may.start_in.col } in
    let stop_in : IsPlaceIn text stop = record { row = omega (arith, may.stop_in.row); col = may.stop_in.col } in
    let rise : offset_of text start ≤ offset_of text stop = offsets_in_order text start stop may.start_in may.order in
    let o : old ≡ offset_of text stop - offset_of text start = omega arith in
    let b : bytes - 1 ≡ length (join_with_byte 10 new) = ap (λ (n : ℕ). n - 1) bytes_is ∙ joined_len new may.some in
    let s : start ≡ place_of (flat text) (offset_of text start) = sym (place-offset text start are start_in).1 in
    let r : removed ≡ extent_of (take (offset_of text stop - offset_of text start) (drop (offset_of text start) (flat text))) =
    extent-between text start stop removed are start_in stop_in rise removed_is in
    λ i. record {
      first = start.row;
      last = stop.row + 1;
      lines = lines_is i;
      at = at_is i;
      old = o i;
      new = b i;
      start = s i;
      removed = r i;
      put = put_is i;
      rows = false;
      part = part;
    }
