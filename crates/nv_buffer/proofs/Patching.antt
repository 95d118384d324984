-- Lemmas on bytes of a row that others take the place of, and on the edit that they are.
use Rattle.std.proofs.Common.{◌≡◌, ℕ, suc, ◌+◌, ◌-◌, ◌^◌, ◌<◌, ◌≤◌, List, [], ◌∷◌, ◌++◌, length, take, drop, get_or, slice_range, All, Option, Some, None, IfSome, Result, Ok, Err, IfOk, false, refl, sym, ap, subst, ◌∙◌, arith, length-append, append_assoc}
use Rattle.std.proofs.lemmas.List.{append_cancel_left, append_cancel_right, drop-drop, drop_at, get_or_at, length-drop, length-take-le, take-append-drop, take_at}
use Rattle.std.proofs.lemmas.List.Edits.{between_more}
use Rattle.std.proofs.lemmas.List.Elements.{All-get_or}
use Rattle.std.specs.List.{splice}
use Rattle.nv_places.specs.Flat.{flat, IsLine, line_at, row_start}
use Rattle.nv_places.specs.Places.{row_count, col_count, extent_of, offset_of, place_of}
use Rattle.nv_places.specs.declared.place.Extent.{Extent}
use Rattle.nv_places.specs.declared.place.Pos.{Pos}
use Rattle.nv_places.proofs.PlaceLemmas.{col_count_of_one_row, offset-place}
use Rattle.nv_buffer.specs.Splices.{IsBufferText, IsNarrowLine}
use Rattle.nv_buffer.specs.Changes.{lines_after, inverse_edit, Replaces, Fits}
use Rattle.nv_buffer.specs.Patches.{patched_row, patch_edit, patch_back, IsPatch, IsPatchOf, IsInRow, IsChanged}
use Rattle.nv_buffer.specs.declared.edit.Edit.{Edit}
use Rattle.nv_buffer.specs.declared.patch.Patch.{Patch}
use Rattle.nv_buffer.proofs.WayBack.{length-spliced, splice-front, splice-rest}
use Rattle.nv_buffer.proofs.Between.{take-place, drop-place}

-- ---- a row with bytes put in place of others
abbrev with_put : List ℕ → ℕ → ℕ → List ℕ → List ℕ
with_put row col old put = (take col row ++ put) ++ drop (col + old) row

-- what stands before the bytes, these, and what stands behind them
put-front : (row put : List ℕ) (col old : ℕ) → col ≤ length row → take col (with_put row col old put) ≡ take col row
put-front row put col old within =
    ap (λ (bs : List ℕ). take col bs) (append_assoc (take col row) put (drop (col + old) row))
    ∙ take_at (take col row) (put ++ drop (col + old) row) col (length-take-le col row within)

put-bytes : (row put : List ℕ) (col old : ℕ) → col ≤ length row → take (length put) (drop col (with_put row col old put)) ≡ put
put-bytes row put col old within =
    ap (λ (bs : List ℕ). take (length put) (drop col bs)) (append_assoc (take col row) put (drop (col + old) row))
    ∙ ap (λ (bs : List ℕ). take (length put) bs) (drop_at (take col row) (put ++ drop (col + old) row) col (length-take-le col row within))
    ∙ take_at put (drop (col + old) row) (length put) refl

put-back : (row put : List ℕ) (col old : ℕ) → col ≤ length row → drop (col + length put) (with_put row col old put) ≡ drop (col + old) row
put-back row put col old within =
    drop_at (take col row ++ put) (drop (col + old) row) (col + length put)
    (length-append (take col row) put ∙ ap (λ (n : ℕ). n + length put) (length-take-le col row within))

length-put : (row put : List ℕ) (col old : ℕ) → col ≤ length row
    → length (with_put row col old put) ≡ col + length put + (length row - (col + old))
length-put row put col old within =
    omega (
      arith,
      length-append (take col row ++ put) (drop (col + old) row),
      length-append (take col row) put,
      length-take-le col row within,
      length-drop (col + old) row,
    )

-- a list in three parts
parts_joined : (row : List ℕ) (col n : ℕ) → (take col row ++ take n (drop col row)) ++ drop (col + n) row ≡ row
parts_joined row col n =
    append_assoc (take col row) (take n (drop col row)) (drop (col + n) row)
    ∙ ap (λ (bs : List ℕ). take col row ++ (take n (drop col row) ++ bs)) (sym (drop-drop n col row))
    ∙ ap (λ (bs : List ℕ). take col row ++ bs) (take-append-drop n (drop col row))
    ∙ take-append-drop col row

-- what was taken, put in place of what was put
put-undone : (row taken put : List ℕ) (col : ℕ) → col + length taken ≤ length row → take (length taken) (drop col row) ≡ taken
    → with_put (with_put row col (length taken) put) col (length put) taken ≡ row
put-undone row taken put col within is =
    let front = put-front row put col (length taken) (omega arith) in
    let back = put-back row put col (length taken) (omega arith) in
    (λ i. (front i ++ sym is i) ++ back i) ∙ parts_joined row col (length taken)

-- ---- one row of a text
one_row : (text : List (List ℕ)) (row : ℕ) → row < length text → slice_range text row (row + 1) ≡ line_at text row ∷ []
one_row text row within =
    let count : row - row ≡ 0 = omega arith in
    let none : slice_range text row row ≡ [] = ap (λ (n : ℕ). take n (drop row text)) count in
    between_more text row row [] (omega arith) within ∙ ap (λ (ls : List (List ℕ)). ls ++ line_at text row ∷ []) none

row_put : (text : List (List ℕ)) (row : ℕ) (line : List ℕ) → row < length text → line_at (splice text row (row + 1) (line ∷ [])) row ≡ line
row_put text row line within = get_or_at (take row text) line (drop (row + 1) text) [] row (length-take-le row text (omega arith))

-- ---- a patch that was made is taken back by the patch that takes it back
pub patch_undone : (text : List (List ℕ)) (patch : Patch) → IsPatch text patch
    → patch_edit (lines_after text (patch_edit text patch)) (patch_back patch) ≡ inverse_edit text (patch_edit text patch)
patch_undone text patch is =
    let row : List ℕ = line_at text patch.row in
    let after : List (List ℕ) = lines_after text (patch_edit text patch) in
    let there : line_at after patch.row ≡ patched_row row patch = row_put text patch.row (patched_row row patch) is.row in
    let lines : patched_row (line_at after patch.row) (patch_back patch) ∷ [] ≡ slice_range text patch.row (patch.row + 1) =
    ap (λ (r : List ℕ). patched_row r (patch_back patch) ∷ []) there
    ∙ ap (λ (r : List ℕ). r ∷ []) (put-undone row patch.taken patch.put patch.col is.col is.taken)
    ∙ sym (one_row text patch.row is.row) in
    λ i. record (patch_edit after (patch_back patch)) { lines = lines i }

pub patch_back_is : (text : List (List ℕ)) (patch : Patch) → IsBufferText text → IsPatch text patch
    → IsPatch (lines_after text (patch_edit text patch)) (patch_back patch)
patch_back_is text patch text_is is =
    let row : List ℕ = line_at text patch.row in
    let after : List (List ℕ) = lines_after text (patch_edit text patch) in
    let there : line_at after patch.row ≡ patched_row row patch = row_put text patch.row (patched_row row patch) is.row in
    let narrow : IsNarrowLine row = All-get_or IsNarrowLine text patch.row [] is.row text_is.narrow.columns in
    let within : patch.col ≤ length row = omega (arith, is.col) in
    let now : patch.col + length patch.put ≤ length (patched_row row patch) =
    omega (arith, length-put row patch.put patch.col (length patch.taken) within) in record {
      row = omega (arith, length-spliced text (patched_row row patch ∷ []) patch.row (patch.row + 1) (omega arith) (omega (arith, is.row)), is.row);
      col = subst (λ (r : List ℕ). patch.col + length patch.put ≤ length r) (sym there) now;
      taken =
          subst (λ (r : List ℕ). take (length patch.put) (drop patch.col r) ≡ patch.put) (sym there)
          (put-bytes row patch.put patch.col (length patch.taken) within);
      put = omega (arith, is.col, narrow);
    }

-- the bytes that a patch takes are as few as a row has
pub taken_narrow : (text : List (List ℕ)) (patch : Patch) → IsBufferText text → IsPatch text patch → IsNarrowLine patch.taken
taken_narrow text patch text_is is =
    let narrow : IsNarrowLine (line_at text patch.row) = All-get_or IsNarrowLine text patch.row [] is.row text_is.narrow.columns in
    omega (arith, is.col, narrow)

-- the edit that is made of a patch, by the row that it was made of
pub patch_made : (text : List (List ℕ)) (patch : Patch) (row line : List ℕ) (lines : List (List ℕ)) (old new : ℕ) → row ≡ line_at text patch.row
    → line ≡ patched_row row patch → lines ≡ line ∷ [] → old ≡ length patch.taken → new ≡ length patch.put
    → record (patch_edit text patch) {
      lines = lines;
      old = old;
      new = new;
      removed = (let e : Extent = record { rows = 0; cols = old } in e);
      put = (let e : Extent = record { rows = 0; cols = new } in e);
    }
    ≡ patch_edit text patch
patch_made text patch row line lines old new row_is line_is lines_is old_is new_is =
    let here : lines ≡ patched_row (line_at text patch.row) patch ∷ [] =
    lines_is ∙ ap (λ (l : List ℕ). l ∷ []) line_is ∙ ap (λ (r : List ℕ). patched_row r patch ∷ []) row_is in
    λ i. record (patch_edit text patch) {
      lines = here i;
      old = old_is i;
      new = new_is i;
      removed = (let e : Extent = record { rows = 0; cols = old_is i } in e);
      put = (let e : Extent = record { rows = 0; cols = new_is i } in e);
    }

-- ---- an edit within a row is that of a patch
-- the row after an edit, by the bytes that it takes and puts
row_bytes : (text : List (List ℕ)) (row col at old new : ℕ) (line : List ℕ) → row < length text → row_start text row + col ≡ at
    → col + old ≤ length (line_at text row) → col + new ≤ length line
    → Replaces (flat text) (flat (splice text row (row + 1) (line ∷ []))) at old new
    → with_put (line_at text row) col old (take new (drop col line)) ≡ line
row_bytes text row col at old new line within at_is taken put is =
    let after : List (List ℕ) = splice text row (row + 1) (line ∷ []) in
    let here : List ℕ = line_at text row in
    let there : line_at after row ≡ line = row_put text row line within in
    let in_after : row < length after = omega (arith, length-spliced text (line ∷ []) row (row + 1) (omega arith) (omega arith)) in
    let begin : take row after ≡ take row text = splice-front text (line ∷ []) row (row + 1) (omega arith) in
    let start : row_start after row ≡ row_start text row = ap (λ (ls : List (List ℕ)). length (flat ls)) begin in
    let rest : drop (row + 1) after ≡ drop (row + 1) text =
    sym (drop-drop 1 row after) ∙ ap (λ (ls : List (List ℕ)). drop 1 ls) (splice-rest text (line ∷ []) row (row + 1) (omega arith)) in
    let col_after : col ≤ length (line_at after row) = subst (λ (r : List ℕ). col ≤ length r) (sym there) (omega arith) in
    let end_after : col + new ≤ length (line_at after row) = subst (λ (r : List ℕ). col + new ≤ length r) (sym there) put in
    let at_after : row_start after row + col ≡ at = omega arith in
    let stop_after : row_start after row + (col + new) ≡ at + new = omega arith in
    let stop : row_start text row + (col + old) ≡ at + old = omega arith in
    let front : take col line ≡ take col here =
    append_cancel_left (flat (take row text)) (take col line) (take col here) (
    (λ i. flat (sym begin i) ++ take col (sym there i))
    ∙ sym (take-place after row col in_after col_after)
    ∙ ap (λ (n : ℕ). take n (flat after)) at_after
    ∙ is.front
    ∙ ap (λ (n : ℕ). take n (flat text)) (sym at_is)
    ∙ take-place text row col within (omega arith)
    ) in
    let back : drop (col + new) line ≡ drop (col + old) here =
    append_cancel_right (drop (col + new) line) (drop (col + old) here) (10 ∷ flat (drop (row + 1) text)) (
    (λ i. drop (col + new) (sym there i) ++ 10 ∷ flat (sym rest i))
    ∙ sym (drop-place after row (col + new) in_after end_after)
    ∙ ap (λ (n : ℕ). drop n (flat after)) stop_after
    ∙ is.back
    ∙ ap (λ (n : ℕ). drop n (flat text)) (sym stop)
    ∙ drop-place text row (col + old) within taken
    ) in
    (λ i. (sym front i ++ take new (drop col line)) ++ sym back i) ∙ parts_joined line col new

-- bytes without a line end reach as many columns as they are
reach_in_row : (bytes : List ℕ) (at n : ℕ) (e : Extent) → at + n ≤ length bytes → e ≡ extent_of (take n (drop at bytes)) → e.rows ≡ 0
    → e.cols ≡ n
reach_in_row bytes at n e within e_is none =
    let rows : row_count (take n (drop at bytes)) ≡ 0 = sym (ap (λ (x : Extent). x.rows) e_is) ∙ none in
    ap (λ (x : Extent). x.cols) e_is
    ∙ col_count_of_one_row (take n (drop at bytes)) rows
    ∙ length-take-le n (drop at bytes) (omega (arith, length-drop at bytes))

length-part : (bytes : List ℕ) (col n : ℕ) → col + n ≤ length bytes → length (take n (drop col bytes)) ≡ n
length-part bytes col n within = length-take-le n (drop col bytes) (omega (arith, length-drop col bytes))

pub patch_found : (text : List (List ℕ)) (edit : Edit) (before line : List ℕ) (patch : Patch) → IsBufferText text → Fits text edit → IsInRow edit
    → edit.lines ≡ line ∷ [] → before ≡ line_at text edit.first → IsChanged edit before line patch → IsPatchOf text edit patch
patch_found text edit before line patch text_is fits in_row lines_is before_is is =
    let row : ℕ = edit.first in
    let col : ℕ = edit.start.col in
    let here : List ℕ = line_at text row in
    let within : row < length text = omega (arith, fits.within, in_row.last) in
    let after_is : lines_after text edit ≡ splice text row (row + 1) (line ∷ []) = λ i. splice text row (in_row.last i) (lines_is i) in
    let bytes : Replaces (flat text) (flat (splice text row (row + 1) (line ∷ []))) edit.at edit.old edit.new =
    subst (λ (t : List (List ℕ)). Replaces (flat text) (flat t) edit.at edit.old edit.new) after_is fits.bytes in
    let old : edit.removed.cols ≡ edit.old =
    reach_in_row (flat text) edit.at edit.old edit.removed fits.bytes.removed fits.placed.removed in_row.removed in
    let new : edit.put.cols ≡ edit.new =
    reach_in_row (flat (lines_after text edit)) edit.at edit.new edit.put fits.bytes.put fits.placed.put in_row.put in
    let taken : take edit.old (drop col here) ≡ patch.taken = (λ i. take (sym old i) (drop col (sym before_is i))) ∙ is.taken in
    let put : take edit.new (drop col line) ≡ patch.put = (λ i. take (sym new i) (drop col line)) ∙ is.put in
    let taken_in : col + edit.old ≤ length here =
    subst (λ (r : List ℕ). col + edit.old ≤ length r) before_is (omega (arith, is.taken_in, old)) in
    let put_in : col + edit.new ≤ length line = omega (arith, is.put_in, new) in
    let taken_len : length patch.taken ≡ edit.old = ap length (sym taken) ∙ length-part here col edit.old taken_in in
    let put_len : length patch.put ≡ edit.new = ap length (sym put) ∙ length-part line col edit.new put_in in
    let at_is : row_start text row + col ≡ edit.at =
    ap (λ (r : ℕ). row_start text r + col) (sym in_row.start)
    ∙ ap (λ (p : Pos). offset_of text p) fits.placed.start
    ∙ (offset-place text edit.at text_is.lines (omega (arith, fits.bytes.removed))).1 in
    let line_is : with_put here col edit.old (take edit.new (drop col line)) ≡ line =
    row_bytes text row col edit.at edit.old edit.new line within at_is taken_in put_in bytes in
    let row_is : patched_row (line_at text patch.row) patch ≡ line =
    (λ i. (take (is.col i) (line_at text (is.row i)) ++ sym put i) ++ drop (is.col i + taken_len i) (line_at text (is.row i))) ∙ line_is in
    let narrow : IsNarrowLine here = All-get_or IsNarrowLine text row [] within text_is.narrow.columns in
    let after_narrow : IsNarrowLine line =
    subst IsNarrowLine (ap (λ (t : List (List ℕ)). line_at t row) after_is ∙ row_put text row line within)
    (All-get_or IsNarrowLine (lines_after text edit) row []
    (omega (arith, ap length after_is, length-spliced text (line ∷ []) row (row + 1) (omega arith) (omega (arith, within)))) fits.narrow.columns) in
    let here_is : line_at text patch.row ≡ here = ap (λ (r : ℕ). line_at text r) is.row in
    record {
      same =
          λ i. record edit {
            first = is.row i;
            last = (ap (λ (r : ℕ). r + 1) is.row ∙ sym in_row.last) i;
            lines = (ap (λ (r : List ℕ). r ∷ []) row_is ∙ sym lines_is) i;
            at = is.at i;
            old = taken_len i;
            new = put_len i;
            start = (let p : Pos = record { row = (is.row ∙ sym in_row.start) i; col = is.col i } in p);
            removed = (let e : Extent = record { rows = sym in_row.removed i; cols = (taken_len ∙ sym old) i } in e);
            put = (let e : Extent = record { rows = sym in_row.put i; cols = (put_len ∙ sym new) i } in e);
            rows = sym in_row.rows i;
            part = is.part i;
          };
      stands = record {
        row = subst (λ (r : ℕ). r < length text) (sym is.row) within;
        col = omega (arith, is.col, taken_len, taken_in, ap length here_is);
        taken =
            (λ i. take (taken_len i) (drop (is.col i) (line_at text (is.row i)))) ∙ taken;
        put = omega (arith, put_len, put_in, after_narrow);
      };
    }

-- the same of what was looked for
pub patch_given : {E : Type 0} (made : Result (Option Patch) E) (text : List (List ℕ)) (edit : Edit) (before line : List ℕ) → IsBufferText text
    → Fits text edit → IsInRow edit → edit.lines ≡ line ∷ [] → before ≡ line_at text edit.first
    → IfOk made (λ found. IfSome found (IsChanged edit before line)) → IfOk made (λ found. IfSome found (IsPatchOf text edit))
patch_given (Ok (Some patch)) text edit before line text_is fits in_row lines before_is is =
    patch_found text edit before line patch text_is fits in_row lines before_is is
patch_given (Ok None) text edit before line text_is fits in_row lines before_is is = is
patch_given (Err e) text edit before line text_is fits in_row lines before_is is = is

pub only_line : (lines : List (List ℕ)) (line : List ℕ) → length lines ≡ 1 → line ≡ get_or lines 0 line → lines ≡ line ∷ []
only_line [] line h is = absurd (let no_number : 0 ≡ 1 = h in omega arith)
only_line (first ∷ []) line h is = ap (λ (l : List ℕ). l ∷ []) (sym is)
only_line (first ∷ next ∷ lines) line h is = absurd (let no_number : suc (suc (length lines)) ≡ 1 = h in omega arith)
