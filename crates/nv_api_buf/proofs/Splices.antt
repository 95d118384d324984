-- The lines that a splice of a text leaves, and those that it puts.
use Rattle.std.proofs.Common.{◌≡◌, ◌≢◌, ℕ, zero, suc, ◌+◌, ◌-◌, ◌<◌, ◌≤◌, false, List, [], ◌∷◌, ◌++◌, length, length-append, take, drop, All, refl, sym, ap, ◌∙◌, arith, inl, inr, ◌⊎◌}
use Rattle.std.proofs.Math.Nat.{eq-or-lt_of_le}
use Rattle.std.proofs.lemmas.Bool.Decides.{nat_tests}
use Rattle.std.proofs.lemmas.List.{length-take, length-drop}
use Rattle.std.proofs.lemmas.List.Elements.{All-cons, All-nil, All-head, All-tail, All-take, All-drop, All-append}
use Rattle.std.specs.List.{splice, join_with_byte}
use Rattle.nv_places.specs.Flat.{flat, IsLine, line_at, lines_of, row_start}
use Rattle.nv_places.specs.Places.{place_of, offset_of, is_before}
use Rattle.nv_places.specs.declared.place.Pos.{Pos}
use Rattle.nv_places.proofs.FlatLemmas.{lines_of-flat, flat-splice, flat-joined}
use Rattle.nv_places.proofs.PlaceLemmas.{place-offset}
use Rattle.nv_lines.proofs.Splices.{All-splice}
use Rattle.nv_buffer.specs.Splices.{IsInLine, with_front, with_back, lines_between}
use Rattle.nv_buffer.proofs.Between.{flat-text_splice}
use Rattle.nv_buffer.proofs.Measures.{row_start-mono, row_start-next, not_before_row}
use Rattle.nv_args.specs.Texts.{left_with}
use Rattle.nv_buffer.specs.declared.edit.ChangePart.{ChangePart}
use Rattle.nv_model.specs.Buffers.{Splice, rows_splice, text_splice, text_after, is_empty_splice, row_behind, lines_in_place}
use Rattle.nv_model.proofs.BytesPut.{lines_put}

-- how many lines there are after a splice
pub length-splice : (lines new : List (List ℕ)) (from to : ℕ) → from ≤ to → to ≤ length lines
    → length (splice lines from to new) ≡ length lines - (to - from) + length new
length-splice lines new from to order within =
    omega (arith, length-append (take from lines) (new ++ drop to lines), length-append new (drop to lines), length-take from lines, length-drop to lines)

-- a splice of a flat text that puts lines in place of these rows
pub record PutsLines (text : List (List ℕ)) (s : Splice) (from to : ℕ) (new : List (List ℕ)) : Type 0 where
  pub order : from ≤ to
  pub within : to ≤ length text
  pub lines : All IsLine text
  pub put : All IsLine new
  pub first : (place_of (flat text) s.from).row ≡ from
  pub last : row_behind (flat text) s ≡ to
  pub is : text_after (flat text) s ≡ flat (splice text from to new)

-- the lines after it
pub lines_left : (text : List (List ℕ)) (s : Splice) (from to : ℕ) (new : List (List ℕ)) → PutsLines text s from to new
    → lines_of (text_after (flat text) s) ≡ splice text from to new
lines_left text s from to new puts =
    ap lines_of puts.is ∙ lines_of-flat (splice text from to new) (All-splice IsLine text new from to puts.lines puts.put)

-- the lines that it put
pub put_in_place : (text : List (List ℕ)) (s : Splice) (from to : ℕ) (new : List (List ℕ)) → PutsLines text s from to new
    → lines_in_place (flat text) s ≡ new
put_in_place text s from to new puts =
    let left = lines_left text s from to new puts in
    let before = lines_of-flat text puts.lines in
    (λ i. take (length (left i) - (length (before i) - puts.last i) - puts.first i) (drop (puts.first i) (left i)))
    ∙ lines_put text new from to puts.order puts.within

-- the start of a row is the place in it at column 0
row-place : (lines : List (List ℕ)) (row : ℕ) → All IsLine lines → row ≤ length lines → (place_of (flat lines) (row_start lines row)).row ≡ row
row-place lines row are low =
    let p : Pos = record { row = row; col = 0 } in
    let same : row_start lines row ≡ offset_of lines p = omega arith in
    ap (λ (n : ℕ). (place_of (flat lines) n).row) same
    ∙ ap (λ (q : Pos). q.row) (place-offset lines p are (record { row = low; col = omega arith })).1

-- lines put in place of rows
pub rows_put : (part : ChangePart) (text new : List (List ℕ)) (from to : ℕ) → from ≤ to → to ≤ length text → All IsLine text → All IsLine new
    → PutsLines text (rows_splice part text from to new) from to new
rows_put part text new from to order within are put =
    let end : (place_of (flat text) (row_start text to)).row + 0 ≡ to = omega (arith, row-place text to are within) in
    record {
      order = order;
      within = within;
      lines = are;
      put = put;
      first = row-place text from are (omega arith);
      last = end;
      is = sym (flat-splice text new from to);
    }

-- lines put between two places
pub text_put : (part : ChangePart) (text new joined : List (List ℕ)) (start stop : Pos) → IsInLine text start → IsInLine text stop → is_before stop start ≡ false
    → 0 < length new → All IsLine text → joined ≡ lines_between text start stop new → All IsLine joined
    → PutsLines text (text_splice part text start stop new) start.row (stop.row + 1) joined
text_put part text new joined start stop start_in stop_in order some are same put =
    let rows : start.row ≤ stop.row = not_before_row start stop order in
    let from = place-offset text start are (record { row = omega (arith, start_in.row); col = start_in.col }) in
    let until = place-offset text stop are (record { row = omega (arith, stop_in.row); col = stop_in.col }) in
    record {
      order = omega arith;
      within = omega (arith, stop_in.row);
      lines = are;
      put = put;
      first = ap (λ (q : Pos). q.row) from.1;
      last = ap (λ (q : Pos). q.row + 1) until.1;
      is = sym (flat-text_splice text new start stop start_in stop_in some) ∙ ap (λ (ls : List (List ℕ)). flat (splice text start.row (stop.row + 1) ls)) (sym same);
    }

-- ---- splices that remove nothing and put nothing

-- a later row begins later
row_start-lt : (lines : List (List ℕ)) (from to : ℕ) → from < to → to ≤ length lines → row_start lines from < row_start lines to
row_start-lt lines from to h within = omega (arith, row_start-next lines from (omega arith), row_start-mono lines (from + 1) to (omega arith))

-- flat text has a byte for each line at least
flat-some : (lines : List (List ℕ)) → 0 < length lines → 0 < length (flat lines)
flat-some [] h = absurd (omega arith)
flat-some (line ∷ lines) h = omega (arith, length-append line (10 ∷ flat lines))

-- a list that isn't empty
some-of : (lines : List (List ℕ)) → ¬ (lines ≡ []) → 0 < length lines
some-of [] some = absurd (some refl)
some-of (line ∷ lines) some = omega arith

-- and rows or lines are something
pub something-rows : (part : ChangePart) (text : List (List ℕ)) (from to : ℕ) (put : List (List ℕ)) → from ≤ to → to ≤ length text → ¬ ((from ≡ to) × (put ≡ []))
    → is_empty_splice (rows_splice part text from to put) ≡ false
something-rows part text from to put order within some = elim (eq-or-lt_of_le order) [
  | inl same ↦ (let added : 0 < length (flat put) = flat-some put (some-of put (λ none. some (same, none))) in grind (arith, nat_tests))
  | inr less ↦ (let removed : row_start text from < row_start text to = row_start-lt text from to less within in grind (arith, nat_tests))
]

-- lines that are joined have a byte where they are another thing than one empty line
joined-some : (new : List (List ℕ)) → 0 < length new → ¬ (new ≡ [] ∷ []) → 0 < length (join_with_byte 10 new)
joined-some [] some other = absurd (omega arith)
joined-some ([] ∷ []) some other = absurd (other refl)
joined-some ((b ∷ line) ∷ []) some other = omega arith
joined-some (line ∷ next ∷ lines) some other =
    omega (
      arith,
      ap (length {A = ℕ}) (flat-joined line (next ∷ lines)),
      length-append (join_with_byte 10 (line ∷ next ∷ lines)) (10 ∷ []),
      length-append line (10 ∷ flat (next ∷ lines)),
      length-append next (10 ∷ flat lines),
    )

-- places in order are one, or the second has a greater offset
place-cases : (lines : List (List ℕ)) (p q : Pos) → IsInLine lines p → is_before q p ≡ false → (p ≡ q) ⊎ (offset_of lines p < offset_of lines q)
place-cases lines p q is order = elim (eq-or-lt_of_le (not_before_row p q order)) [
  | inl same ↦ elim (eq-or-lt_of_le (cols same)) [
    | inl col ↦ inl (λ i. record { row = same i; col = col i })
    | inr less ↦ inr (omega (arith, ap (row_start lines) same))
  ]
  | inr less ↦ inr (omega (arith, row_start-next lines p.row is.row, is.col, row_start-mono lines (p.row + 1) q.row (omega arith)))
]
  where
    cols : p.row ≡ q.row → p.col ≤ q.col
    cols e = grind (arith, nat_tests)

-- text or another place is something
pub something-text : (part : ChangePart) (text : List (List ℕ)) (start stop : Pos) (new : List (List ℕ)) → IsInLine text start → is_before stop start ≡ false → 0 < length new
    → ¬ ((start ≡ stop) × (new ≡ [] ∷ [])) → is_empty_splice (text_splice part text start stop new) ≡ false
something-text part text start stop new is order some other = elim (place-cases text start stop is order) [
  | inl same ↦ (let added : 0 < length (join_with_byte 10 new) = joined-some new some (λ one. other (same, one)) in grind (arith, nat_tests))
  | inr less ↦ grind (arith, nat_tests)
]

-- lines that are put as they are where a line is left
pub left_with-some : (after new : List (List ℕ)) → 0 < length after → left_with after new ≡ new
left_with-some [] new some = absurd (omega arith)
left_with-some (line ∷ after) new some = refl

-- each row of a text is a line, and so is what stands past the last one
line-is_line : (lines : List (List ℕ)) (row : ℕ) → All IsLine lines → IsLine (line_at lines row)
line-is_line [] row are = All-nil (λ b. b ≢ 10)
line-is_line (line ∷ lines) zero are = All-head IsLine line lines are
line-is_line (line ∷ lines) (suc row) are = line-is_line lines row (All-tail IsLine line lines are)

-- lines that join what stands before and behind them are lines
with_front-lines : (front : List ℕ) (lines : List (List ℕ)) → IsLine front → All IsLine lines → All IsLine (with_front front lines)
with_front-lines front [] is are = All-cons IsLine front [] is (All-nil IsLine)
with_front-lines front (line ∷ lines) is are =
    All-cons IsLine (front ++ line) lines (All-append (λ b. b ≢ 10) front line is (All-head IsLine line lines are)) (All-tail IsLine line lines are)

with_back-lines : (lines : List (List ℕ)) (back : List ℕ) → IsLine back → All IsLine lines → All IsLine (with_back lines back)
with_back-lines [] back is are = All-cons IsLine back [] is (All-nil IsLine)
with_back-lines (line ∷ []) back is are =
    All-cons IsLine (line ++ back) [] (All-append (λ b. b ≢ 10) line back (All-head IsLine line [] are) is) (All-nil IsLine)
with_back-lines (line ∷ next ∷ lines) back is are =
    All-cons IsLine line (with_back (next ∷ lines) back) (All-head IsLine line (next ∷ lines) are)
    (with_back-lines (next ∷ lines) back is (All-tail IsLine line (next ∷ lines) are))

pub between_lines : (text new : List (List ℕ)) (start stop : Pos) → All IsLine text → All IsLine new → All IsLine (lines_between text start stop new)
between_lines text new start stop are put =
    with_back-lines (with_front (take start.col (line_at text start.row)) new) (drop stop.col (line_at text stop.row))
    (All-drop (λ b. b ≢ 10) stop.col (line_at text stop.row) (line-is_line text stop.row are))
    (with_front-lines (take start.col (line_at text start.row)) new (All-take (λ b. b ≢ 10) start.col (line_at text start.row) (line-is_line text start.row are)) put)
