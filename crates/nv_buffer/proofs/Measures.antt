-- Lemmas on the length of flat text and on offsets.
use Rattle.std.proofs.Common.{◌≡◌, ℕ, ◌+◌, ◌*◌, ◌^◌, ◌<◌, ◌≤◌, List, [], ◌∷◌, ◌++◌, length, take, drop, refl, sym, ap, subst, ◌∙◌, arith, All, length-append, false, inl, inr}
use Rattle.std.proofs.Math.Nat.{eq-or-lt_of_le}
use Rattle.std.proofs.lemmas.List.{take-append-drop, take_more, length-take, length-drop}
use Rattle.std.proofs.lemmas.List.Elements.{All-head, All-tail}
use Rattle.std.proofs.lemmas.Bool.Decides.{nat_tests}
use Rattle.std.specs.List.{splice}
use Rattle.nv_places.specs.Flat.{flat, row_start, line_at}
use Rattle.nv_places.specs.Places.{offset_of, is_before}
use Rattle.nv_places.specs.declared.place.Pos.{Pos}
use Rattle.nv_lines.proofs.FlatLengths.{length-flat-append, row_start-le, flat_parts}
use Rattle.nv_lines.proofs.Splices.{All-splice}
use Rattle.nv_buffer.specs.Splices.{IsInLine, IsNarrowLine, IsNarrowText}

columns_sum : (lines : List (List ℕ)) → All IsNarrowLine lines → length (flat lines) ≤ 2 ^ 32 * length lines
columns_sum [] are = omega arith
columns_sum (line ∷ lines) are =
    let here : IsNarrowLine line = All-head IsNarrowLine line lines are in
    omega (arith, length-append line (10 ∷ flat lines), here, columns_sum lines (All-tail IsNarrowLine line lines are))

-- a text with narrow rows and columns has fewer than 2^64 bytes
pub flat_small : (lines : List (List ℕ)) → IsNarrowText lines → length (flat lines) < 2 ^ 64
flat_small lines narrow = omega (arith, columns_sum lines narrow.columns, narrow.count)

-- a splice of narrow lines into a narrow text
pub splice_narrow : (lines new : List (List ℕ)) (from to : ℕ) → IsNarrowText lines → All IsNarrowLine new → from ≤ to → to ≤ length lines
    → from + length new + length lines < to + 2 ^ 32 → IsNarrowText (splice lines from to new)
splice_narrow lines new from to narrow are order within fits = record {
  count =
      omega (
        arith,
        length-append (take from lines) (new ++ drop to lines),
        length-append new (drop to lines),
        length-take from lines,
        length-drop to lines,
      );
  columns = All-splice IsNarrowLine lines new from to narrow.columns are;
}

-- the flat text up to a row and from there on
pub flat_halves : (lines : List (List ℕ)) (row : ℕ) → length (flat lines) ≡ row_start lines row + length (flat (drop row lines))
flat_halves lines row =
    sym (ap (λ ls. length (flat ls)) (take-append-drop row lines)) ∙ length-flat-append (take row lines) (drop row lines)

pub row_start-mono : (lines : List (List ℕ)) (i j : ℕ) → i ≤ j → row_start lines i ≤ row_start lines j
row_start-mono lines i j h = omega (arith, flat_parts lines lines i j refl h, flat_halves lines j)

-- the next row begins past this one's bytes and line end
pub row_start-next : (lines : List (List ℕ)) (row : ℕ) → row < length lines
    → row_start lines (row + 1) ≡ row_start lines row + (length (line_at lines row) + 1)
row_start-next lines row h =
    let more : row_start lines (row + 1) ≡ row_start lines row + length (flat (line_at lines row ∷ [])) =
    ap (λ ls. length (flat ls)) (take_more lines row [] h) ∙ length-flat-append (take row lines) (line_at lines row ∷ []) in
    omega (arith, more, length-append (line_at lines row) (10 ∷ []))

-- a place in a line lies before the end of the flat text
pub offset_of-lt : (lines : List (List ℕ)) (p : Pos) → IsInLine lines p → offset_of lines p < length (flat lines)
offset_of-lt lines p is = omega (arith, row_start-next lines p.row is.row, is.col, row_start-le lines (p.row + 1))

pub not_before_row : (p q : Pos) → is_before q p ≡ false → p.row ≤ q.row
not_before_row p q h = grind (arith, nat_tests)

not_before_col : (p q : Pos) → is_before q p ≡ false → p.row ≡ q.row → p.col ≤ q.col
not_before_col p q h e = grind (arith, nat_tests)

pub offsets_in_order : (lines : List (List ℕ)) (p q : Pos) → IsInLine lines p → is_before q p ≡ false → offset_of lines p ≤ offset_of lines q
offsets_in_order lines p q is h =
    let rows : p.row ≤ q.row = not_before_row p q h in
    elim (eq-or-lt_of_le rows) [
      | inl same ↦ omega (arith, ap (row_start lines) same, not_before_col p q h same)
      | inr less ↦ omega (arith, row_start-next lines p.row is.row, is.col, row_start-mono lines (p.row + 1) q.row (omega arith))
    ]

-- the same of the lines inside a buffer
pub place_fits : (inside now : List (List ℕ)) (p : Pos) → inside ≡ now → IsNarrowText inside → IsInLine now p
    → row_start inside p.row + p.col < 2 ^ 64
place_fits inside now p same narrow is =
    let within : IsInLine inside p = subst (λ ls. IsInLine ls p) (sym same) is in
    omega (arith, flat_small inside narrow, offset_of-lt inside p within)

pub put_narrow : (inside now new : List (List ℕ)) (from to : ℕ) → inside ≡ now → IsNarrowText inside → All IsNarrowLine new → from ≤ to
    → to ≤ length now → from + length new + length now < to + 2 ^ 32 → IsNarrowText (splice inside from to new)
put_narrow inside now new from to same narrow are order within fits =
    let count : length inside ≡ length now = ap length same in
    splice_narrow inside new from to narrow are order (omega arith) (omega arith)
