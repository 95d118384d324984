-- Lemmas on lines of printable ASCII without spans: each byte is a cell by itself.
use Rattle.std.proofs.Common.{◌≡◌, ◌<◌, ◌≤◌, ◌+◌, ◌-◌, ◌*◌, ◌/◌, ◌%◌, ℕ, suc, min, true, ◌==◌, List, [], ◌∷◌, ◌++◌, length, take, drop, map, replicate, refl, sym, ap, ap₂, ◌∙◌, arith, append-nil, length-append, ⊎_elim}
use Rattle.std.proofs.Math.Nat.{mod-eq_of_lt, mul-add-mod_self_right}
use Rattle.std.proofs.lemmas.Bool.{cases_lt}
use Rattle.std.proofs.lemmas.List.{drop-drop, length-map, length-replicate, take-append-le, take-map, take-replicate, take_all, drop_all}
use Rattle.std.proofs.lemmas.Str.{utf8_valid_len-IsUtf8, IsUtf8-from_ascii}
use Rattle.std.specs.List.{list_all}
use Rattle.std.specs.Str.Lossy.{utf8_valid_len}
use Rattle.nv_text.specs.declared.piece.Kind.TheVariants.{Cluster}
use Rattle.nv_text.specs.Pieces.{parts, parts_from_escape, pieces_from, pieces_of, text_parts}
use Rattle.nv_text.proofs.PartLemmas.{parts_step}
use Rattle.nv_text.proofs.PlainLemmas.{ascii_from_printable, is_printable, plain_pieces, plain_placed}
use Rattle.nv_hl.specs.declared.attribute.Attr.{Attr}
use Rattle.nv_hl.specs.declared.cell.Cell.{Cell}
use Rattle.nv_hl.specs.Attributes.{empty_attr}
use Rattle.nv_hl.specs.Cells.{cell_of, space}
use Rattle.nv_linedraw.specs.declared.looks.Looks.{Looks}
use Rattle.nv_linedraw.specs.LineCells.{atoms_from, cells_from_column, cells_of_line, col_after, filler_of, filling, line_atoms, no_looks, round, rows_of_line, stop_after}
use Rattle.nv_linedraw.specs.inside.Plain.{byte_cell, plain_filling, plain_line}
use Rattle.nv_linedraw.proofs.WholeLemmas.{passes_all}

-- ---- the pieces of a plain line

whole_text : (line : List ℕ) → list_all is_printable line ≡ true → parts line ≡ text_parts line
whole_text line plain =
    let all : utf8_valid_len line ≡ length line = utf8_valid_len-IsUtf8 line (IsUtf8-from_ascii line (ascii_from_printable line plain)) in
    parts_step line
    ∙ ap₂ (λ (front rest : List ℕ). text_parts front ++ parts_from_escape parts rest)
    (take_all (utf8_valid_len line) line (omega (arith, all))) (drop_all (utf8_valid_len line) line (omega (arith, all)))
    ∙ append-nil (text_parts line)

pub pieces_are_plain : (line : List ℕ) → list_all is_printable line ≡ true → pieces_of line ≡ plain_pieces 0 (length line)
pieces_are_plain line plain = ap (pieces_from 0) (whole_text line plain) ∙ plain_placed 0 line plain

-- ---- their cells

module _ (w : ℕ) (f : Cell) (t : ℕ) (line : List ℕ) (special : Attr) where
  cells_are : (col stop at : ℕ) (rest : List ℕ) → drop at line ≡ rest
      → cells_from_column w f col (atoms_from t stop line [] special (plain_pieces at (length rest))) ≡ map byte_cell rest
  cells_are col stop at [] here = refl
  cells_are col stop at (c ∷ cs) here =
      let one : at + 1 - at ≡ 1 = omega arith in
      let byte : take (at + 1 - at) (drop at line) ≡ c ∷ [] = ap₂ take one here in
      let next : drop (at + 1) line ≡ cs = sym (drop-drop 1 at line) ∙ ap (drop 1) here in
      ap₂ (λ (text : List ℕ) (more : List Cell). cell_of text empty_attr ∷ more) byte
      (cells_are (round w col) (stop_after t stop (Cluster 1)) (at + 1) cs next)

  pub plain_line_cells : list_all is_printable line ≡ true
      → cells_from_column w f 0 (atoms_from t 0 line [] special (pieces_of line)) ≡ map byte_cell line
  plain_line_cells plain =
      ap (λ ps. cells_from_column w f 0 (atoms_from t 0 line [] special ps)) (pieces_are_plain line plain)
      ∙ cells_are 0 0 0 line refl

-- the column behind so many cells
col_behind : (w rows next count : ℕ) → next < w → count ≡ rows * w + next → next ≡ count % w
col_behind w rows next count lt is = sym (ap (λ n. n % w) is ∙ mul-add-mod_self_right rows w next ∙ mod-eq_of_lt lt)

-- the cells of a plain line in whole rows
pub cells_of_plain : (w t : ℕ) (line : List ℕ) (looks : Looks) → 0 < w → list_all is_printable line ≡ true
    → cells_of_line w t line [] looks ≡ plain_line w line
unfolding cells_of_line
cells_of_plain w t line looks wide plain =
    let atoms = line_atoms t line [] looks in
    let f = filler_of looks in
    let cells : cells_from_column w f 0 atoms ≡ map byte_cell line = plain_line_cells w f t line looks.special plain in
    let passes = passes_all w f 0 atoms wide in
    let count : length line ≡ passes.rows * w + col_after w 0 atoms =
    omega (arith, ap length cells, length-map line byte_cell, passes.is) in
    let col : col_after w 0 atoms ≡ length line % w = col_behind w passes.rows (col_after w 0 atoms) (length line) passes.within count in
    ap₂ (λ (cs : List Cell) k. cs ++ replicate (filling w (length line == 0) k) (space empty_attr)) cells col

-- ---- how many rows they take

plain_count : (w : ℕ) (line : List ℕ) → length (plain_line w line) ≡ length line + plain_filling w (length line)
plain_count w line = omega (
  arith,
  length-append (map byte_cell line) (replicate (plain_filling w (length line)) (space empty_attr)),
  length-map line byte_cell,
  length-replicate (plain_filling w (length line)) (space empty_attr),
)

pub rows_of_plain : (w t : ℕ) (line : List ℕ) → 0 < w → list_all is_printable line ≡ true
    → rows_of_line w t line ≡ (length line + plain_filling w (length line)) / w
rows_of_plain w t line wide plain = ap (λ cs. length cs / w) (cells_of_plain w t line no_looks wide plain) ∙ ap (λ n. n / w) (plain_count w line)

-- ---- the first of them

pub front_of_plain : (w most : ℕ) (line : List ℕ) → most ≤ length line → map byte_cell (take most line) ≡ take most (plain_line w line)
front_of_plain w most line le =
    sym (take-map byte_cell most line)
    ∙ sym (take-append-le most (map byte_cell line) (replicate (plain_filling w (length line)) (space empty_attr)) (omega (arith, length-map line byte_cell)))

beyond : {X : Type 0} (k : ℕ) (xs ys : List X) → take (length xs + k) (xs ++ ys) ≡ xs ++ take k ys
beyond k [] ys =
    let none : 0 + k ≡ k = omega arith in
    ap (λ n. take n ys) none
beyond k (x ∷ xs) ys =
    let more : suc (length xs) + k ≡ suc (length xs + k) = omega arith in
    ap (λ n. take n (x ∷ (xs ++ ys))) more ∙ ap (λ t. x ∷ t) (beyond k xs ys)

some_of : {X : Type 0} (k n : ℕ) (x : X) → take k (replicate n x) ≡ replicate (min n k) x
some_of k n x =
    ⊎_elim
    (λ (few : k < n). take-replicate k n x (omega (arith, few)) ∙ ap (λ m. replicate m x) (omega (arith, few)))
    (λ (all : n ≤ k). take_all k (replicate n x) (omega (arith, all, length-replicate n x)) ∙ ap (λ m. replicate m x) (omega (arith, all)))
    (cases_lt k n)

pub whole_of_plain : (w most : ℕ) (line : List ℕ) → length line ≤ most
    → map byte_cell line ++ replicate (min (plain_filling w (length line)) (most - length line)) (space empty_attr) ≡ take most (plain_line w line)
whole_of_plain w most line le =
    let cs = map byte_cell line in
    let blanks = plain_filling w (length line) in
    let split : most ≡ length cs + (most - length line) = omega (arith, le, length-map line byte_cell) in
    sym (ap (λ n. take n (plain_line w line)) split
    ∙ beyond (most - length line) cs (replicate blanks (space empty_attr))
    ∙ ap (λ t. cs ++ t) (some_of (most - length line) blanks (space empty_attr)))
