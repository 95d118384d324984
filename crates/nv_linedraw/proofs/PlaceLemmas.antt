-- Lemmas on where a byte of a line stands.
use Rattle.std.proofs.Common.{◌≡◌, ◌<◌, ◌≤◌, ◌+◌, ◌-◌, ◌*◌, ◌/◌, ◌%◌, ℕ, zero, suc, Bool, true, false, cond, ◌==◌, nat_lt, min, List, [], ◌∷◌, ◌++◌, length, take, replicate, refl, sym, ap, ◌∙◌, arith, ⊎_elim}
use Rattle.std.proofs.Math.Nat.{div-add-mod', mod-add-mod, mul-add-div_right, mul-add-mod_self_right, mod-eq_of_lt, zero-div, zero-mod}
use Rattle.std.proofs.lemmas.Bool.{cases_lt}
use Rattle.std.proofs.lemmas.Bool.Decides.{nat_tests}
use Rattle.std.proofs.lemmas.Nat.{mod_below}
use Rattle.nv_text.specs.declared.piece.Kind.{Kind}
use Rattle.nv_text.specs.declared.piece.Kind.TheVariants.{Tab, Control, Escape, Cluster}
use Rattle.nv_text.specs.declared.piece.Piece.{Piece}
use Rattle.nv_text.specs.Laws.{Cover}
use Rattle.nv_text.specs.Pieces.{pieces_of}
use Rattle.nv_text.proofs.PartLemmas.{lines_are_covered}
use Rattle.nv_hl.specs.declared.attribute.Attr.{Attr}
use Rattle.nv_hl.specs.declared.cell.Cell.{Cell}
use Rattle.nv_hl.specs.Attributes.{empty_attr}
use Rattle.nv_hl.specs.Cells.{cell_of, right_half, space}
use Rattle.nv_linedraw.specs.LineCells.{cell_of_byte, cell_of_byte_from, cells_ahead, cells_from_column, cluster_atom, col_after, kind_atoms, piece_atoms, round, single, stop_after}
use Rattle.nv_linedraw.specs.inside.Placing.{StandsAt, cells_taken}
use Rattle.nv_linedraw.proofs.WholeLemmas.{passes_all}

-- ---- places go on

pub moves_on : (w most row col n cell next : ℕ) → 0 < w → next ≡ min most (row + (col + n) / w)
    → StandsAt w most row col cell → StandsAt w most next ((col + n) % w) (cell + n)
moves_on w most row col n cell next wide is at =
    let rest = cell % w + n in
    let whole : cell + n ≡ cell / w * w + rest = omega (arith, div-add-mod' cell w) in
    let rows : (cell + n) / w ≡ cell / w + rest / w = ap (λ k. k / w) whole ∙ mul-add-div_right wide (cell / w) rest in
    let same : (col + n) / w ≡ rest / w = ap (λ k. (k + n) / w) at.col_is in
    record {
      row_is = omega (arith, is, at.row_is, rows, same);
      col_is = ap (λ k. (k + n) % w) at.col_is ∙ mod-add-mod cell w n;
    }

-- the column behind atoms, by the number of their cells
pub col_by_count : (w : ℕ) (f : Cell) (t stop : ℕ) (line : List ℕ) (p : Piece) (at : ℕ) → 0 < w
    → col_after w (at % w) (piece_atoms t stop line [] empty_attr p)
    ≡ (at + length (cells_from_column w f (at % w) (piece_atoms t stop line [] empty_attr p))) % w
col_by_count w f t stop line p at wide =
    let xs = piece_atoms t stop line [] empty_attr p in
    let n = length (cells_from_column w f (at % w) xs) in
    let next = col_after w (at % w) xs in
    let passes = passes_all w f (at % w) xs (mod_below at w wide) in
    sym (mod-eq_of_lt passes.within)
    ∙ sym (mul-add-mod_self_right passes.rows w next)
    ∙ ap (λ k. k % w) (sym passes.is)
    ∙ mod-add-mod at w n

-- ---- the cells of a piece

equal_count : (w : ℕ) (f c : Cell) (col n : ℕ) → length (cells_from_column w f col (replicate n (single c))) ≡ n
equal_count w f c col zero = refl
equal_count w f c col (suc n) = ap suc (equal_count w f c (round w col) n)

pair_count : (b e : Bool) (f c d : Cell)
    → length (cond b (f ∷ []) (cond e (f ∷ c ∷ d ∷ []) (c ∷ d ∷ [])) ++ []) ≡ cond b 1 (cond e 3 2)
pair_count true e f c d = refl
pair_count false true f c d = refl
pair_count false false f c d = refl

cluster_count : (b : Bool) (w : ℕ) (f : Cell) (col : ℕ) (text : List ℕ) (attr : Attr)
    → length (cells_from_column w f col (cluster_atom b text attr ∷ [])) ≡ cond b (cond (w == 1) 1 (cond (col + 1 == w) 3 2)) 1
cluster_count true w f col text attr = pair_count (w == 1) (col + 1 == w) f (cell_of text attr) (right_half attr)
cluster_count false w f col text attr = refl

kind_count : (w : ℕ) (f : Cell) (col t stop : ℕ) (attr special : Attr) (text : List ℕ) (k : Kind)
    → length (cells_from_column w f col (kind_atoms t stop attr special text k)) ≡ cells_taken w (t - stop) col k
kind_count w f col t stop attr special text Tab = equal_count w f (space attr) col (t - stop)
kind_count w f col t stop attr special text (Control byte) = refl
kind_count w f col t stop attr special text (Escape byte) = refl
kind_count w f col t stop attr special text (Cluster n) = cluster_count (n == 2) w f col text attr

pub piece_count : (w : ℕ) (f : Cell) (col t stop : ℕ) (line : List ℕ) (p : Piece)
    → length (cells_from_column w f col (piece_atoms t stop line [] empty_attr p)) ≡ cells_taken w (t - stop) col p.kind
piece_count w f col t stop line p = kind_count w f col t stop _ empty_attr _ p.kind

-- ---- pieces that come before a byte

module _ (w t : ℕ) (line : List ℕ) (byte : ℕ) where
  -- the cell of the byte, where pieces are left behind so many cells
  abbrev pub sought : ℕ → ℕ → List Piece → ℕ
  sought stop at ps = cell_of_byte_from w t line byte stop (at % w) at ps

  pub found_here : (stop at : ℕ) (p : Piece) (ps : List Piece) → byte < p.to
      → sought stop at (p ∷ ps) ≡ at + cells_ahead w (at % w) p.kind
  found_here stop at p ps lt =
      let yes : nat_lt byte p.to ≡ true = grind (arith, nat_tests) in
      ap (λ b. cond b (at + cells_ahead w (at % w) p.kind) (cell_of_byte_from w t line byte (stop_after t stop p.kind) (col_after w (at % w) (piece_atoms t stop line [] empty_attr p)) (at + length (cells_from_column w (space empty_attr) (at % w) (piece_atoms t stop line [] empty_attr p))) ps)) yes

  pub found_later : (stop at next n : ℕ) (p : Piece) (ps : List Piece) → 0 < w → p.to ≤ byte
      → n ≡ cells_taken w (t - stop) (at % w) p.kind → next ≡ stop_after t stop p.kind
      → sought stop at (p ∷ ps) ≡ sought next (at + n) ps
  found_later stop at next n p ps wide le count stopped =
      let xs = piece_atoms t stop line [] empty_attr p in
      let f = space empty_attr in
      let k = length (cells_from_column w f (at % w) xs) in
      let no : nat_lt byte p.to ≡ false = grind (arith, nat_tests) in
      let is : k ≡ n = piece_count w f (at % w) t stop line p ∙ sym count in
      ap (λ b. cond b (at + cells_ahead w (at % w) p.kind) (cell_of_byte_from w t line byte (stop_after t stop p.kind) (col_after w (at % w) xs) (at + k) ps)) no
      ∙ ap (λ c. cell_of_byte_from w t line byte (stop_after t stop p.kind) c (at + k) ps) (col_by_count w f t stop line p at wide)
      ∙ (λ i. sought (sym stopped i) (at + is i) ps)

  -- the first pieces are enough
  enough : (stop col at from n : ℕ) (ps : List Piece) (to : ℕ) → Cover from ps to → from ≤ byte → byte < from + n
      → cell_of_byte_from w t line byte stop col at (take n ps) ≡ cell_of_byte_from w t line byte stop col at ps
  enough stop col at from zero ps to cover le lt = absurd (omega (arith, le, lt))
  enough stop col at from (suc n) [] to cover le lt = refl
  enough stop col at from (suc n) (p ∷ ps) to cover le lt =
      let xs = piece_atoms t stop line [] empty_attr p in
      let here = at + cells_ahead w col p.kind in
      let later = λ (qs : List Piece). cell_of_byte_from w t line byte (stop_after t stop p.kind) (col_after w col xs) (at + length (cells_from_column w (space empty_attr) col xs)) qs in
      ⊎_elim
      (λ (in_it : byte < p.to).
      let yes : nat_lt byte p.to ≡ true = grind (arith, nat_tests) in
      ap (λ b. cond b here (later (take n ps))) yes ∙ sym (ap (λ b. cond b here (later ps)) yes))
      (λ (behind : p.to ≤ byte).
      ap (λ k. cond (nat_lt byte p.to) here k)
      (enough (stop_after t stop p.kind) (col_after w col xs) _ p.to n ps to cover.2 behind (omega (arith, cover.0, cover.1, lt))))
      (cases_lt byte p.to)

  pub first_are_enough : (ps : List Piece) → 0 < w → ps ≡ take (byte + 1) (pieces_of line)
      → sought 0 0 ps ≡ cell_of_byte w t line byte
  first_are_enough ps wide is =
      ap (λ qs. sought 0 0 qs) is
      ∙ ap (λ c. cell_of_byte_from w t line byte 0 c 0 (take (byte + 1) (pieces_of line))) (mod-eq_of_lt wide)
      ∙ enough 0 0 0 0 (byte + 1) (pieces_of line) (length line) (lines_are_covered line) (omega arith) (omega arith)

pub stands_at_first : (w most : ℕ) → 0 < w → StandsAt w most 0 0 0
stands_at_first w most wide = record {
  row_is = omega (arith, zero-div w);
  col_is = sym (zero-mod w);
}
