-- Pieces of a line, and what stands behind them.
use Rattle.std.proofs.Common.{◌≡◌, ◌<◌, ◌≤◌, ◌+◌, ◌-◌, ◌%◌, ℕ, true, false, cond, nat_lt, List, [], ◌∷◌, ◌++◌, length, refl, sym, ap, ◌∙◌, arith, append_assoc, length-append}
use Rattle.std.proofs.lemmas.Bool.Decides.{nat_tests}
use Rattle.nv_text.specs.declared.piece.Piece.{Piece}
use Rattle.nv_text.specs.Laws.{Cover}
use Rattle.nv_text.proofs.PartLemmas.{cover-le}
use Rattle.nv_hl.specs.declared.attribute.Attr.{Attr}
use Rattle.nv_hl.specs.declared.cell.Cell.{Cell}
use Rattle.nv_hl.specs.Attributes.{empty_attr}
use Rattle.nv_hl.specs.Cells.{space}
use Rattle.nv_linedraw.specs.declared.looks.Span.{Span}
use Rattle.nv_linedraw.specs.LineCells.{atoms_from, cell_of_byte_from, cells_ahead, cells_from_column, col_after, piece_atoms, stop_after}
use Rattle.nv_linedraw.proofs.LayLemmas.{cells_from_column-append}
use Rattle.nv_cells_laws.specs.DrawnLines.{column_after, columns_of_pieces}
use Rattle.nv_cells_laws.proofs.OnePiece.{laid_count, next_col, stops, taken}

-- the cells behind pieces, fillers counted
abbrev pub cells_behind : ℕ → ℕ → ℕ → ℕ → List Piece → ℕ
cells_behind w t n at [] = at
cells_behind w t n at (p ∷ ps) = cells_behind w t (column_after t n p.kind) (at + taken w t n at p.kind) ps

pub cells_behind-append : (w t n at : ℕ) (ps qs : List Piece)
    → cells_behind w t n at (ps ++ qs) ≡ cells_behind w t (columns_of_pieces t n ps) (cells_behind w t n at ps) qs
cells_behind-append w t n at [] qs = refl
cells_behind-append w t n at (p ∷ ps) qs = cells_behind-append w t (column_after t n p.kind) (at + taken w t n at p.kind) ps qs

pub columns-append : (t n : ℕ) (ps qs : List Piece) → columns_of_pieces t n (ps ++ qs) ≡ columns_of_pieces t (columns_of_pieces t n ps) qs
columns-append t n [] qs = refl
columns-append t n (p ∷ ps) qs = columns-append t (column_after t n p.kind) ps qs

-- ---- pieces that cover a line

-- a piece behind others begins where they end, or later
pub behind_others : (from : ℕ) (before : List Piece) (p : Piece) (after : List Piece) (to : ℕ) → Cover from (before ++ p ∷ after) to
    → (from ≤ p.from) × (p.from < p.to) × (p.to ≤ to)
behind_others from [] p after to h = (omega (arith, h.0), h.1, cover-le p.to after to h.2)
behind_others from (q ∷ before) p after to h =
    let more = behind_others q.to before p after to h.2 in
    (omega (arith, h.0, h.1, more.0), more.1, more.2)

-- ---- the cell of a byte

not_within : (byte to : ℕ) → to ≤ byte → nat_lt byte to ≡ false
not_within byte to le = grind (arith, nat_tests)

module _ (w t : ℕ) (line : List ℕ) (byte : ℕ) where
  pub found : (n at from : ℕ) (before : List Piece) (p : Piece) (after : List Piece) (to : ℕ) → 0 < w → 0 < t
      → Cover from (before ++ p ∷ after) to → p.from ≤ byte → byte < p.to
      → cell_of_byte_from w t line byte (n % t) (at % w) at (before ++ p ∷ after)
      ≡ cells_behind w t n at before + cells_ahead w (cells_behind w t n at before % w) p.kind
  found n at from [] p after to wide some h le lt =
      let xs = piece_atoms t (n % t) line [] empty_attr p in
      let yes : nat_lt byte p.to ≡ true = grind (arith, nat_tests) in
      ap (λ b. cond b (at + cells_ahead w (at % w) p.kind) (cell_of_byte_from w t line byte (stop_after t (n % t) p.kind) (col_after w (at % w) xs) (at + length (cells_from_column w (space empty_attr) (at % w) xs)) after)) yes
  found n at from (q ∷ before) p after to wide some h le lt =
      let xs = piece_atoms t (n % t) line [] empty_attr q in
      let rest = before ++ p ∷ after in
      let behind = behind_others q.to before p after to h.2 in
      let no = not_within byte q.to (omega (arith, behind.0, le)) in
      let count = laid_count w t n at (space empty_attr) line [] empty_attr q some in
      let stop = stops t n q.kind some in
      let col : col_after w (at % w) xs ≡ (at + taken w t n at q.kind) % w = next_col w (space empty_attr) xs at wide ∙ ap (λ m. (at + m) % w) count in
      ap (λ b. cond b (at + cells_ahead w (at % w) q.kind) (cell_of_byte_from w t line byte (stop_after t (n % t) q.kind) (col_after w (at % w) xs) (at + length (cells_from_column w (space empty_attr) (at % w) xs)) rest)) no
      ∙ (λ i. cell_of_byte_from w t line byte (stop i) (col i) (at + count i) rest)
      ∙ found (column_after t n q.kind) (at + taken w t n at q.kind) q.to before p after to wide some h.2 le lt

  -- no piece has a byte past the line
  pub past : (stop col at from : ℕ) (ps : List Piece) (to : ℕ) → Cover from ps to → to ≤ byte
      → cell_of_byte_from w t line byte stop col at ps ≡ 0
  past stop col at from [] to h le = refl
  past stop col at from (p ∷ ps) to h le =
      let xs = piece_atoms t stop line [] empty_attr p in
      let within = behind_others from [] p ps to h in
      let no = not_within byte p.to (omega (arith, within.2, le)) in
      ap (λ b. cond b (at + cells_ahead w col p.kind) (cell_of_byte_from w t line byte (stop_after t stop p.kind) (col_after w col xs) (at + length (cells_from_column w (space empty_attr) col xs)) ps)) no
      ∙ past (stop_after t stop p.kind) (col_after w col xs) (at + length (cells_from_column w (space empty_attr) col xs)) p.to ps to h.2 le

-- ---- the cells of pieces, and then of others

module _ (w t : ℕ) (f : Cell) (line : List ℕ) (spans : List Span) (special : Attr) where
  -- the cells of pieces, where so many columns and cells stand before them
  abbrev pub laid_from : ℕ → ℕ → List Piece → List Cell
  laid_from n at ps = cells_from_column w f (at % w) (atoms_from t (n % t) line spans special ps)

  -- the cells of a piece, and of those behind it
  pub laid_next : (n at : ℕ) (p : Piece) (ps : List Piece) → 0 < w → 0 < t
      → laid_from n at (p ∷ ps)
      ≡ cells_from_column w f (at % w) (piece_atoms t (n % t) line spans special p) ++ laid_from (column_after t n p.kind) (at + taken w t n at p.kind) ps
  laid_next n at p ps wide some =
      let xs = piece_atoms t (n % t) line spans special p in
      let count = laid_count w t n at f line spans special p some in
      let stop = stops t n p.kind some in
      let col : col_after w (at % w) xs ≡ (at + taken w t n at p.kind) % w = next_col w f xs at wide ∙ ap (λ m. (at + m) % w) count in
      cells_from_column-append w f (at % w) xs (atoms_from t (stop_after t (n % t) p.kind) line spans special ps)
      ∙ (λ i. cells_from_column w f (at % w) xs ++ cells_from_column w f (col i) (atoms_from t (stop i) line spans special ps))

  pub laid_behind : (n at : ℕ) (before rest : List Piece) → 0 < w → 0 < t
      → (xs : List Cell) × (at + length xs ≡ cells_behind w t n at before)
      × (laid_from n at (before ++ rest) ≡ xs ++ laid_from (columns_of_pieces t n before) (cells_behind w t n at before) rest)
  laid_behind n at [] rest wide some = ([], omega arith, refl)
  laid_behind n at (p ∷ before) rest wide some =
      let xs = cells_from_column w f (at % w) (piece_atoms t (n % t) line spans special p) in
      let next = column_after t n p.kind in
      let there = at + taken w t n at p.kind in
      let more = laid_behind next there before rest wide some in
      let count = laid_count w t n at f line spans special p some in (
        xs ++ more.0,
        omega (arith, length-append xs more.0, count, more.1),
        laid_next n at p (before ++ rest) wide some
            ∙ ap (λ cs. xs ++ cs) more.2
            ∙ sym (append_assoc xs more.0 (laid_from (columns_of_pieces t next before) (cells_behind w t next there before) rest)),
      )
