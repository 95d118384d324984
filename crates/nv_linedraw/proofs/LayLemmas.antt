-- Lemmas on cells that are laid one after another.
use Rattle.std.proofs.Common.{◌≡◌, ◌<◌, ◌≤◌, ◌+◌, ◌-◌, ℕ, suc, Bool, true, false, cond, List, [], ◌∷◌, ◌++◌, length, take, drop, replicate, get_or, refl, sym, ap, subst, ◌∙◌, arith, append_assoc, append-nil, ◌==◌}
use Rattle.std.proofs.Math.Seq.{drop-cons}
use Rattle.std.proofs.lemmas.List.{drop_all, take_all, take-append-le}
use Rattle.nv_text.specs.declared.piece.Kind.{Kind}
use Rattle.nv_text.specs.declared.piece.Kind.TheVariants.{Tab, Control, Escape, Cluster}
use Rattle.nv_text.specs.declared.piece.Piece.{Piece}
use Rattle.nv_hl.specs.declared.attribute.Attr.{Attr}
use Rattle.nv_hl.specs.declared.cell.Cell.{Cell}
use Rattle.nv_hl.specs.Cells.{cell_of, right_half, space}
use Rattle.nv_linedraw.specs.declared.looks.Span.{Span}
use Rattle.nv_linedraw.specs.declared.flow.Drawn.{Drawn}
use Rattle.nv_linedraw.specs.inside.DrawnCells.{PiecesAreLaid, LineFlow, drawn_atoms, laid_cells, laid_col, stop_behind}
use Rattle.nv_linedraw.specs.LineCells.{Atom, single, atom_cells, atom_col, atoms_from, cells_from_column, cluster_atom, col_after, filler_of, kind_atoms, piece_atoms, round, stop_after}

-- ---- one equal atom after another

pub equal_step : (w : ℕ) (f c : Cell) (col next : ℕ) (items new goal : List Cell) (k n : ℕ) → k < n
    → new ≡ items ++ c ∷ [] → next ≡ round w col
    → items ++ cells_from_column w f col (replicate (n - k) (single c)) ≡ goal
    → new ++ cells_from_column w f next (replicate (n - (k + 1)) (single c)) ≡ goal
equal_step w f c col next items new goal k n lt pushed moved before =
    let more : n - k ≡ suc (n - (k + 1)) = omega arith in
    let rest = replicate (n - (k + 1)) (single c) in
    (λ i. pushed i ++ cells_from_column w f (moved i) rest)
    ∙ append_assoc items (c ∷ []) (cells_from_column w f (round w col) rest)
    ∙ ap (λ m. items ++ cells_from_column w f col (replicate m (single c))) (sym more)
    ∙ before

pub equal_col : (w : ℕ) (c : Cell) (col next goal k n : ℕ) → k < n → next ≡ round w col
    → col_after w col (replicate (n - k) (single c)) ≡ goal → col_after w next (replicate (n - (k + 1)) (single c)) ≡ goal
equal_col w c col next goal k n lt moved before =
    let more : n - k ≡ suc (n - (k + 1)) = omega arith in
    let rest = replicate (n - (k + 1)) (single c) in
    ap (λ m. col_after w m rest) moved ∙ ap (λ m. col_after w col (replicate m (single c))) (sym more) ∙ before

pub equal_done : (w : ℕ) (f c : Cell) (col : ℕ) (items goal : List Cell) (k n : ℕ) → n ≤ k
    → items ++ cells_from_column w f col (replicate (n - k) (single c)) ≡ goal → items ≡ goal
equal_done w f c col items goal k n le before =
    let none : n - k ≡ 0 = omega arith in
    sym (append-nil items) ∙ ap (λ m. items ++ cells_from_column w f col (replicate m (single c))) (sym none) ∙ before

pub equal_col_done : (w : ℕ) (c : Cell) (col goal k n : ℕ) → n ≤ k
    → col_after w col (replicate (n - k) (single c)) ≡ goal → col ≡ goal
equal_col_done w c col goal k n le before =
    let none : n - k ≡ 0 = omega arith in
    ap (λ m. col_after w col (replicate m (single c))) (sym none) ∙ before

-- ---- atoms one after another

pub cells_from_column-append : (w : ℕ) (f : Cell) (col : ℕ) (xs ys : List Atom)
    → cells_from_column w f col (xs ++ ys) ≡ cells_from_column w f col xs ++ cells_from_column w f (col_after w col xs) ys
cells_from_column-append w f col [] ys = refl
cells_from_column-append w f col (x ∷ xs) ys =
    ap (λ t. atom_cells w f col x ++ t) (cells_from_column-append w f (atom_col w col x) xs ys)
    ∙ sym (append_assoc (atom_cells w f col x) (cells_from_column w f (atom_col w col x) xs) (cells_from_column w f (col_after w (atom_col w col x) xs) ys))

pub col_after-append : (w col : ℕ) (xs ys : List Atom) → col_after w col (xs ++ ys) ≡ col_after w (col_after w col xs) ys
col_after-append w col [] ys = refl
col_after-append w col (x ∷ xs) ys = col_after-append w (atom_col w col x) xs ys

module _ (tabstop : ℕ) (line : List ℕ) (spans : List Span) (special : Attr) where
  pub atoms_from-append : (stop : ℕ) (ps qs : List Piece)
      → atoms_from tabstop stop line spans special (ps ++ qs)
      ≡ atoms_from tabstop stop line spans special ps ++ atoms_from tabstop (stop_behind tabstop stop ps) line spans special qs
  atoms_from-append stop [] qs = refl
  atoms_from-append stop (p ∷ ps) qs =
      ap (λ t. piece_atoms tabstop stop line spans special p ++ t) (atoms_from-append (stop_after tabstop stop p.kind) ps qs)
      ∙ sym (append_assoc (piece_atoms tabstop stop line spans special p) (atoms_from tabstop (stop_after tabstop stop p.kind) line spans special ps)
      (atoms_from tabstop (stop_behind tabstop (stop_after tabstop stop p.kind) ps) line spans special qs))

  -- one piece more was laid
  pub piece_step : (w : ℕ) (f : Cell) (col next stop after k : ℕ) (ps : List Piece) (p : Piece) (items new goal : List Cell)
      → drop k ps ≡ p ∷ drop (k + 1) ps
      → new ≡ items ++ cells_from_column w f col (piece_atoms tabstop stop line spans special p)
      → next ≡ col_after w col (piece_atoms tabstop stop line spans special p)
      → after ≡ stop_after tabstop stop p.kind
      → items ++ cells_from_column w f col (atoms_from tabstop stop line spans special (drop k ps)) ≡ goal
      → new ++ cells_from_column w f next (atoms_from tabstop after line spans special (drop (k + 1) ps)) ≡ goal
  piece_step w f col next stop after k ps p items new goal here pushed moved stopped before =
      let xs = piece_atoms tabstop stop line spans special p in
      let ys = atoms_from tabstop (stop_after tabstop stop p.kind) line spans special (drop (k + 1) ps) in
      (λ i. pushed i ++ cells_from_column w f (moved i) (atoms_from tabstop (stopped i) line spans special (drop (k + 1) ps)))
      ∙ append_assoc items (cells_from_column w f col xs) (cells_from_column w f (col_after w col xs) ys)
      ∙ ap (λ t. items ++ t) (sym (cells_from_column-append w f col xs ys))
      ∙ ap (λ t. items ++ cells_from_column w f col (atoms_from tabstop stop line spans special t)) (sym here)
      ∙ before

  pub piece_col : (w : ℕ) (col next stop after k goal : ℕ) (ps : List Piece) (p : Piece)
      → drop k ps ≡ p ∷ drop (k + 1) ps
      → next ≡ col_after w col (piece_atoms tabstop stop line spans special p)
      → after ≡ stop_after tabstop stop p.kind
      → col_after w col (atoms_from tabstop stop line spans special (drop k ps)) ≡ goal
      → col_after w next (atoms_from tabstop after line spans special (drop (k + 1) ps)) ≡ goal
  piece_col w col next stop after k goal ps p here moved stopped before =
      let xs = piece_atoms tabstop stop line spans special p in
      let ys = atoms_from tabstop (stop_after tabstop stop p.kind) line spans special (drop (k + 1) ps) in
      (λ i. col_after w (moved i) (atoms_from tabstop (stopped i) line spans special (drop (k + 1) ps)))
      ∙ sym (col_after-append w col xs ys)
      ∙ ap (λ t. col_after w col (atoms_from tabstop stop line spans special t)) (sym here)
      ∙ before

pub piece_stop : (tabstop stop after k goal : ℕ) (ps : List Piece) (p : Piece) → drop k ps ≡ p ∷ drop (k + 1) ps → after ≡ stop_after tabstop stop p.kind
    → stop_behind tabstop stop (drop k ps) ≡ goal → stop_behind tabstop after (drop (k + 1) ps) ≡ goal
piece_stop tabstop stop after k goal ps p here stopped before =
    ap (λ s. stop_behind tabstop s (drop (k + 1) ps)) stopped ∙ ap (stop_behind tabstop stop) (sym here) ∙ before

-- ---- each piece has a cell

some_pair : (b d : Bool) (f c r : Cell) → 0 < length (cond b (f ∷ []) (cond d (f ∷ c ∷ r ∷ []) (c ∷ r ∷ [])) ++ [])
some_pair true d f c r = omega arith
some_pair false true f c r = omega arith
some_pair false false f c r = omega arith

some_cluster : (b : Bool) (text : List ℕ) (attr : Attr) (w : ℕ) (f : Cell) (col : ℕ)
    → 0 < length (cells_from_column w f col (cluster_atom b text attr ∷ []))
some_cluster true text attr w f col = some_pair (w == 1) (col + 1 == w) f (cell_of text attr) (right_half attr)
some_cluster false text attr w f col = omega arith

some_kind : (tabstop stop : ℕ) (attr special : Attr) (text : List ℕ) (k : Kind) (w : ℕ) (f : Cell) (col : ℕ) → stop < tabstop
    → 0 < length (cells_from_column w f col (kind_atoms tabstop stop attr special text k))
some_kind tabstop stop attr special text Tab w f col lt =
    let more : suc (tabstop - stop - 1) ≡ tabstop - stop = omega arith in
    let first : 0 < length (cells_from_column w f col (replicate (suc (tabstop - stop - 1)) (single (space attr)))) = omega arith in
    subst (λ n. 0 < length (cells_from_column w f col (replicate n (single (space attr))))) more first
some_kind tabstop stop attr special text (Control byte) w f col lt = omega arith
some_kind tabstop stop attr special text (Escape byte) w f col lt = omega arith
some_kind tabstop stop attr special text (Cluster width) w f col lt = some_cluster (width == 2) text attr w f col

pub some_cells : (tabstop stop : ℕ) (line : List ℕ) (spans : List Span) (special : Attr) (p : Piece) (w : ℕ) (f : Cell) (col : ℕ)
    → stop < tabstop → 0 < length (cells_from_column w f col (piece_atoms tabstop stop line spans special p))
some_cells tabstop stop line spans special p w f col lt = some_kind tabstop stop _ special _ p.kind w f col lt

-- ---- what was laid is a front

pub front_of : {X : Type 0} (xs ys zs : List X) → xs ++ ys ≡ zs → xs ≡ take (length xs) zs
front_of xs ys zs is =
    sym (take_all (length xs) xs (omega arith)) ∙ sym (take-append-le (length xs) xs ys (omega arith)) ∙ ap (take (length xs)) is

pub drop_at : {X : Type 0} (xs : List X) (k : ℕ) (d : X) → k < length xs → drop k xs ≡ get_or xs k d ∷ drop (k + 1) xs
drop_at xs k d lt =
    let next : suc k ≡ k + 1 = omega arith in
    drop-cons xs k d lt ∙ ap (λ n. get_or xs k d ∷ drop n xs) next

-- all pieces were laid
pub all_laid : (d : Drawn) (most : ℕ) (ps : List Piece) (k : ℕ) (before after : LineFlow) → length ps ≤ k
    → after.cells ++ cells_from_column d.width (filler_of d.looks.now) after.col (drawn_atoms d after.stop (drop k ps)) ≡ laid_cells d before ps
    → col_after d.width after.col (drawn_atoms d after.stop (drop k ps)) ≡ laid_col d before ps
    → stop_behind d.tabstop after.stop (drop k ps) ≡ stop_behind d.tabstop before.stop ps
    → k + length before.cells ≤ length after.cells
    → PiecesAreLaid d most ps before after
all_laid d most ps k before after le cells col stop count =
    let none : drop k ps ≡ [] = drop_all k ps le in
    let all : after.cells ≡ laid_cells d before ps =
    sym (append-nil after.cells)
    ∙ ap (λ qs. after.cells ++ cells_from_column d.width (filler_of d.looks.now) after.col (drawn_atoms d after.stop qs)) (sym none)
    ∙ cells in
    record {
      front = sym (take_all (length after.cells) after.cells (omega arith)) ∙ ap (take (length after.cells)) all;
      all = λ few. all;
      col = λ few. ap (λ qs. col_after d.width after.col (drawn_atoms d after.stop qs)) (sym none) ∙ col;
      stop = λ few. ap (stop_behind d.tabstop after.stop) (sym none) ∙ stop;
      count = λ few. omega (arith, le, count);
    }
