-- Lemmas on a text in one row: laid in rows that are long enough, it has the same cells.
use Rattle.std.proofs.Common.{◌≡◌, ◌<◌, ◌≤◌, ◌+◌, ◌-◌, ℕ, zero, suc, Bool, true, false, cond, ◌&&◌, ◌==◌, nat_le, nat_lt, Option, None, Some, List, [], ◌∷◌, ◌++◌, length, map, take, drop, replicate, get_or, set, slice_range, refl, sym, ap, ◌∙◌, arith}
use Rattle.std.specs.Option.{option_or}
use Rattle.std.proofs.lemmas.Bool.Decides.{nat_tests}
use Rattle.std.proofs.lemmas.List.{append-nil, drop_all, map-append, take_all, take-map}
use Rattle.nv_text.specs.declared.piece.Kind.{Kind}
use Rattle.nv_text.specs.declared.piece.Kind.TheVariants.{Tab, Control, Escape, Cluster}
use Rattle.nv_text.specs.declared.piece.Piece.{Piece}
use Rattle.nv_text.specs.Laws.{Cover}
use Rattle.nv_text.specs.Pieces.{pieces_of}
use Rattle.nv_text.proofs.PartLemmas.{cover-le, lines_are_covered}
use Rattle.nv_hl.specs.declared.attribute.Attr.{Attr}
use Rattle.nv_hl.specs.declared.cell.Cell.{Cell}
use Rattle.nv_hl.specs.Attributes.{combined, empty_attr}
use Rattle.nv_hl.specs.Cells.{right_half, space}
use Rattle.nv_linedraw.specs.declared.flow.Drawn.{Drawn}
use Rattle.nv_linedraw.specs.inside.DrawnCells.{LineFlow, PiecesAreLaid, laid_cells}
use Rattle.nv_linedraw.specs.inside.OneRow.{recoloured}
use Rattle.nv_linedraw.specs.LineCells.{Atom, single, double, atoms_from, attr_at, cells_from_column, cells_in_one_row, cluster_atom, control_text, escape_text, filler_of, kind_atoms, no_looks, ones, pair_cells, pair_col, piece_atoms, round, stop_after, whole_span}
use Rattle.nv_linedraw.proofs.FirstLemmas.{laid_front, total}

-- ---- atoms with another attribute

abbrev pub recoloured_atom : Attr → Atom → Atom
recoloured_atom attr (single c) = single (recoloured attr c)
recoloured_atom attr (double c) = double (recoloured attr c)

or_none : (x : Option ℕ) → option_or x None ≡ x
or_none None = refl
or_none (Some x) = refl

over_empty : (attr : Attr) → combined empty_attr attr ≡ attr
over_empty attr = λ i. record attr {
  fg = or_none attr.fg i;
  bg = or_none attr.bg i;
  sp = or_none attr.sp i;
  ctermfg = or_none attr.ctermfg i;
  ctermbg = or_none attr.ctermbg i;
}

span_attr_at : (attr : Attr) (text : List ℕ) (k : ℕ) → k < length text → attr_at (whole_span attr text) k ≡ attr
span_attr_at attr text k lt =
    let yes : (nat_le 0 k && nat_lt k (length text)) ≡ true = grind (arith, nat_tests) in
    ap (λ b. cond b (combined empty_attr attr) empty_attr) yes ∙ over_empty attr

equal_atoms : (attr : Attr) (n : ℕ) → replicate n (single (space attr)) ≡ map (recoloured_atom attr) (replicate n (single (space empty_attr)))
equal_atoms attr zero = refl
equal_atoms attr (suc n) = ap (λ r. single (space attr) ∷ r) (equal_atoms attr n)

cluster_with_attr : (b : Bool) (attr : Attr) (text : List ℕ) → cluster_atom b text attr ≡ recoloured_atom attr (cluster_atom b text empty_attr)
cluster_with_attr true attr text = refl
cluster_with_attr false attr text = refl

kind_with_attr : (t stop : ℕ) (attr : Attr) (text : List ℕ) (k : Kind)
    → kind_atoms t stop attr empty_attr text k ≡ map (recoloured_atom attr) (kind_atoms t stop empty_attr empty_attr text k)
kind_with_attr t stop attr text Tab = equal_atoms attr (t - stop)
kind_with_attr t stop attr text (Control byte) = ap (ones (control_text byte)) (over_empty attr)
kind_with_attr t stop attr text (Escape byte) = ap (ones (escape_text byte)) (over_empty attr)
kind_with_attr t stop attr text (Cluster width) = ap (λ a. a ∷ []) (cluster_with_attr (width == 2) attr text)

atoms_with_attr : (t stop : ℕ) (attr : Attr) (text : List ℕ) (from : ℕ) (ps : List Piece) → Cover from ps (length text)
    → atoms_from t stop text (whole_span attr text) empty_attr ps ≡ map (recoloured_atom attr) (atoms_from t stop text [] empty_attr ps)
atoms_with_attr t stop attr text from [] h = refl
atoms_with_attr t stop attr text from (p ∷ ps) h =
    let before : p.from < length text = omega (arith, h.1, cover-le p.to ps (length text) h.2) in
    let rest = atoms_from t (stop_after t stop p.kind) text [] empty_attr ps in
    (λ i. kind_atoms t stop (span_attr_at attr text p.from before i) empty_attr (slice_range text p.from p.to) p.kind
    ++ atoms_with_attr t (stop_after t stop p.kind) attr text p.to ps h.2 i)
    ∙ ap (λ xs. xs ++ map (recoloured_atom attr) rest) (kind_with_attr t stop attr (slice_range text p.from p.to) p.kind)
    ∙ sym (map-append (recoloured_atom attr) (piece_atoms t stop text [] empty_attr p) rest)

-- ---- rows that are long enough

no_end : (col : ℕ) → (col + 1 == 0) ≡ false
no_end col = grind (arith, nat_tests)

not_end : (w col : ℕ) → col + 1 < w → (col + 1 == w) ≡ false
not_end w col lt = grind (arith, nat_tests)

not_narrow : (w col : ℕ) → col + 1 < w → (w == 1) ≡ false
not_narrow w col lt = grind (arith, nat_tests)

round_on : (w col : ℕ) → col + 1 < w → round w col ≡ col + 1
round_on w col lt = ap (λ b. cond b 0 (col + 1)) (not_end w col lt)

round_endless : (col : ℕ) → round 0 col ≡ col + 1
round_endless col = ap (λ b. cond b 0 (col + 1)) (no_end col)

pair_endless : (g c : Cell) (col : ℕ) → pair_cells 0 g col c ≡ c ∷ right_half c.attr ∷ []
pair_endless g c col = ap (λ b. cond b (g ∷ c ∷ right_half c.attr ∷ []) (c ∷ right_half c.attr ∷ [])) (no_end col)

pair_on : (w : ℕ) (f c : Cell) (col : ℕ) → col + 1 < w → pair_cells w f col c ≡ c ∷ right_half c.attr ∷ []
pair_on w f c col lt =
    ap (λ b. cond b (f ∷ []) (cond (col + 1 == w) (f ∷ c ∷ right_half c.attr ∷ []) (c ∷ right_half c.attr ∷ []))) (not_narrow w col lt)
    ∙ ap (λ b. cond b (f ∷ c ∷ right_half c.attr ∷ []) (c ∷ right_half c.attr ∷ [])) (not_end w col lt)

col_endless : (col : ℕ) → pair_col 0 col ≡ col + 1 + 1
col_endless col =
    ap (λ b. cond b (round 0 1) (round 0 (round 0 col))) (no_end col)
    ∙ ap (round 0) (round_endless col) ∙ round_endless (col + 1)

col_on : (w col : ℕ) → col + 1 + 1 < w → pair_col w col ≡ col + 1 + 1
col_on w col lt =
    ap (λ b. cond b 0 (cond (col + 1 == w) (round w 1) (round w (round w col)))) (not_narrow w col (omega arith))
    ∙ ap (λ b. cond b (round w 1) (round w (round w col))) (not_end w col (omega arith))
    ∙ ap (round w) (round_on w col (omega arith)) ∙ round_on w (col + 1) lt

module _ (w : ℕ) (f g : Cell) (attr : Attr) where
  abbrev endless : ℕ → List Atom → List Cell
  endless col xs = cells_from_column 0 g col (map (recoloured_atom attr) xs)

  abbrev inside : ℕ → List Atom → List Cell
  inside col xs = cells_from_column w f col xs

  front_same : (col most : ℕ) (xs : List Atom) → col + most < w
      → take most (endless col xs) ≡ map (recoloured attr) (take most (inside col xs))
  front_same col zero xs lt = refl
  front_same col (suc m) [] lt = refl
  front_same col (suc m) (single c ∷ xs) lt =
      ap (λ r. recoloured attr c ∷ r)
      (ap (λ k. take m (endless k xs)) (round_endless col)
      ∙ front_same (col + 1) m xs (omega (arith, lt))
      ∙ ap (λ k. map (recoloured attr) (take m (inside k xs))) (sym (round_on w col (omega (arith, lt)))))
  front_same col (suc zero) (double c ∷ xs) lt =
      ap (λ p. take 1 (p ++ endless (pair_col 0 col) xs)) (pair_endless g (recoloured attr c) col)
      ∙ sym (ap (λ p. map (recoloured attr) (take 1 (p ++ inside (pair_col w col) xs))) (pair_on w f c col (omega (arith, lt))))
  front_same col (suc (suc m)) (double c ∷ xs) lt =
      ap (λ p. take (suc (suc m)) (p ++ endless (pair_col 0 col) xs)) (pair_endless g (recoloured attr c) col)
      ∙ ap (λ r. recoloured attr c ∷ right_half attr ∷ r)
      (ap (λ k. take m (endless k xs)) (col_endless col)
      ∙ front_same (col + 1 + 1) m xs (omega (arith, lt))
      ∙ ap (λ k. map (recoloured attr) (take m (inside k xs))) (sym (col_on w col (omega (arith, lt)))))
      ∙ sym (ap (λ p. map (recoloured attr) (take (suc (suc m)) (p ++ inside (pair_col w col) xs))) (pair_on w f c col (omega (arith, lt))))

-- ---- cells changed one after another

pub changed_next : {X : Type 0} (f : X → X) (ys : List X) (i : ℕ) (d : X) → i < length ys
    → set (map f (take i ys) ++ drop i ys) i (f (get_or (map f (take i ys) ++ drop i ys) i d)) ≡ map f (take (suc i) ys) ++ drop (suc i) ys
changed_next f [] i d lt = absurd (omega (arith, lt))
changed_next f (y ∷ ys) zero d lt = refl
changed_next f (y ∷ ys) (suc i) d lt = ap (λ r. f y ∷ r) (changed_next f ys i d (omega (arith, lt)))

pub changed_step : {X : Type 0} (f : X → X) (xs ys : List X) (i : ℕ) (d : X) → i < length ys
    → xs ≡ map f (take i ys) ++ drop i ys
    → set xs i (f (get_or xs i d)) ≡ map f (take (i + 1) ys) ++ drop (i + 1) ys
changed_step f xs ys i d lt is =
    let next : suc i ≡ i + 1 = omega arith in
    ap (λ zs. set zs i (f (get_or zs i d))) is ∙ changed_next f ys i d lt ∙ ap (λ k. map f (take k ys) ++ drop k ys) next

pub changed_all : {X : Type 0} (f : X → X) (xs ys : List X) (i : ℕ) → length ys ≤ i → xs ≡ map f (take i ys) ++ drop i ys → xs ≡ map f ys
changed_all f xs ys i le is =
    is ∙ (λ j. map f (take_all i ys le j) ++ drop_all i ys le j) ∙ append-nil (map f ys)

-- ---- the first cells of the row

row_front : (w t most : ℕ) (attr : Attr) (text : List ℕ) → w ≡ most + 2
    → map (recoloured attr) (take most (total w t text [] no_looks (pieces_of text))) ≡ take most (cells_in_one_row t attr text)
row_front w t most attr text wide =
    let f = filler_of no_looks in
    let xs = atoms_from t 0 text [] empty_attr (pieces_of text) in
    sym (front_same w f (space attr) attr 0 most xs (omega (arith, wide)))
    ∙ ap (λ ys. take most (cells_from_column 0 (space attr) 0 ys)) (sym (atoms_with_attr t 0 attr text 0 (pieces_of text) (lines_are_covered text)))

-- what was laid from nothing, cut and given one attribute
pub in_one_row : (w t most : ℕ) (attr : Attr) (text : List ℕ) (laid : List Cell) (ps : List Piece)
    → w ≡ most + 2 → ps ≡ take most (pieces_of text)
    → laid ≡ take (length laid) (total w t text [] no_looks ps)
    → (length laid < most → laid ≡ total w t text [] no_looks ps)
    → (length laid < most → length ps + 0 ≤ length laid)
    → map (recoloured attr) (take most laid) ≡ take most (cells_in_one_row t attr text)
in_one_row w t most attr text laid ps wide is front all count =
    ap (map (recoloured attr)) (laid_front w t text [] no_looks most laid ps is front all count)
    ∙ row_front w t most attr text wide

pub one_row_laid : (d : Drawn) (most : ℕ) (attr : Attr) (start : List Cell) (after : LineFlow) (ps : List Piece)
    → ps ≡ take most (pieces_of d.line.now) → PiecesAreLaid d most ps (record { cells = start; col = 0; stop = 0 }) after
    → d.width ≡ most + 2 → d.spans.now ≡ [] → d.looks.now ≡ no_looks → start ≡ []
    → map (recoloured attr) (take most after.cells) ≡ take most (cells_in_one_row d.tabstop attr d.line.now)
one_row_laid d most attr start after ps is laid wide spans looks none =
    let t = d.tabstop in
    let text = d.line.now in
    let whole : laid_cells d (record { cells = start; col = 0; stop = 0 }) ps ≡ total d.width t text [] no_looks ps =
    λ i. none i ++ cells_from_column d.width (filler_of (looks i)) 0 (atoms_from t 0 text (spans i) (looks i).special ps) in
    in_one_row d.width t most attr text after.cells ps wide is
    (laid.front ∙ ap (take (length after.cells)) whole)
    (λ few. laid.all few ∙ whole)
    (λ few. omega (arith, laid.count few, ap length none))
