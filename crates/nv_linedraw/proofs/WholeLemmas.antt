-- The cells of a line fill whole rows, whatever its spans and looks are.
use Rattle.std.proofs.Common.{◌≡◌, ◌<◌, ◌+◌, ◌-◌, ◌*◌, ◌/◌, ℕ, zero, suc, Bool, true, false, cond, List, [], ◌∷◌, ◌++◌, length, replicate, refl, sym, ap, ap₂, subst, ◌∙◌, arith, ◌==◌, length-append}
use Rattle.std.proofs.Math.Nat.{mul-div_cancel, suc-mul, add-mul}
use Rattle.std.proofs.lemmas.Bool.{eqb-true}
use Rattle.std.proofs.lemmas.Bool.Decides.{nat_tests}
use Rattle.std.proofs.lemmas.List.{length-replicate}
use Rattle.nv_text.specs.declared.piece.Kind.{Kind}
use Rattle.nv_text.specs.declared.piece.Kind.TheVariants.{Tab, Control, Escape, Cluster}
use Rattle.nv_text.specs.declared.piece.Piece.{Piece}
use Rattle.nv_text.specs.Laws.{Cover}
use Rattle.nv_text.specs.Pieces.{pieces_of}
use Rattle.nv_text.proofs.PartLemmas.{lines_are_covered, cover-le}
use Rattle.nv_hl.specs.declared.attribute.Attr.{Attr}
use Rattle.nv_hl.specs.declared.cell.Cell.{Cell}
use Rattle.nv_hl.specs.Cells.{right_half, space}
use Rattle.nv_linedraw.specs.declared.looks.Looks.{Looks}
use Rattle.nv_linedraw.specs.declared.looks.Span.{Span}
use Rattle.nv_linedraw.specs.LineCells.{Atom, single, double, atom_cells, atom_col, atoms_from, cells_from_column, cells_of_line, cluster_atom, col_after, filler_of, filling, kind_atoms, line_atoms, no_looks, ones, pair_cells, pair_col, piece_atoms, rest_attr, round, rows_of_line, stop_after}
use Rattle.nv_linedraw.specs.Laws.{RowsAreWhole}
use Rattle.nv_linedraw.proofs.LayLemmas.{cells_from_column-append, some_cells}

-- ---- atoms of one shape are laid in one way

abbrev Alike : List Atom → List Atom → Type 0
Alike [] [] = Unit {0}
Alike (single c ∷ xs) (single d ∷ ys) = Alike xs ys
Alike (double c ∷ xs) (double d ∷ ys) = Alike xs ys
Alike _ _ = ⊥

alike_pair : (b e : Bool) (f g c d x y : Cell)
    → length (cond b (f ∷ []) (cond e (f ∷ c ∷ x ∷ []) (c ∷ x ∷ []))) ≡ length (cond b (g ∷ []) (cond e (g ∷ d ∷ y ∷ []) (d ∷ y ∷ [])))
alike_pair true e f g c d x y = refl
alike_pair false true f g c d x y = refl
alike_pair false false f g c d x y = refl

alike_laid : (w : ℕ) (f g : Cell) (col : ℕ) (xs ys : List Atom) → Alike xs ys
    → (length (cells_from_column w f col xs) ≡ length (cells_from_column w g col ys)) × (col_after w col xs ≡ col_after w col ys)
alike_laid w f g col [] [] h = (refl, refl)
alike_laid w f g col [] (single d ∷ ys) h = absurd h
alike_laid w f g col [] (double d ∷ ys) h = absurd h
alike_laid w f g col (single c ∷ xs) [] h = absurd h
alike_laid w f g col (double c ∷ xs) [] h = absurd h
alike_laid w f g col (single c ∷ xs) (double d ∷ ys) h = absurd h
alike_laid w f g col (double c ∷ xs) (single d ∷ ys) h = absurd h
alike_laid w f g col (single c ∷ xs) (single d ∷ ys) h =
    let rest = alike_laid w f g (round w col) xs ys h in
    (ap suc rest.0, rest.1)
alike_laid w f g col (double c ∷ xs) (double d ∷ ys) h =
    let rest = alike_laid w f g (pair_col w col) xs ys h in (
      length-append (pair_cells w f col c) (cells_from_column w f (pair_col w col) xs)
          ∙ ap₂ ◌+◌ (alike_pair (w == 1) (col + 1 == w) f g c d (right_half c.attr) (right_half d.attr)) rest.0
          ∙ sym (length-append (pair_cells w g col d) (cells_from_column w g (pair_col w col) ys)),
      rest.1,
    )

alike-append : (xs ys us vs : List Atom) → Alike xs ys → Alike us vs → Alike (xs ++ us) (ys ++ vs)
alike-append [] [] us vs h g = g
alike-append [] (single d ∷ ys) us vs h g = absurd h
alike-append [] (double d ∷ ys) us vs h g = absurd h
alike-append (single c ∷ xs) [] us vs h g = absurd h
alike-append (double c ∷ xs) [] us vs h g = absurd h
alike-append (single c ∷ xs) (double d ∷ ys) us vs h g = absurd h
alike-append (double c ∷ xs) (single d ∷ ys) us vs h g = absurd h
alike-append (single c ∷ xs) (single d ∷ ys) us vs h g = alike-append xs ys us vs h g
alike-append (double c ∷ xs) (double d ∷ ys) us vs h g = alike-append xs ys us vs h g

alike_equal : (n : ℕ) (c d : Cell) → Alike (replicate n (single c)) (replicate n (single d))
alike_equal zero c d = tt
alike_equal (suc n) c d = alike_equal n c d

alike_ones : (bytes : List ℕ) (a b : Attr) → Alike (ones bytes a) (ones bytes b)
alike_ones [] a b = tt
alike_ones (byte ∷ bytes) a b = alike_ones bytes a b

alike_cluster : (wide : Bool) (text : List ℕ) (a b : Attr) → Alike (cluster_atom wide text a ∷ []) (cluster_atom wide text b ∷ [])
alike_cluster true text a b = tt
alike_cluster false text a b = tt

alike_kind : (t stop : ℕ) (a b x y : Attr) (text : List ℕ) (k : Kind) → Alike (kind_atoms t stop a x text k) (kind_atoms t stop b y text k)
alike_kind t stop a b x y text Tab = alike_equal (t - stop) (space a) (space b)
alike_kind t stop a b x y text (Control byte) = tt
alike_kind t stop a b x y text (Escape byte) = tt
alike_kind t stop a b x y text (Cluster width) = alike_cluster (width == 2) text a b

alike_atoms : (t stop : ℕ) (line : List ℕ) (ss us : List Span) (x y : Attr) (ps : List Piece)
    → Alike (atoms_from t stop line ss x ps) (atoms_from t stop line us y ps)
alike_atoms t stop line ss us x y [] = tt
alike_atoms t stop line ss us x y (p ∷ ps) =
    alike-append (piece_atoms t stop line ss x p) (piece_atoms t stop line us y p) _ _
    (alike_kind t stop _ _ x y _ p.kind) (alike_atoms t (stop_after t stop p.kind) line ss us x y ps)

-- ---- cells fill rows up to the column behind them

round-lt-by : (b : Bool) (w k : ℕ) → (k + 1 == w) ≡ b → k < w → cond b 0 (k + 1) < w
round-lt-by true w k e lt = omega (arith, lt)
round-lt-by false w k e lt = grind (arith, nat_tests)

pub round-lt : (w k : ℕ) → k < w → round w k < w
round-lt w k lt = round-lt-by (k + 1 == w) w k refl lt

round_rows-by : (b : Bool) (w k : ℕ) → (k + 1 == w) ≡ b → (j : ℕ) × (k + 1 ≡ j * w + cond b 0 (k + 1))
round_rows-by true w k e = (1, omega (arith, eqb-true (k + 1) w e))
round_rows-by false w k e = (0, omega arith)

-- a column more passes so many rows' ends
round_rows : (w k : ℕ) → (j : ℕ) × (k + 1 ≡ j * w + round w k)
round_rows w k = round_rows-by (k + 1 == w) w k refl

module _ (w : ℕ) (f : Cell) where
  -- the column behind an atom, and how many rows' ends its cells pass
  pub record Passes (col : ℕ) (cs : List Cell) (next : ℕ) : Type 0 where
    pub within : next < w
    pub rows : ℕ
    pub is : col + length cs ≡ rows * w + next

  pair_passes : (b e : Bool) (col : ℕ) (c : Cell) → (w == 1) ≡ b → (col + 1 == w) ≡ e → col < w
      → Passes col (cond b (f ∷ []) (cond e (f ∷ c ∷ right_half c.attr ∷ []) (c ∷ right_half c.attr ∷ [])))
      (cond b 0 (cond e (round w 1) (round w (round w col))))
  pair_passes true e col c is_one at lt = record {
    within = omega (arith, lt);
    rows = 1;
    is = omega (arith, eqb-true w 1 is_one, lt);
  }
  pair_passes false true col c many at lt =
      let edge : col + 1 ≡ w = eqb-true (col + 1) w at in
      let two : 1 < w = grind (arith, nat_tests) in
      let more = round_rows w 1 in record {
        within = round-lt w 1 two;
        rows = suc more.0;
        is = omega (arith, edge, more.1, suc-mul more.0 w);
      }
  pair_passes false false col c many at lt =
      let first = round_rows w col in
      let next = round-lt w col lt in
      let second = round_rows w (round w col) in record {
        within = round-lt w (round w col) next;
        rows = first.0 + second.0;
        is = omega (arith, first.1, second.1, add-mul first.0 second.0 w);
      }

  atom_passes : (col : ℕ) (a : Atom) → col < w → Passes col (atom_cells w f col a) (atom_col w col a)
  atom_passes col (single c) lt =
      let more = round_rows w col in record { within = round-lt w col lt; rows = more.0; is = more.1 }
  atom_passes col (double c) lt = pair_passes (w == 1) (col + 1 == w) col c refl refl lt

  pub passes_all : (col : ℕ) (xs : List Atom) → col < w → Passes col (cells_from_column w f col xs) (col_after w col xs)
  passes_all col [] lt = record { within = lt; rows = 0; is = omega arith }
  passes_all col (x ∷ xs) lt =
      let first = atom_passes col x lt in
      let rest = passes_all (atom_col w col x) xs first.within in record {
        within = rest.within;
        rows = first.rows + rest.rows;
        is = omega (
          arith,
          first.is,
          rest.is,
          length-append (atom_cells w f col x) (cells_from_column w f (atom_col w col x) xs),
          add-mul first.rows rest.rows w,
        );
      }

  -- with spaces to the row's end
  filled_rows : (b e : Bool) (k n col : ℕ) → (col == 0) ≡ e → col < w → (b ≡ true → n ≡ 0) → (b ≡ false → 0 < n) → n ≡ k * w + col
      → (j : ℕ) × (n + cond b w (cond e 0 (w - col)) ≡ j * w) × (0 < j)
  filled_rows true e k n col is lt none some eq = (1, omega (arith, none refl), omega arith)
  filled_rows false true zero n col is lt none some eq = absurd (omega (arith, eq, some refl, eqb-true col 0 is))
  filled_rows false true (suc k) n col is lt none some eq = (suc k, omega (arith, eq, eqb-true col 0 is), omega arith)
  filled_rows false false k n col is lt none some eq = (suc k, omega (arith, eq, lt, suc-mul k w), omega arith)

-- ---- a line without bytes has no piece, and another has one

no_piece : (ps : List Piece) → Cover 0 ps 0 → ps ≡ []
no_piece [] h = refl
no_piece (p ∷ ps) h = absurd (omega (arith, h.0, h.1, cover-le p.to ps 0 h.2))

first_cells_some : (t : ℕ) (line : List ℕ) (spans : List Span) (special : Attr) (w : ℕ) (f : Cell) (n : ℕ) (ps : List Piece)
    → 0 < t → 0 < n → Cover 0 ps n → 0 < length (cells_from_column w f 0 (atoms_from t 0 line spans special ps))
first_cells_some t line spans special w f n [] tab some h = absurd (omega (arith, some, h))
first_cells_some t line spans special w f n (p ∷ ps) tab some h =
    let xs = piece_atoms t 0 line spans special p in
    let ys = atoms_from t (stop_after t 0 p.kind) line spans special ps in
    omega (
      arith,
      some_cells t 0 line spans special p w f 0 tab,
      ap length (cells_from_column-append w f 0 xs ys),
      length-append (cells_from_column w f 0 xs) (cells_from_column w f (col_after w 0 xs) ys),
    )

filling-is : (b : Bool) (w col : ℕ) → filling w b col ≡ cond b w (cond (col == 0) 0 (w - col))
filling-is true w col = refl
filling-is false w col = refl

not_empty : (n : ℕ) → (n == 0) ≡ false → 0 < n
not_empty n h = grind (arith, nat_tests)

no_cells : (w : ℕ) (f : Cell) (t : ℕ) (line : List ℕ) (spans : List Span) (special : Attr) (ps : List Piece) → ps ≡ []
    → length (cells_from_column w f 0 (atoms_from t 0 line spans special ps)) ≡ 0
no_cells w f t line spans special ps h = ap (λ qs. length (cells_from_column w f 0 (atoms_from t 0 line spans special qs))) h

rows_by : (w t : ℕ) (line : List ℕ) (spans : List Span) (looks : Looks) → 0 < w → 0 < t
    → (j : ℕ) × (length (cells_of_line w t line spans looks) ≡ j * w) × (0 < j)
unfolding cells_of_line
rows_by w t line spans looks wide tab =
    let f = filler_of looks in
    let ps = pieces_of line in
    let xs = line_atoms t line spans looks in
    let b = length line == 0 in
    let col = col_after w 0 xs in
    let laid = cells_from_column w f 0 xs in
    let blank = space (rest_attr spans (length line)) in
    let p = passes_all w f 0 xs wide in
    let none : b ≡ true → length laid ≡ 0 = λ h.
    no_cells w f t line spans looks.special ps (no_piece ps (subst (Cover 0 ps) (eqb-true (length line) 0 h) (lines_are_covered line))) in
    let some : b ≡ false → 0 < length laid = λ h.
    first_cells_some t line spans looks.special w f (length line) ps tab (not_empty (length line) h) (lines_are_covered line) in
    let all = filled_rows w f b (col == 0) p.rows (length laid) col refl p.within none some (omega (arith, p.is)) in (
      all.0,
      length-append laid (replicate (filling w b col) blank)
          ∙ ap (λ n. length laid + n) (length-replicate (filling w b col) blank ∙ filling-is b w col)
          ∙ all.1,
      all.2,
    )

same_length : (w t : ℕ) (line : List ℕ) (ss us : List Span) (x y : Looks)
    → length (cells_of_line w t line ss x) ≡ length (cells_of_line w t line us y)
unfolding cells_of_line
same_length w t line ss us x y =
    let xs = line_atoms t line ss x in
    let ys = line_atoms t line us y in
    let b = length line == 0 in
    let blank = space (rest_attr ss (length line)) in
    let other = space (rest_attr us (length line)) in
    let same = alike_laid w (filler_of x) (filler_of y) 0 xs ys (alike_atoms t 0 line ss us x.special y.special (pieces_of line)) in
    length-append (cells_from_column w (filler_of x) 0 xs) (replicate (filling w b (col_after w 0 xs)) blank)
    ∙ ap (λ n. length (cells_from_column w (filler_of x) 0 xs) + n) (length-replicate (filling w b (col_after w 0 xs)) blank)
    ∙ (λ i. same.0 i + filling w b (same.1 i))
    ∙ sym (ap (λ n. length (cells_from_column w (filler_of y) 0 ys) + n) (length-replicate (filling w b (col_after w 0 ys)) other))
    ∙ sym (length-append (cells_from_column w (filler_of y) 0 ys) (replicate (filling w b (col_after w 0 ys)) other))

pub rows_are_whole : RowsAreWhole
rows_are_whole w t line spans looks wide tab =
    let plain = rows_by w t line [] no_looks wide tab in
    let count : rows_of_line w t line ≡ plain.0 = ap (λ n. n / w) plain.1 ∙ mul-div_cancel plain.0 wide in (
      same_length w t line spans [] looks no_looks ∙ plain.1 ∙ ap (λ n. n * w) (sym count),
      omega (arith, count, plain.2),
    )
