-- No row begins with the right half of a pair.
use Rattle.std.proofs.Common.{◌≡◌, ◌<◌, ◌≤◌, ◌+◌, ◌-◌, ◌*◌, ◌%◌, ℕ, zero, suc, Bool, true, false, cond, ◌==◌, List, [], ◌∷◌, ◌++◌, Some, length, drop, replicate, slice_get, slice_range, refl, sym, ap, subst, ◌∙◌, arith, length-drop, eqb-true, length-take-le}
use Rattle.std.proofs.Math.Nat.{mul-mod_left, mod-eq_of_lt}
use Rattle.std.proofs.lemmas.Bool.Decides.{nat_tests}
use Rattle.std.proofs.lemmas.Option.{none-some, same_Some}
use Rattle.nv_text.specs.declared.piece.Kind.{Kind}
use Rattle.nv_text.specs.declared.piece.Kind.TheVariants.{Tab, Control, Escape, Cluster}
use Rattle.nv_text.specs.declared.piece.Piece.{Piece}
use Rattle.nv_text.specs.Laws.{Cover}
use Rattle.nv_text.specs.Pieces.{pieces_of}
use Rattle.nv_text.proofs.PartLemmas.{cover-le, lines_are_covered}
use Rattle.nv_hl.specs.declared.attribute.Attr.{Attr}
use Rattle.nv_hl.specs.declared.cell.Cell.{Cell}
use Rattle.nv_hl.specs.Cells.{is_right_half, right_half, space}
use Rattle.nv_linedraw.specs.declared.looks.Looks.{Looks}
use Rattle.nv_linedraw.specs.declared.looks.Span.{Span}
use Rattle.nv_linedraw.specs.LineCells.{Atom, single, double, atoms_from, attr_at, cells_from_column, cells_of_line, cluster_atom, col_after, filler_of, filling, kind_atoms, line_atoms, ones, pair_cells, pair_col, piece_atoms, rest_attr, round, stop_after}
use Rattle.nv_linedraw.proofs.WholeLemmas.{passes_all}
use Rattle.nv_cells_laws.specs.DrawnLines.{line_cells}
use Rattle.nv_cells_laws.specs.Laws.{NoRowBeginsWithHalf}
use Rattle.nv_cells_laws.proofs.OnePiece.{rounds}

-- ---- atoms with a text

abbrev Shown : Cell → Type 0
Shown c = is_right_half c ≡ false

abbrev AllShown : List Atom → Type 0
AllShown [] = Unit {0}
AllShown (single c ∷ xs) = Shown c × AllShown xs
AllShown (double c ∷ xs) = Shown c × AllShown xs

shown-append : (xs ys : List Atom) → AllShown xs → AllShown ys → AllShown (xs ++ ys)
shown-append [] ys h g = g
shown-append (single c ∷ xs) ys h g = (h.0, shown-append xs ys h.1 g)
shown-append (double c ∷ xs) ys h g = (h.0, shown-append xs ys h.1 g)

shown_equal : (n : ℕ) (attr : Attr) → AllShown (replicate n (single (space attr)))
shown_equal zero attr = tt
shown_equal (suc n) attr = (refl, shown_equal n attr)

shown_ones : (bytes : List ℕ) (attr : Attr) → AllShown (ones bytes attr)
shown_ones [] attr = tt
shown_ones (byte ∷ bytes) attr = (refl, shown_ones bytes attr)

shown_cluster : (wide : Bool) (text : List ℕ) (attr : Attr) → (length text == 0) ≡ false → AllShown (cluster_atom wide text attr ∷ [])
shown_cluster true text attr h = (h, tt)
shown_cluster false text attr h = (h, tt)

shown_kind : (t stop : ℕ) (attr special : Attr) (text : List ℕ) (k : Kind) → (length text == 0) ≡ false → AllShown (kind_atoms t stop attr special text k)
shown_kind t stop attr special text Tab h = shown_equal (t - stop) attr
shown_kind t stop attr special text (Control byte) h = (refl, (refl, tt))
shown_kind t stop attr special text (Escape byte) h = (refl, (refl, (refl, (refl, tt))))
shown_kind t stop attr special text (Cluster m) h = shown_cluster (m == 2) text attr h

not_empty : (n : ℕ) → 0 < n → (n == 0) ≡ false
not_empty n some = grind (arith, nat_tests)

-- the text of a piece isn't empty
some_text : (line : List ℕ) (from to : ℕ) → from < to → to ≤ length line → (length (slice_range line from to) == 0) ≡ false
some_text line from to lt le =
    let count : length (slice_range line from to) ≡ to - from = length-take-le (to - from) (drop from line) (omega (arith, length-drop from line, lt, le)) in
    not_empty (length (slice_range line from to)) (omega (arith, count, lt))

shown_atoms : (t stop : ℕ) (line : List ℕ) (spans : List Span) (special : Attr) (from : ℕ) (ps : List Piece) → Cover from ps (length line)
    → AllShown (atoms_from t stop line spans special ps)
shown_atoms t stop line spans special from [] h = tt
shown_atoms t stop line spans special from (p ∷ ps) h =
    shown-append (piece_atoms t stop line spans special p) (atoms_from t (stop_after t stop p.kind) line spans special ps)
    (shown_kind t stop (attr_at spans p.from) special (slice_range line p.from p.to) p.kind (some_text line p.from p.to h.1 (cover-le p.to ps (length line) h.2)))
    (shown_atoms t (stop_after t stop p.kind) line spans special p.to ps h.2)

-- ---- cells from a column on, none of which begins a row as a right half

same_numbers : (n m : ℕ) → n ≡ m → (n == m) ≡ true
same_numbers n m is = grind (arith, nat_tests)

one_apart : (w : ℕ) → (w == 1) ≡ false → (0 + 1 == w) ≡ false
one_apart w is = grind (arith, nat_tests)

module _ (w : ℕ) where
  abbrev Begins : ℕ → List Cell → Type 0
  Begins col [] = Unit {0}
  Begins col (c ∷ cs) = (col ≡ 0 → Shown c) × Begins (round w col) cs

  -- the column behind cells
  abbrev col_of : ℕ → List Cell → ℕ
  col_of col [] = col
  col_of col (c ∷ cs) = col_of (round w col) cs

  begins-append : (col : ℕ) (xs ys : List Cell) → Begins col xs → Begins (col_of col xs) ys → Begins col (xs ++ ys)
  begins-append col [] ys h g = g
  begins-append col (x ∷ xs) ys h g = (h.0, begins-append (round w col) xs ys h.1 g)

  begins_equal : (col n : ℕ) (c : Cell) → Shown c → Begins col (replicate n c)
  begins_equal col zero c h = tt
  begins_equal col (suc n) c h = ((λ first. h), begins_equal (round w col) n c h)

  -- the column behind an atom is that behind its cells
  pair_col_of : (one last : Bool) (col : ℕ) (f c : Cell) → (w == 1) ≡ one → (col + 1 == w) ≡ last → col < w
      → col_of col (cond one (f ∷ []) (cond last (f ∷ c ∷ right_half c.attr ∷ []) (c ∷ right_half c.attr ∷ [])))
      ≡ cond one 0 (cond last (round w 1) (round w (round w col)))
  pair_col_of true last col f c one at lt =
      let first : col + 1 ≡ w = omega (arith, eqb-true w 1 one, lt) in
      ap (λ b. cond b 0 (col + 1)) (same_numbers (col + 1) w first)
  pair_col_of false true col f c one at lt =
      let next = one_apart w one in
      ap (λ b. round w (round w (cond b 0 (col + 1)))) at ∙ ap (λ b. round w (cond b 0 (0 + 1))) next
  pair_col_of false false col f c one at lt = refl

  -- a pair has its right half in the row of its left one
  pair_begins : (one last : Bool) (col : ℕ) (f c : Cell) → (w == 1) ≡ one → (col + 1 == w) ≡ last → col < w → Shown f → Shown c
      → Begins col (cond one (f ∷ []) (cond last (f ∷ c ∷ right_half c.attr ∷ []) (c ∷ right_half c.attr ∷ [])))
  pair_begins true last col f c one at lt is has = ((λ first. is), tt)
  pair_begins false true col f c one at lt is has =
      let next = one_apart w one in
      let behind : round w (round w col) ≡ 1 = ap (λ b. cond (cond b 0 (col + 1) + 1 == w) 0 (cond b 0 (col + 1) + 1)) at ∙ ap (λ b. cond b 0 (0 + 1)) next in
      ((λ first. is), ((λ first. has), ((λ (first : round w (round w col) ≡ 0). absurd (omega (arith, behind, first))), tt)))
  pair_begins false false col f c one at lt is has =
      let behind : round w col ≡ col + 1 = ap (λ b. cond b 0 (col + 1)) at in
      ((λ first. has), ((λ (first : round w col ≡ 0). absurd (omega (arith, behind, first))), tt))

  col_of-append : (col : ℕ) (xs ys : List Cell) → col_of col (xs ++ ys) ≡ col_of (col_of col xs) ys
  col_of-append col [] ys = refl
  col_of-append col (x ∷ xs) ys = col_of-append (round w col) xs ys

  module _ (f : Cell) (shown : Shown f) where
    -- of atoms with texts: their cells begin no row with a right half, and the column behind both is one
    begins_atoms : (col : ℕ) (xs : List Atom) → AllShown xs → col < w
        → Begins col (cells_from_column w f col xs) × (col_of col (cells_from_column w f col xs) ≡ col_after w col xs)
    begins_atoms col [] h lt = (tt, refl)
    begins_atoms col (single c ∷ xs) h lt =
        let within = passes_all w f col (single c ∷ []) lt in
        let rest = begins_atoms (round w col) xs h.1 within.within in
        (((λ first. h.0), rest.0), rest.1)
    begins_atoms col (double c ∷ xs) h lt =
        let within = passes_all w f col (double c ∷ []) lt in
        let rest = begins_atoms (pair_col w col) xs h.1 within.within in
        let pair = pair_cells w f col c in
        let more = cells_from_column w f (pair_col w col) xs in
        let behind : col_of col pair ≡ pair_col w col = pair_col_of (w == 1) (col + 1 == w) col f c refl refl lt in (
          begins-append col pair more (pair_begins (w == 1) (col + 1 == w) col f c refl refl lt shown h.0)
              (subst (λ (k : ℕ). Begins k more) (sym behind) rest.0),
          col_of-append col pair more ∙ ap (λ k. col_of k more) behind ∙ rest.1,
        )

  -- the cell at a row's beginning
  begins_at : (at : ℕ) (cs : List Cell) (i : ℕ) (c : Cell) → 0 < w → Begins (at % w) cs → slice_get cs i ≡ Some c → (at + i) % w ≡ 0 → Shown c
  begins_at at [] i c wide h is first = absurd (none-some c is)
  begins_at at (x ∷ xs) zero c wide h is first =
      let same : at ≡ at + 0 = omega arith in
      let here : at % w ≡ 0 = ap (λ k. k % w) same ∙ first in
      subst Shown (same_Some x c is) (h.0 here)
  begins_at at (x ∷ xs) (suc i) c wide h is first =
      let on : at + 1 + i ≡ at + suc i = omega arith in
      begins_at (at + 1) xs i c wide (subst (λ (k : ℕ). Begins k xs) (rounds w at wide) h.1) is (ap (λ k. k % w) on ∙ first)

begins_line : (w t : ℕ) (line : List ℕ) (spans : List Span) (looks : Looks) → 0 < w → Begins w 0 (cells_of_line w t line spans looks)
unfolding cells_of_line
begins_line w t line spans looks wide =
    let f = filler_of looks in
    let xs = line_atoms t line spans looks in
    let blank = space (rest_attr spans (length line)) in
    begins-append w 0 (cells_from_column w f 0 xs) (replicate (filling w (length line == 0) (col_after w 0 xs)) blank)
    (begins_atoms w f refl 0 xs (shown_atoms t 0 line spans looks.special 0 (pieces_of line) (lines_are_covered line)) wide).0
    (begins_equal w (col_of w 0 (cells_from_column w f 0 xs)) (filling w (length line == 0) (col_after w 0 xs)) blank refl)

pub no_row_begins_with_half : NoRowBeginsWithHalf
no_row_begins_with_half d row c is =
    let col : 0 ≡ 0 % d.width = sym (mod-eq_of_lt d.wide) in
    let same : 0 + row * d.width ≡ row * d.width = omega arith in
    let first : (0 + row * d.width) % d.width ≡ 0 = ap (λ k. k % d.width) same ∙ mul-mod_left row d.width in
    begins_at d.width 0 (line_cells d) (row * d.width) c d.wide
    (subst (λ (k : ℕ). Begins d.width k (line_cells d)) col (begins_line d.width d.tabstop d.line d.spans d.looks d.wide)) is first
