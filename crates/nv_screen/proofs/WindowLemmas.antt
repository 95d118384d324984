-- What stands at each cell, by the windows.
use Rattle.std.proofs.Common.{◌≡◌, ◌≢◌, ◌<◌, ◌≤◌, ◌+◌, ◌-◌, ◌*◌, ℕ, zero, suc, true, false, cond, ◌&&◌, ◌==◌, nat_le, nat_lt, ◌⊎◌, inl, inr, List, [], ◌∷◌, ◌++◌, length, map, replicate, get_or, refl, sym, ap, subst, ◌∙◌, arith, ⊎_elim}
use Rattle.std.specs.List.{AllByRecursion}
use Rattle.std.proofs.lemmas.Bool.{cases_eq, cases_lt, eq-eqb, ne_eqb}
use Rattle.std.proofs.lemmas.Bool.Decides.{nat_tests}
use Rattle.std.proofs.lemmas.List.{length-replicate}
use Rattle.nv_hl.specs.declared.cell.Cell.{Cell}
use Rattle.nv_hl.specs.Attributes.{empty_attr}
use Rattle.nv_hl.specs.Cells.{blank_rows, space, with_strip}
use Rattle.nv_layout.specs.declared.nodes.Rect.{Rect}
use Rattle.nv_layout.specs.Tiling.{in_rect, in_span, times_in}
use Rattle.nv_linedraw.specs.declared.looks.Looks.{Looks}
use Rattle.nv_screen.specs.declared.scene.Bars.{Bars}
use Rattle.nv_screen.specs.declared.scene.Pane.{Pane}
use Rattle.nv_screen.specs.Drawing.{cell_shown, pane_rows, separator_cell, status_row, with_pane, with_panes, with_rows, with_separator, with_separators}
use Rattle.nv_screen.specs.Laws.{CellsStandByWindows, cell_of_pane, cell_of_panes, cell_of_separators, cell_over}
use Rattle.nv_screen.specs.Sound.{IsDrawable, IsSoundPane, pane_area}
use Rattle.nv_screen.proofs.ShapeLemmas.{Wide, pane-shaped, status-wide, wide-replicate}
use Rattle.nv_screen.proofs.Strips.{before, behind, inside, strips_show}
use Rattle.nv_screen.proofs.WholeScreens.{Sized, blank, pane, panes, separator, strip, strips}

-- ---- inside and outside

pub record Within (row n col k r c : ℕ) : Type 0 where
  pub top : row ≤ r
  pub bottom : r < row + n
  pub left : col ≤ c
  pub right : c < col + k

abbrev pub Outside : ℕ → ℕ → ℕ → ℕ → ℕ → ℕ → Type 0
Outside row n col k r c = ((r < row) ⊎ (row + n ≤ r)) ⊎ ((c < col) ⊎ (col + k ≤ c))

pub decide : (row n col k r c : ℕ) → Within row n col k r c ⊎ Outside row n col k r c
decide row n col k r c =
    ⊎_elim (λ (a : r < row). inr (inl (inl a)))
    (λ (top : row ≤ r).
    ⊎_elim
    (λ (bottom : r < row + n).
    ⊎_elim (λ (a : c < col). inr (inr (inl a)))
    (λ (left : col ≤ c).
    ⊎_elim (λ (right : c < col + k). inl (record { top = top; bottom = bottom; left = left; right = right }))
    (λ (a : col + k ≤ c). inr (inr (inr a))) (cases_lt c (col + k)))
    (cases_lt c col))
    (λ (a : row + n ≤ r). inr (inl (inr a))) (cases_lt r (row + n)))
    (cases_lt r row)

span_in : (from size x : ℕ) → from ≤ x → x < from + size → in_span from size x ≡ 1
span_in from size x le lt =
    let yes : (nat_le from x && nat_lt x (from + size)) ≡ true = grind (arith, nat_tests) in ap (λ b. cond b 1 0) yes

span_out : (from size x : ℕ) → (x < from) ⊎ (from + size ≤ x) → in_span from size x ≡ 0
span_out from size x out =
    let no : (nat_le from x && nat_lt x (from + size)) ≡ false =
    ⊎_elim (λ (a : x < from). grind (arith, nat_tests)) (λ (a : from + size ≤ x). grind (arith, nat_tests)) out in
    ap (λ b. cond b 1 0) no

pub rect_in : (a : Rect) (r c : ℕ) → Within a.row a.height a.col a.width r c → in_rect r c a ≡ 1
rect_in a r c i =
    (λ j. span_in a.row a.height r i.top i.bottom j * span_in a.col a.width c i.left i.right j)

pub rect_out : (a : Rect) (r c : ℕ) → Outside a.row a.height a.col a.width r c → in_rect r c a ≡ 0
rect_out a r c out =
    ⊎_elim
    (λ (o : (r < a.row) ⊎ (a.row + a.height ≤ r)).
    let none : in_span a.row a.height r ≡ 0 = span_out a.row a.height r o in
    ap (λ k. k * in_span a.col a.width c) none ∙ omega arith)
    (λ (o : (c < a.col) ⊎ (a.col + a.width ≤ c)).
    let none : in_span a.col a.width c ≡ 0 = span_out a.col a.width c o in
    ap (λ k. in_span a.row a.height r * k) none ∙ omega arith)
    out

-- ---- rows that are laid

pub get_or-any : (xs : List Cell) (k : ℕ) (d e : Cell) → k < length xs → get_or xs k d ≡ get_or xs k e
get_or-any [] k d e lt = absurd (omega (arith, lt))
get_or-any (x ∷ xs) zero d e lt = refl
get_or-any (x ∷ xs) (suc k) d e lt = get_or-any xs k d e (omega (arith, lt))

module _ (w h : ℕ) (r c : ℕ) (high : r < h) (wide : c < w) where
  abbrev pub here : List (List Cell) → Cell
  here rows = cell_shown rows r c

  in_width : (rows : List (List Cell)) (k : ℕ) → k < length rows → Wide w rows → length (get_or rows k []) ≡ w
  in_width [] k lt all = absurd (omega (arith, lt))
  in_width (x ∷ xs) zero lt all = all.0
  in_width (x ∷ xs) (suc k) lt all = in_width xs k (omega (arith, lt)) all.1

  strip_is : (rows : List (List Cell)) (row col : ℕ) (cs : List Cell) → Sized w h rows
      → here (with_strip rows row col cs) ≡ cond (row == r) (cell_over col cs c (here rows)) (here rows)
  strip_is rows row col cs s =
      let there : r < length rows = omega (arith, high, s.high) in
      strips_show rows row col cs r c (space empty_attr) there (omega (arith, wide, in_width rows r there s.wide))

  pub strip_other : (rows : List (List Cell)) (row col : ℕ) (cs : List Cell) → Sized w h rows → row ≢ r
      → here (with_strip rows row col cs) ≡ here rows
  strip_other rows row col cs s ne =
      strip_is rows row col cs s ∙ ap (λ b. cond b (cell_over col cs c (here rows)) (here rows)) (ne_eqb row r ne)

  pub strip_over : (rows : List (List Cell)) (row col : ℕ) (cs : List Cell) → Sized w h rows → row ≡ r
      → here (with_strip rows row col cs) ≡ cell_over col cs c (here rows)
  strip_over rows row col cs s e =
      strip_is rows row col cs s ∙ ap (λ b. cond b (cell_over col cs c (here rows)) (here rows)) (eq-eqb row r e)

  pub strip_beside : (rows : List (List Cell)) (row col : ℕ) (cs : List Cell) → Sized w h rows → (c < col) ⊎ (col + length cs ≤ c)
      → here (with_strip rows row col cs) ≡ here rows
  strip_beside rows row col cs s out =
      ⊎_elim
      (λ (e : row ≡ r).
      strip_over rows row col cs s e
      ∙ ⊎_elim (λ (o : c < col). before col cs c (here rows) o) (λ (o : col + length cs ≤ c). behind col cs c (here rows) o) out)
      (λ (ne : row ≢ r). strip_other rows row col cs s ne)
      (cases_eq row r)

  pub strip_inside : (rows : List (List Cell)) (row col : ℕ) (cs : List Cell) → Sized w h rows → row ≡ r → col ≤ c → c < col + length cs
      → here (with_strip rows row col cs) ≡ get_or cs (c - col) (space empty_attr)
  strip_inside rows row col cs s e le lt =
      strip_over rows row col cs s e ∙ inside col cs c (here rows) le lt
      ∙ get_or-any cs (c - col) (here rows) (space empty_attr) (omega (arith, le, lt))

  rows_outside : (rows : List (List Cell)) (row col k : ℕ) (rs : List (List Cell)) → Sized w h rows → Wide k rs
      → Outside row (length rs) col k r c → here (with_rows rows row col rs) ≡ here rows
  rows_outside rows row col k [] s all out = refl
  rows_outside rows row col k (x ∷ xs) s all out =
      let s' = strip w h rows row col x s in
      ⊎_elim
      (λ (o : (r < row) ⊎ (row + suc (length xs) ≤ r)).
      let ne : row ≢ r = λ e. ⊎_elim (λ (a : r < row). absurd (omega (arith, a, e))) (λ (a : row + suc (length xs) ≤ r). absurd (omega (arith, a, e))) o in
      let next : (r < row + 1) ⊎ (row + 1 + length xs ≤ r) =
      ⊎_elim (λ (a : r < row). inl (omega (arith, a))) (λ (a : row + suc (length xs) ≤ r). inr (omega (arith, a))) o in
      rows_outside (with_strip rows row col x) (row + 1) col k xs s' all.1 (inl next) ∙ strip_other rows row col x s ne)
      (λ (o : (c < col) ⊎ (col + k ≤ c)).
      let beside : (c < col) ⊎ (col + length x ≤ c) =
      ⊎_elim (λ (a : c < col). inl a) (λ (a : col + k ≤ c). inr (omega (arith, a, all.0))) o in
      rows_outside (with_strip rows row col x) (row + 1) col k xs s' all.1 (inr o) ∙ strip_beside rows row col x s beside)
      out

  rows_inside : (rows : List (List Cell)) (row col k : ℕ) (rs : List (List Cell)) → Sized w h rows → Wide k rs
      → Within row (length rs) col k r c → here (with_rows rows row col rs) ≡ cell_shown rs (r - row) (c - col)
  rows_inside rows row col k [] s all i = absurd (omega (arith, i.top, i.bottom))
  rows_inside rows row col k (x ∷ xs) s all i =
      let s' = strip w h rows row col x s in
      ⊎_elim
      (λ (e : row ≡ r).
      let first : r - row ≡ 0 = omega (arith, e) in
      rows_outside (with_strip rows row col x) (row + 1) col k xs s' all.1 (inl (inl (omega (arith, e))))
      ∙ strip_inside rows row col x s e i.left (omega (arith, i.right, all.0))
      ∙ ap (λ n. cell_shown (x ∷ xs) n (c - col)) (sym first))
      (λ (ne : row ≢ r).
      let later : row + 1 ≤ r = grind (arith, i.top) in
      let next : r - row ≡ suc (r - (row + 1)) = omega (arith, later) in
      rows_inside (with_strip rows row col x) (row + 1) col k xs s' all.1
      (record { top = later; bottom = omega (arith, i.bottom); left = i.left; right = i.right })
      ∙ ap (λ n. cell_shown (x ∷ xs) n (c - col)) (sym next))
      (cases_eq row r)

  -- ---- a window

  pane_outside : (looks : Looks) (bars : Bars) (rows : List (List Cell)) (p : Pane) → Sized w h rows → IsDrawable p
      → Outside p.rect.row (p.rect.height + 1) p.rect.col p.rect.width r c → here (with_pane looks bars rows p) ≡ here rows
  pane_outside looks bars rows p s d out =
      let R = p.rect.row in let H = p.rect.height in let C = p.rect.col in let W = p.rect.width in
      let rs = pane_rows looks p in
      let shape = pane-shaped looks p d in
      let bar = status_row bars p in
      let s' = strips w h rows R C rs s in
      let text : Outside R (length rs) C W r c =
      ⊎_elim
      (λ (o : (r < R) ⊎ (R + (H + 1) ≤ r)).
      inl (⊎_elim (λ (a : r < R). inl a) (λ (a : R + (H + 1) ≤ r). inr (omega (arith, a, shape.high))) o))
      (λ (o : (c < C) ⊎ (C + W ≤ c)). inr o) out in
      ⊎_elim
      (λ (o : (r < R) ⊎ (R + (H + 1) ≤ r)).
      let ne : R + H ≢ r = λ e. ⊎_elim (λ (a : r < R). absurd (omega (arith, a, e))) (λ (a : R + (H + 1) ≤ r). absurd (omega (arith, a, e))) o in
      strip_other (with_rows rows R C rs) (R + H) C bar s' ne)
      (λ (o : (c < C) ⊎ (C + W ≤ c)).
      let beside : (c < C) ⊎ (C + length bar ≤ c) =
      ⊎_elim (λ (a : c < C). inl a) (λ (a : C + W ≤ c). inr (omega (arith, a, status-wide bars p))) o in
      strip_beside (with_rows rows R C rs) (R + H) C bar s' beside)
      out
      ∙ rows_outside rows R C W rs s shape.wide text

  pane_inside : (looks : Looks) (bars : Bars) (rows : List (List Cell)) (p : Pane) → Sized w h rows → IsDrawable p
      → Within p.rect.row (p.rect.height + 1) p.rect.col p.rect.width r c
      → here (with_pane looks bars rows p) ≡ cell_of_pane looks bars p r c
  pane_inside looks bars rows p s d i =
      let R = p.rect.row in let H = p.rect.height in let C = p.rect.col in let W = p.rect.width in
      let rs = pane_rows looks p in
      let shape = pane-shaped looks p d in
      let bar = status_row bars p in
      let s' = strips w h rows R C rs s in
      let low = get_or bar (c - C) (space empty_attr) in
      let text = cell_shown rs (r - R) (c - C) in
      ⊎_elim
      (λ (e : R + H ≡ r).
      strip_inside (with_rows rows R C rs) (R + H) C bar s' e i.left (omega (arith, i.right, status-wide bars p))
      ∙ sym (ap (λ b. cond b low text) (eq-eqb r (R + H) (sym e))))
      (λ (ne : R + H ≢ r).
      let above : r < R + H = grind (arith, i.bottom) in
      strip_other (with_rows rows R C rs) (R + H) C bar s' ne
      ∙ rows_inside rows R C W rs s shape.wide
      (record { top = i.top; bottom = omega (arith, above, shape.high); left = i.left; right = i.right })
      ∙ sym (ap (λ b. cond b low text) (ne_eqb r (R + H) (λ e. ne (sym e)))))
      (cases_eq (R + H) r)

  -- ---- windows and separators

  -- what a test of the cell gives
  held : (a : Rect) (x y : Cell) → in_rect r c a ≡ 1 → cond (in_rect r c a == 1) x y ≡ x
  held a x y e = ap (λ b. cond b x y) (eq-eqb (in_rect r c a) 1 e)

  not_held : (a : Rect) (x y : Cell) → in_rect r c a ≡ 0 → cond (in_rect r c a == 1) x y ≡ y
  not_held a x y e = ap (λ n. cond (n == 1) x y) e

  no_panes : (looks : Looks) (bars : Bars) (ps : List Pane) (x : Cell) → times_in r c (map pane_area ps) ≡ 0
      → cell_of_panes looks bars ps r c x ≡ x
  no_panes looks bars [] x e = refl
  no_panes looks bars (p ∷ ps) x e =
      not_held (pane_area p) (cell_of_pane looks bars p r c) (cell_of_panes looks bars ps r c x) (omega (arith, e))
      ∙ no_panes looks bars ps x (omega (arith, e))

  panes_show : (looks : Looks) (bars : Bars) (rows : List (List Cell)) (ps : List Pane) → Sized w h rows
      → AllByRecursion IsSoundPane ps → times_in r c (map pane_area ps) ≤ 1
      → here (with_panes looks bars rows ps) ≡ cell_of_panes looks bars ps r c (here rows)
  panes_show looks bars rows [] s all le = refl
  panes_show looks bars rows (p ∷ ps) s all le =
      let a = pane_area p in
      let next = with_pane looks bars rows p in
      let d : IsDrawable p = (all.0.wide, all.0.stop) in
      let rest = panes_show looks bars next ps (pane w h looks bars rows p s) all.1 (omega (arith, le)) in
      let shown = cell_of_pane looks bars p r c in
      let others = cell_of_panes looks bars ps r c (here rows) in
      ⊎_elim
      (λ (i : Within a.row a.height a.col a.width r c).
      let one = rect_in a r c i in
      rest ∙ no_panes looks bars ps (here next) (omega (arith, le, one)) ∙ pane_inside looks bars rows p s d i ∙ sym (held a shown others one))
      (λ (out : Outside a.row a.height a.col a.width r c).
      rest ∙ ap (cell_of_panes looks bars ps r c) (pane_outside looks bars rows p s d out)
      ∙ sym (not_held a shown others (rect_out a r c out)))
      (decide a.row a.height a.col a.width r c)

  -- a column of separators
  separator_rows : (bars : Bars) (n k : ℕ) → k < n → cell_shown (replicate n (separator_cell bars ∷ [])) k 0 ≡ separator_cell bars
  separator_rows bars zero k lt = absurd (omega (arith, lt))
  separator_rows bars (suc n) zero lt = refl
  separator_rows bars (suc n) (suc k) lt = separator_rows bars n k (omega (arith, lt))

  separator_outside : (bars : Bars) (rows : List (List Cell)) (a : Rect) → Sized w h rows → a.width ≡ 1
      → Outside a.row a.height a.col a.width r c → here (with_separator bars rows a) ≡ here rows
  separator_outside bars rows a s one out =
      let rs = replicate a.height (separator_cell bars ∷ []) in
      let count : a.height ≡ length rs = sym (length-replicate a.height (separator_cell bars ∷ [])) in
      rows_outside rows a.row a.col a.width rs s (wide-replicate a.width a.height (separator_cell bars ∷ []) (sym one))
      (subst (λ n. Outside a.row n a.col a.width r c) count out)

  separator_inside : (bars : Bars) (rows : List (List Cell)) (a : Rect) → Sized w h rows → a.width ≡ 1
      → Within a.row a.height a.col a.width r c → here (with_separator bars rows a) ≡ separator_cell bars
  separator_inside bars rows a s one i =
      let rs = replicate a.height (separator_cell bars ∷ []) in
      let count : length rs ≡ a.height = length-replicate a.height (separator_cell bars ∷ []) in
      let first : c - a.col ≡ 0 = omega (arith, i.left, i.right, one) in
      rows_inside rows a.row a.col a.width rs s (wide-replicate a.width a.height (separator_cell bars ∷ []) (sym one))
      (record { top = i.top; bottom = omega (arith, i.bottom, count); left = i.left; right = i.right })
      ∙ ap (cell_shown rs (r - a.row)) first
      ∙ separator_rows bars a.height (r - a.row) (omega (arith, i.top, i.bottom))

  abbrev pub AreColumns : List Rect → Type 0
  AreColumns rs = AllByRecursion (λ (a : Rect). (a.width ≡ 1) × (0 < a.height)) rs

  no_separators : (bars : Bars) (rows : List (List Cell)) (rs : List Rect) → Sized w h rows → AreColumns rs → times_in r c rs ≡ 0
      → here (with_separators bars rows rs) ≡ here rows
  no_separators bars rows [] s all e = refl
  no_separators bars rows (a ∷ rs) s all e =
      let none : in_rect r c a ≡ 0 = omega (arith, e) in
      no_separators bars (with_separator bars rows a) rs (separator w h bars rows a s) all.1 (omega (arith, e))
      ∙ ⊎_elim
      (λ (i : Within a.row a.height a.col a.width r c). absurd (omega (arith, none, rect_in a r c i)))
      (λ (out : Outside a.row a.height a.col a.width r c). separator_outside bars rows a s all.0.0 out)
      (decide a.row a.height a.col a.width r c)

  no_separator_cell : (bars : Bars) (rs : List Rect) → times_in r c rs ≡ 0 → cell_of_separators bars rs r c ≡ space empty_attr
  no_separator_cell bars [] e = refl
  no_separator_cell bars (a ∷ rs) e =
      not_held a (separator_cell bars) (cell_of_separators bars rs r c) (omega (arith, e)) ∙ no_separator_cell bars rs (omega (arith, e))

  some_separators : (bars : Bars) (rows : List (List Cell)) (rs : List Rect) → Sized w h rows → AreColumns rs → times_in r c rs ≡ 1
      → (here (with_separators bars rows rs) ≡ separator_cell bars) × (cell_of_separators bars rs r c ≡ separator_cell bars)
  some_separators bars rows [] s all e = absurd (omega (arith, e))
  some_separators bars rows (a ∷ rs) s all e =
      let next = with_separator bars rows a in
      let s' = separator w h bars rows a s in
      ⊎_elim
      (λ (i : Within a.row a.height a.col a.width r c).
      let one = rect_in a r c i in (
        no_separators bars next rs s' all.1 (omega (arith, e, one)) ∙ separator_inside bars rows a s all.0.0 i,
        held a (separator_cell bars) (cell_of_separators bars rs r c) one,
      ))
      (λ (out : Outside a.row a.height a.col a.width r c).
      let zero_here = rect_out a r c out in
      let rest = some_separators bars next rs s' all.1 (omega (arith, e, zero_here)) in (
        rest.0,
        not_held a (separator_cell bars) (cell_of_separators bars rs r c) zero_here ∙ rest.1,
      ))
      (decide a.row a.height a.col a.width r c)

  -- ---- all of them

  times-append : (xs ys : List Rect) → times_in r c (xs ++ ys) ≡ times_in r c xs + times_in r c ys
  times-append [] ys = omega arith
  times-append (x ∷ xs) ys = omega (arith, times-append xs ys)

  blank_row : (n k : ℕ) (row : List Cell) → k < n → get_or (replicate n row) k [] ≡ row
  blank_row zero k row lt = absurd (omega (arith, lt))
  blank_row (suc n) zero row lt = refl
  blank_row (suc n) (suc k) row lt = blank_row n k row (omega (arith, lt))

  blank_cell : (n k : ℕ) → get_or (replicate n (space empty_attr)) k (space empty_attr) ≡ space empty_attr
  blank_cell zero k = refl
  blank_cell (suc n) zero = refl
  blank_cell (suc n) (suc k) = blank_cell n k

  pub all_show : (looks : Looks) (bars : Bars) (ps : List Pane) (rs : List Rect) → AllByRecursion IsSoundPane ps → AreColumns rs
      → times_in r c (map pane_area ps ++ rs) ≤ 1
      → here (with_separators bars (with_panes looks bars (blank_rows w h) ps) rs)
      ≡ cell_of_panes looks bars ps r c (cell_of_separators bars rs r c)
  all_show looks bars ps rs sound columns le =
      let rows = with_panes looks bars (blank_rows w h) ps in
      let s = panes w h looks bars (blank_rows w h) ps (blank w h) in
      let count = times-append (map pane_area ps) rs in
      let few : times_in r c rs ≤ 1 = omega (arith, le, count) in
      ⊎_elim
      (λ (none : times_in r c rs < 1).
      let no : times_in r c rs ≡ 0 = omega (arith, none) in
      let nothing : here (blank_rows w h) ≡ space empty_attr =
      ap (λ row. get_or row c (space empty_attr)) (blank_row h r (replicate w (space empty_attr)) high) ∙ blank_cell w c in
      no_separators bars rows rs s columns no
      ∙ panes_show looks bars (blank_rows w h) ps (blank w h) sound (omega (arith, le, count))
      ∙ ap (cell_of_panes looks bars ps r c) (nothing ∙ sym (no_separator_cell bars rs no)))
      (λ (some : 1 ≤ times_in r c rs).
      let one : times_in r c rs ≡ 1 = omega (arith, some, few) in
      let shown = some_separators bars rows rs s columns one in
      shown.0 ∙ sym shown.1 ∙ sym (no_panes looks bars ps (cell_of_separators bars rs r c) (omega (arith, le, count, one))))
      (cases_lt (times_in r c rs) 1)

pub cells_stand_by_windows : CellsStandByWindows
cells_stand_by_windows s sound row col high wide =
    all_show s.width s.height row col high wide s.looks s.bars s.panes.items s.separators.items sound.panes sound.separators
    (sound.apart row col)
