-- The laws on lines and scrolls, and that nothing is told twice.
use Rattle.std.proofs.Common.{◌≡◌, ℕ, zero, suc, ◌+◌, ◌-◌, ◌<◌, ◌≤◌, ltb, leb, eqb, ℤ, pos, negsuc, neg_ℤ, List, [], ◌∷◌, ◌++◌, length, map, take, drop, get_or, sum, fold, Bool, true, false, cond, not, ◌&&◌, ◌||◌, Option, Some, None, refl, ap, sym, subst, ◌∙◌, append_assoc, arith}
use Rattle.std.proofs.Math.Seq.{drop-length, take-add}
use Rattle.std.proofs.lemmas.List.Sums.{fold-append}
use Rattle.std.proofs.lemmas.Bool.{true≢false, le-leb}
use Rattle.std.proofs.lemmas.Bool.Decides.{nat_tests, Decides-int_eq}
use Rattle.std.proofs.lemmas.List.{take-take, length-take, get_or-map}
use Rattle.std.proofs.lemmas.Slice.Eq.{bytes_eq-Decides}
use Rattle.std.proofs.lemmas.Map.Keys.{IsDistinct-head, IsDistinct-tail}
use Rattle.std.specs.Cmp.Derive.{both_true}
use Rattle.std.specs.List.{AllByRecursion, IsDistinct}
use Rattle.std.specs.Ordering.{int_eq}
use Rattle.nv_hl.specs.declared.attribute.Attr.{Attr}
use Rattle.nv_hl.specs.declared.cell.Cell.{Cell}
use Rattle.nv_hl.specs.declared.colours.Colours.{Colours}
use Rattle.nv_linegrid.specs.declared.event.Redraw.TheVariants.{DefaultColors, Goto, Flush}
use Rattle.nv_linegrid.specs.Client.{Shown, ShownRows, cells_from, row_from, row_between, scrolled_from, rows_scrolled}
use Rattle.nv_linegrid.specs.Told.{Told, Wanted, View, with_attrs_of, with_attrs_of_rows, shown_rows, known_rows, is_same_window, IsDrawn}
use Rattle.nv_linegrid.specs.Rows.{no_cell, same_shown, shows_cell, differs_at, is_right_at, is_due, first_due, end_due, line_between, line_of_row, lines_of_rows}
use Rattle.nv_linegrid.specs.Scrolls.{is_same_text, rows_of_lines, shift_by, shift_between, shift_in, shifts_between, rows_after_shifts, scroll_of}
use Rattle.nv_linegrid.specs.Batch.{event_if, attrs_defined, same_colours, is_place, is_resized, attrs_after, batch_by, batch, told_after}
use Rattle.nv_linegrid.specs.Laws.{IsAtDueCells, cell_at, cell_brought}
use Rattle.nv_linegrid.proofs.TableLemmas.{HasIds, rows_have}
use Rattle.nv_linegrid.proofs.DueLemmas.{end_within, first_is_due, end_is_due}

-- ---- lines

pub lines_begin_and_end_due : (old : List (Option Shown)) (new : List Shown)
    → first_due old new (length new) 0 < end_due old new (length new) → IsAtDueCells old new
lines_begin_and_end_due old new some =
    let le = end_within old new (length new) in
    record {
      first = first_is_due old new (length new) 0 (omega (arith, le, some));
      last = end_is_due old new (length new) (omega (arith, some));
    }

-- no due cell: the end stays at 0
no_end : (old : List (Option Shown)) (new : List Shown) (n : ℕ) → ((i : ℕ) → i < n → is_due old new i ≡ false)
    → end_due old new n ≡ 0
no_end old new zero none = refl
no_end old new (suc n) none =
    ap (λ b. cond b (suc n) (end_due old new n)) (none n (omega arith))
    ∙ no_end old new n (λ i below. none i (omega arith))

not_below_zero : (n : ℕ) → ltb n 0 ≡ false
not_below_zero n = grind (arith, nat_tests)

pub no_due_no_line : (row : ℕ) (old : List (Option Shown)) (new : List Shown)
    → ((i : ℕ) → i < length new → is_due old new i ≡ false) → line_of_row row old new ≡ []
no_due_no_line row old new none =
    ap (line_between row new (first_due old new (length new) 0)) (no_end old new (length new) none) ∙ none_before (first_due old new (length new) 0)
  where
    none_before : (first : ℕ) → line_between row new first 0 ≡ []
    none_before first = rw (not_below_zero first) refl

-- ---- nothing is told twice

same_shown_refl : (c : Shown) → same_shown c c ≡ true
same_shown_refl c = both_true (same_number c.id) ((bytes_eq-Decides c.text c.text).1 refl)
  where
    same_number : (n : ℕ) → eqb n n ≡ true
    same_number n = grind (arith, nat_tests)

no_difference : (new : List Shown) (i : ℕ) → differs_at (map Some new) new i ≡ false
no_difference new i = by (ltb i (length new)) refl
  where
    shown : i < length new → shows_cell (get_or (map Some new) i None) (get_or new i no_cell) ≡ true
    shown lt =
        ap (λ o. shows_cell o (get_or new i no_cell)) (get_or-map Some new i no_cell None lt) ∙ same_shown_refl (get_or new i no_cell)

    less : (a b : ℕ) → ltb a b ≡ true → a < b
    less a b e = grind (arith, nat_tests)

    by : (b : Bool) → ltb i (length new) ≡ b → (b && not (shows_cell (get_or (map Some new) i None) (get_or new i no_cell))) ≡ false
    by true e = ap not (shown (less i (length new) e))
    by false e = refl

and_false : (a : Bool) → (a && false) ≡ false
and_false true = refl
and_false false = refl

shown_is_not_due : (new : List Shown) (i : ℕ) → is_due (map Some new) new i ≡ false
unfolding is_due
shown_is_not_due new i =
    rw (no_difference new i) (rw (no_difference new (i - 1)) (rw (no_difference new (i + 1))
    (by (is_right_at new i && ltb 0 i) (is_right_at new (i + 1)))))
  where
    by : (a b : Bool) → (false || (a && false) || (b && false)) ≡ false
    by true true = refl
    by true false = refl
    by false true = refl
    by false false = refl

lines_of_shown : (k : ℕ) (rows : List (List Shown)) → lines_of_rows k (known_rows rows) rows ≡ []
lines_of_shown k [] = refl
lines_of_shown k (r ∷ rs) =
    ap (λ l. l ++ lines_of_rows (k + 1) (known_rows rs) rs) (no_due_no_line k (map Some r) r (λ i below. shown_is_not_due r i))
    ∙ lines_of_shown (k + 1) rs

-- attributes that have ids get none
cells_add_none : (attrs : List Attr) (cs : List Cell) → HasIds attrs cs → with_attrs_of attrs cs ≡ attrs
cells_add_none attrs [] h = refl
cells_add_none attrs (c ∷ cs) h =
    ap (λ b. with_attrs_of (cond b attrs (attrs ++ c.attr ∷ [])) cs) h.0 ∙ cells_add_none attrs cs h.1

rows_add_none : (attrs : List Attr) (rows : List (List Cell)) → AllByRecursion (HasIds attrs) rows → with_attrs_of_rows attrs rows ≡ attrs
rows_add_none attrs [] h = refl
rows_add_none attrs (r ∷ rs) h =
    ap (λ l. with_attrs_of_rows l rs) (cells_add_none attrs r h.0) ∙ rows_add_none attrs rs h.1

-- a view is scrolled by nothing where it is as it was
shift_by_none : (v : View) (d : ℤ) (n : ℕ) → n ≡ 0 → shift_by v d n ≡ []
shift_by_none v d n e =
    ap (λ k. cond (ltb 0 k && ltb k v.height) (record { top = v.row; bot = v.row + v.height; left = v.col; right = v.col + v.width; rows = d } ∷ []) []) e

no_lines_no_rows : (v : View) (n : ℕ) → n ≡ 0 → rows_of_lines n v ≡ 0
no_lines_no_rows v n e = ap (λ k. rows_of_lines k v) e

same_view_stays : (v : View) → shift_between v v ≡ []
same_view_stays v =
    by (leb v.first v.first) (leb (v.first - v.first) (length v.heights)) refl
  where
    up : leb v.first v.first ≡ true
    up = le-leb v.first v.first (omega arith)

    none : rows_of_lines (v.first - v.first) v ≡ 0
    none = no_lines_no_rows v (v.first - v.first) (omega arith)

    by : (a b : Bool) → leb v.first v.first ≡ a
        → cond a
        (cond b (shift_by v (pos (rows_of_lines (v.first - v.first) v)) (rows_of_lines (v.first - v.first) v)) [])
        (cond (leb (v.first - v.first) (length v.heights)) (shift_by v (neg_ℤ (pos (rows_of_lines (v.first - v.first) v))) (rows_of_lines (v.first - v.first) v)) [])
        ≡ []
    by true true e = shift_by_none v (pos (rows_of_lines (v.first - v.first) v)) (rows_of_lines (v.first - v.first) v) none
    by true false e = refl
    by false b e = absurd (true≢false (sym up ∙ e))

-- another window is no same text
other_window : (a b : View) → is_same_window a b ≡ false → is_same_text a b ≡ false
other_window a b e =
    ap (λ t. t && eqb a.row b.row && eqb a.col b.col && eqb a.width b.width && eqb a.height b.height && int_eq a.buffer b.buffer
    && int_eq a.tick b.tick && eqb a.tabstop b.tabstop) e

same_text : (v : View) → is_same_text v v ≡ true
same_text v =
    both_true (both_true (both_true (both_true (both_true (both_true (both_true (same_int v.window) (same_number v.row)) (same_number v.col))
    (same_number v.width)) (same_number v.height)) (same_int v.buffer)) (same_int v.tick)) (same_number v.tabstop)
  where
    same_number : (n : ℕ) → eqb n n ≡ true
    same_number n = grind (arith, nat_tests)

    same_int : (n : ℤ) → int_eq n n ≡ true
    same_int n = (Decides-int_eq n n).1 refl

stays_among : (pre post : List View) (v : View) → AllByRecursion (λ u. is_same_window u v ≡ false) pre
    → shift_in (pre ++ v ∷ post) v ≡ []
stays_among [] post v h = by (is_same_text v v) refl
  where
    by : (b : Bool) → is_same_text v v ≡ b → cond b (shift_between v v) (shift_in post v) ≡ []
    by true e = same_view_stays v
    by false e = absurd (true≢false (sym (same_text v) ∙ e))
stays_among (u ∷ pre) post v h =
    ap (λ b. cond b (shift_between u v) (shift_in (pre ++ v ∷ post) v)) (other_window u v h.0) ∙ stays_among pre post v h.1

-- views that are apart: each finds itself
all_stay : (pre news : List View) → IsDistinct is_same_window (pre ++ news) → shifts_between (pre ++ news) news ≡ []
all_stay pre [] apart = refl
all_stay pre (v ∷ news) apart =
    let here = stays_among pre news v (apart_before pre v news apart) in
    let regrouped : (pre ++ v ∷ []) ++ news ≡ pre ++ v ∷ news = append_assoc pre (v ∷ []) news in
    let rest = all_stay (pre ++ v ∷ []) news (subst (IsDistinct is_same_window) (sym regrouped) apart) in
    ap (λ l. l ++ shifts_between (pre ++ v ∷ news) news) here
    ∙ ap (λ olds. shifts_between olds news) (sym regrouped) ∙ rest
  where
    of_append : (u : View) (xs ys : List View) → AllByRecursion (λ y. is_same_window u y ≡ false) (xs ++ ys)
        → AllByRecursion (λ y. is_same_window u y ≡ false) ys
    of_append u [] ys h = h
    of_append u (x ∷ xs) ys h = of_append u xs ys h.1

    apart_before : (xs : List View) (u : View) (ys : List View) → IsDistinct is_same_window (xs ++ u ∷ ys)
        → AllByRecursion (λ x. is_same_window x u ≡ false) xs
    apart_before [] u ys h = tt
    apart_before (x ∷ xs) u ys h = (
      (of_append x xs (u ∷ ys) (IsDistinct-head is_same_window x (xs ++ u ∷ ys) h)).0,
      apart_before xs u ys (IsDistinct-tail is_same_window x (xs ++ u ∷ ys) h),
    )

-- ---- the batch of what is shown

number_is_itself : (n : ℕ) → eqb n n ≡ true
number_is_itself n = grind (arith, nat_tests)

colours_are_same : (c : Colours) → same_colours (Some c) c ≡ true
colours_are_same c =
    both_true (both_true (both_true (both_true (number_is_itself c.fg) (number_is_itself c.bg)) (number_is_itself c.sp))
    (number_is_itself c.cterm_fg)) (number_is_itself c.cterm_bg)

pub same_is_flush : (t : Told) (w : Wanted) → IsDrawn w → batch (told_after t w) w ≡ Flush ∷ []
unfolding batch told_after
same_is_flush t w d =
    let size : is_resized (told_after t w) w ≡ false =
    ap not (both_true (number_is_itself w.screen.width) (number_is_itself w.screen.height)) in
    let attrs : attrs_after (told_after t w) w ≡ attrs_after t w =
    rows_add_none (attrs_after t w) w.screen.rows (rows_have t.attrs w.screen.rows) in
    let told = told_after t w in
    ap (λ r. batch_by r told w (attrs_after told w)) size
    ∙ ap (batch_by false told w) attrs
    ∙ parts (attrs_after t w) (ap not (colours_are_same w.colours)) (all_stay [] w.views d.apart)
    (ap not (both_true (number_is_itself w.cursor.0) (number_is_itself w.cursor.1)))
  where
    parts : (attrs : List Attr) → not (same_colours (Some w.colours) w.colours) ≡ false → shifts_between w.views w.views ≡ []
        → not (is_place (Some w.cursor) w.cursor) ≡ false
        → event_if (not (same_colours (Some w.colours) w.colours)) (DefaultColors w.colours)
        ++ attrs_defined (suc (length attrs)) (drop (length attrs) attrs)
        ++ []
        ++ map scroll_of (shifts_between w.views w.views)
        ++ lines_of_rows 0 (rows_after_shifts (shifts_between w.views w.views) (known_rows (shown_rows attrs w.screen.rows))) (shown_rows attrs w.screen.rows)
        ++ event_if (not (is_place (Some w.cursor) w.cursor)) (Goto (pos 1) w.cursor.0 w.cursor.1)
        ++ Flush ∷ []
        ≡ Flush ∷ []
    parts attrs colours shifts place =
        rw colours (rw (drop-length attrs) (rw shifts (rw (lines_of_shown 0 (shown_rows attrs w.screen.rows)) (rw place refl))))

-- ---- scrolls

between_at : (left right : ℕ) (source : List (Option Shown)) (i : ℕ) (row : List (Option Shown)) (col : ℕ) → col < length row
    → get_or (row_between left right source i row) col None
    ≡ cond (leb left (i + col) && ltb (i + col) right) (get_or source (i + col) None) (get_or row col None)
between_at left right source i [] col lt = absurd (omega arith)
between_at left right source i (c ∷ cs) zero lt =
    ap (λ k. cond (leb left k && ltb k right) (get_or source k None) c) (omega arith)
between_at left right source i (c ∷ cs) (suc col) lt =
    between_at left right source (i + 1) cs col (omega arith)
    ∙ ap (λ k. cond (leb left k && ltb k right) (get_or source k None) (get_or cs col None)) (omega arith)

row_at : (top bot left right : ℕ) (d : ℤ) (all : ShownRows) (k : ℕ) (rows : ShownRows) (row : ℕ) → row < length rows
    → get_or (scrolled_from top bot left right d all k rows) row []
    ≡ cond (leb top (k + row) && ltb (k + row) bot)
    (row_between left right (cells_from all (row_from top bot d (k + row))) 0 (get_or rows row [])) (get_or rows row [])
row_at top bot left right d all k [] row lt = absurd (omega arith)
row_at top bot left right d all k (r ∷ rs) zero lt =
    ap (λ j. cond (leb top j && ltb j bot) (row_between left right (cells_from all (row_from top bot d j)) 0 r) r) (omega arith)
row_at top bot left right d all k (r ∷ rs) (suc row) lt =
    row_at top bot left right d all (k + 1) rs row (omega arith)
    ∙ ap (λ j. cond (leb top j && ltb j bot) (row_between left right (cells_from all (row_from top bot d j)) 0 (get_or rs row [])) (get_or rs row []))
    (omega arith)

brought : (top bot : ℕ) (d : ℤ) (rows : ShownRows) (row col : ℕ)
    → get_or (cells_from rows (row_from top bot d row)) col None ≡ cell_brought top bot d rows row col
brought top bot (pos n) rows row col = by (ltb (row + n) bot)
  where
    by : (b : Bool) → get_or (cells_from rows (cond b (Some (row + n)) None)) col None ≡ cond b (cell_at rows (row + n) col) None
    by true = refl
    by false = refl
brought top bot (negsuc n) rows row col = by (leb (top + suc n) row)
  where
    by : (b : Bool) → get_or (cells_from rows (cond b (Some (row - suc n)) None)) col None ≡ cond b (cell_at rows (row - suc n) col) None
    by true = refl
    by false = refl

pub scroll_moves : (top bot left right : ℕ) (d : ℤ) (rows : ShownRows) (row col : ℕ) → row < length rows
    → col < length (get_or rows row [])
    → cell_at (rows_scrolled top bot left right d rows) row col
    ≡ cond (leb top row && ltb row bot && leb left col && ltb col right) (cell_brought top bot d rows row col) (cell_at rows row col)
scroll_moves top bot left right d rows row col lt within =
    ap (λ r. get_or r col None) (row_at top bot left right d rows 0 rows row lt)
    ∙ ap (λ k. get_or (cond (leb top k && ltb k bot) (row_between left right (cells_from rows (row_from top bot d k)) 0 (get_or rows row [])) (get_or rows row [])) col None) (zero_add row)
    ∙ by (leb top row) (ltb row bot)
  where
    zero_add : (n : ℕ) → 0 + n ≡ n
    zero_add n = omega arith

    inner : get_or (row_between left right (cells_from rows (row_from top bot d row)) 0 (get_or rows row [])) col None
        ≡ cond (leb left col && ltb col right) (cell_brought top bot d rows row col) (cell_at rows row col)
    inner =
        between_at left right (cells_from rows (row_from top bot d row)) 0 (get_or rows row []) col within
        ∙ ap (λ k. cond (leb left k && ltb k right) (get_or (cells_from rows (row_from top bot d row)) k None) (cell_at rows row col)) (zero_add col)
        ∙ ap (λ o. cond (leb left col && ltb col right) o (cell_at rows row col)) (brought top bot d rows row col)

    by : (a b : Bool)
        → get_or (cond (a && b) (row_between left right (cells_from rows (row_from top bot d row)) 0 (get_or rows row [])) (get_or rows row [])) col None
        ≡ cond (a && b && leb left col && ltb col right) (cell_brought top bot d rows row col) (cell_at rows row col)
    by true true = inner
    by true false = refl
    by false b = refl

sum_from : (a : ℕ) (xs : List ℕ) → fold ◌+◌ a xs ≡ a + fold ◌+◌ 0 xs
sum_from a [] = omega arith
sum_from a (x ∷ xs) = omega (arith, sum_from (a + x) xs, sum_from (0 + x) xs)

sum-append : (xs ys : List ℕ) → sum (xs ++ ys) ≡ sum xs + sum ys
sum-append xs ys = fold-append ◌+◌ 0 xs ys ∙ sum_from (sum xs) ys

pub scroll_counts_rows : (heights : List ℕ) (above below n : ℕ) → above ≤ below → below - above ≤ length (take n (drop above heights))
    → sum (take below heights) ≡ sum (take above heights) + sum (take (below - above) (take n (drop above heights)))
scroll_counts_rows heights above below n le within =
    ap (λ k. sum (take k heights)) (omega (arith, le))
    ∙ ap sum (take-add above (below - above) heights)
    ∙ sum-append (take above heights) (take (below - above) (drop above heights))
    ∙ ap (λ xs. sum (take above heights) + sum xs) (sym (take-take (below - above) n (drop above heights) few))
  where
    few : below - above ≤ n
    few = omega (arith, within, length-take n (drop above heights))
