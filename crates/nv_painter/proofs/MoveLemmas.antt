-- Windows whose text moved.
use Rattle.std.proofs.Common.{◌≡◌, ◌≢◌, ℕ, zero, suc, pos, neg_ℤ, ◌+◌, ◌-◌, ◌<◌, ◌≤◌, ltb, leb, List, [], ◌∷◌, ◌++◌, length, map, take, drop, get_or, set, min, sum, Bool, true, false, cond, ◌&&◌, Option, Some, None, refl, ap, sym, ◌∙◌, append_assoc, arith, ⊎_elim}
use Rattle.std.proofs.lemmas.Bool.{cases_eq, cases_lt, false≢true}
use Rattle.std.proofs.lemmas.Bool.Decides.{nat_tests}
use Rattle.std.proofs.lemmas.List.{get_or-set_other}
use Rattle.std.proofs.lemmas.List.Sums.{sum_by-cons}
use Rattle.nv_linedraw.proofs.LayLemmas.{drop_at}
use Rattle.nv_linegrid.specs.Client.{Shown, ShownRows, cells_from, row_between, row_from, scrolled_from}
use Rattle.nv_linegrid.specs.Scrolls.{Shift, rows_after_shift, rows_after_shifts, rows_of_lines, scroll_of, shift_between, shift_by, shift_in, shifts_between}
use Rattle.nv_linegrid.specs.Told.{View}
use Rattle.nv_painter.specs.Laws.{CutHeightsMoveAlike}
use Rattle.nv_painter.specs.inside.Moving.{StaysIn, row_after_shift, rows_up}

-- ---- how far

-- more rows than a window has move it no more than as many as it has
pub moved_at_most : (v : View) (down : Bool) (n : ℕ) → shift_by v (rows_up (min v.height n) down) (min v.height n) ≡ shift_by v (rows_up n down) n
moved_at_most v down n =
    ⊎_elim
    (λ (lt : n < v.height). let is : min v.height n ≡ n = omega (arith, lt) in ap (λ k. shift_by v (rows_up k down) k) is)
    (λ (le : v.height ≤ n).
    let is : min v.height n ≡ v.height = omega (arith, le) in
    ap (λ k. shift_by v (rows_up k down) k) is ∙ none v.height (omega arith) ∙ sym (none n le))
    (cases_lt n v.height)
  where
    not_less : (m : ℕ) → v.height ≤ m → ltb m v.height ≡ false
    not_less m le = grind (arith, nat_tests)

    nothing : (b : Bool) (s : List Shift) → cond (b && false) s [] ≡ []
    nothing true s = refl
    nothing false s = refl

    none : (m : ℕ) → v.height ≤ m → shift_by v (rows_up m down) m ≡ []
    none m le =
        let s : List Shift = record { top = v.row; bot = v.row + v.height; left = v.col; right = v.col + v.width; rows = rows_up m down } ∷ [] in
        ap (λ t. cond (ltb 0 m && t) s []) (not_less m le) ∙ nothing (ltb 0 m) s

less_is : (a b : ℕ) → a < b → ltb a b ≡ true
less_is a b lt = grind (arith, nat_tests)

most_is : (a b : ℕ) → a ≤ b → leb a b ≡ true
most_is a b le = grind (arith, nat_tests)

not_most : (a b : ℕ) → b < a → leb a b ≡ false
not_most a b lt = grind (arith, nat_tests)

-- the shift between two views, by what the code looks at
pub between_down : (old new : View) → new.first < old.first → old.first - new.first ≤ length new.heights
    → shift_between old new ≡ shift_by new (rows_up (sum (take (old.first - new.first) new.heights)) true) (sum (take (old.first - new.first) new.heights))
between_down old new down few =
    let n = old.first - new.first in
    ap
    (λ b. cond b
    (cond (leb (new.first - old.first) (length old.heights)) (shift_by new (pos (rows_of_lines (new.first - old.first) old)) (rows_of_lines (new.first - old.first) old)) [])
    (cond (leb n (length new.heights)) (shift_by new (neg_ℤ (pos (rows_of_lines n new))) (rows_of_lines n new)) []))
    (not_most old.first new.first down)
    ∙ ap (λ b. cond b (shift_by new (neg_ℤ (pos (rows_of_lines n new))) (rows_of_lines n new)) []) (most_is n (length new.heights) few)

pub between_down_none : (old new : View) → new.first < old.first → length new.heights < old.first - new.first → shift_between old new ≡ []
between_down_none old new down many =
    let n = old.first - new.first in
    ap
    (λ b. cond b
    (cond (leb (new.first - old.first) (length old.heights)) (shift_by new (pos (rows_of_lines (new.first - old.first) old)) (rows_of_lines (new.first - old.first) old)) [])
    (cond (leb n (length new.heights)) (shift_by new (neg_ℤ (pos (rows_of_lines n new))) (rows_of_lines n new)) []))
    (not_most old.first new.first down)
    ∙ ap (λ b. cond b (shift_by new (neg_ℤ (pos (rows_of_lines n new))) (rows_of_lines n new)) []) (not_most n (length new.heights) many)

pub between_up : (old new : View) → old.first ≤ new.first → new.first - old.first ≤ length old.heights
    → shift_between old new ≡ shift_by new (rows_up (sum (take (new.first - old.first) old.heights)) false) (sum (take (new.first - old.first) old.heights))
between_up old new up few =
    let n = new.first - old.first in
    ap
    (λ b. cond b
    (cond (leb n (length old.heights)) (shift_by new (pos (rows_of_lines n old)) (rows_of_lines n old)) [])
    (cond (leb (old.first - new.first) (length new.heights)) (shift_by new (neg_ℤ (pos (rows_of_lines (old.first - new.first) new))) (rows_of_lines (old.first - new.first) new)) []))
    (most_is old.first new.first up)
    ∙ ap (λ b. cond b (shift_by new (pos (rows_of_lines n old)) (rows_of_lines n old)) []) (most_is n (length old.heights) few)

pub between_up_none : (old new : View) → old.first ≤ new.first → length old.heights < new.first - old.first → shift_between old new ≡ []
between_up_none old new up many =
    let n = new.first - old.first in
    ap
    (λ b. cond b
    (cond (leb n (length old.heights)) (shift_by new (pos (rows_of_lines n old)) (rows_of_lines n old)) [])
    (cond (leb (old.first - new.first) (length new.heights)) (shift_by new (neg_ℤ (pos (rows_of_lines (old.first - new.first) new))) (rows_of_lines (old.first - new.first) new)) []))
    (most_is old.first new.first up)
    ∙ ap (λ b. cond b (shift_by new (pos (rows_of_lines n old)) (rows_of_lines n old)) []) (not_most n (length old.heights) many)

-- ---- rows that move

-- a row between no columns is as it was
pub between_none : (source row : List (Option Shown)) → row_between 0 0 source 0 row ≡ row
between_none source row = from 0 row
  where
    never : (i : ℕ) → (leb 0 i && ltb i 0) ≡ false
    never i = grind (arith, nat_tests)

    from : (i : ℕ) (cells : List (Option Shown)) → row_between 0 0 source i cells ≡ cells
    from i [] = refl
    from i (c ∷ cells) =
        (λ j. (cond (never i j) (get_or source i None) c) ∷ from (i + 1) cells j)

pub row_after_step : (s : Shift) (rows : ShownRows) (k : ℕ) (front all : ShownRows) (row : List (Option Shown)) → k < length rows
    → row ≡ row_after_shift s rows k
    → front ++ scrolled_from s.top s.bot s.left s.right s.rows rows k (drop k rows) ≡ all
    → (front ++ row ∷ []) ++ scrolled_from s.top s.bot s.left s.right s.rows rows (k + 1) (drop (k + 1) rows) ≡ all
row_after_step s rows k front all row lt is e =
    let here : drop k rows ≡ get_or rows k [] ∷ drop (k + 1) rows = drop_at rows k [] lt in
    let rest = scrolled_from s.top s.bot s.left s.right s.rows rows (k + 1) (drop (k + 1) rows) in
    append_assoc front (row ∷ []) rest
    ∙ ap (λ r. front ++ r ∷ rest) is
    ∙ ap (λ l. front ++ scrolled_from s.top s.bot s.left s.right s.rows rows k l) (sym here)
    ∙ e

pub cell_step : (left right : ℕ) (source row : List (Option Shown)) (k : ℕ) (front all : List (Option Shown)) (cell : Option Shown) → k < length row
    → cell ≡ cond (leb left k && ltb k right) (get_or source k None) (get_or row k None)
    → front ++ row_between left right source k (drop k row) ≡ all
    → (front ++ cell ∷ []) ++ row_between left right source (k + 1) (drop (k + 1) row) ≡ all
cell_step left right source row k front all cell lt is e =
    let here : drop k row ≡ get_or row k None ∷ drop (k + 1) row = drop_at row k None lt in
    let rest = row_between left right source (k + 1) (drop (k + 1) row) in
    append_assoc front (cell ∷ []) rest
    ∙ ap (λ c. front ++ c ∷ rest) is
    ∙ ap (λ l. front ++ row_between left right source k l) (sym here)
    ∙ e

-- ---- which row comes

pub comes_up : (rows : ShownRows) (top bot n k : ℕ) → k + n < bot → cells_from rows (row_from top bot (pos n) k) ≡ get_or rows (k + n) []
comes_up rows top bot n k lt = ap (λ b. cells_from rows (cond b (Some (k + n)) None)) (less_is (k + n) bot lt)

pub comes_up_none : (rows : ShownRows) (top bot n k : ℕ) → bot ≤ k + n → cells_from rows (row_from top bot (pos n) k) ≡ []
comes_up_none rows top bot n k le =
    let no : ltb (k + n) bot ≡ false = grind (arith, nat_tests) in
    ap (λ b. cells_from rows (cond b (Some (k + n)) None)) no

pub past_rows : (rows : ShownRows) (k : ℕ) → length rows ≤ k → get_or rows k [] ≡ []
past_rows [] k le = refl
past_rows (r ∷ rs) zero le = absurd (omega (arith, le))
past_rows (r ∷ rs) (suc k) le = past_rows rs k (omega (arith, le))

pub comes_down : (rows : ShownRows) (top bot n k : ℕ) → 0 < n → top + n ≤ k → cells_from rows (row_from top bot (neg_ℤ (pos n)) k) ≡ get_or rows (k - n) []
comes_down rows top bot zero k some le = absurd (omega (arith, some))
comes_down rows top bot (suc n) k some le =
    ap (λ b. cells_from rows (cond b (Some (k - suc n)) None)) (most_is (top + suc n) k le)

pub comes_down_none : (rows : ShownRows) (top bot n k : ℕ) → 0 < n → k < top + n → cells_from rows (row_from top bot (neg_ℤ (pos n)) k) ≡ []
comes_down_none rows top bot zero k some lt = absurd (omega (arith, some))
comes_down_none rows top bot (suc n) k some lt =
    ap (λ b. cells_from rows (cond b (Some (k - suc n)) None)) (not_most (top + suc n) k lt)

-- ---- windows one after another

pub map-append-scrolls : (xs ys : List Shift) → map scroll_of (xs ++ ys) ≡ map scroll_of xs ++ map scroll_of ys
map-append-scrolls [] ys = refl
map-append-scrolls (x ∷ xs) ys = ap (λ l. scroll_of x ∷ l) (map-append-scrolls xs ys)

pub no_scroll : (olds news : List View) (k : ℕ) (v : View) → drop k news ≡ v ∷ drop (k + 1) news → shift_in olds v ≡ []
    → shifts_between olds (drop (k + 1) news) ≡ shifts_between olds (drop k news)
no_scroll olds news k v here none =
    sym (ap (shifts_between olds) here ∙ ap (λ l. l ++ shifts_between olds (drop (k + 1) news)) none)

pub one_scroll : (olds news : List View) (k : ℕ) (v : View) (s : Shift) → drop k news ≡ v ∷ drop (k + 1) news → shift_in olds v ≡ s ∷ []
    → shifts_between olds (drop k news) ≡ s ∷ shifts_between olds (drop (k + 1) news)
one_scroll olds news k v s here one =
    ap (shifts_between olds) here ∙ ap (λ l. l ++ shifts_between olds (drop (k + 1) news)) one

-- ---- rows past a window's height

cut_alike : (h : ℕ) (xs : List ℕ) → min h (sum (map (min h) xs)) ≡ min h (sum xs)
cut_alike h [] = refl
cut_alike h (x ∷ xs) =
    omega (arith, cut_alike h xs, sum_by-cons (λ (n : ℕ). n) x xs, sum_by-cons (λ (n : ℕ). n) (min h x) (map (min h) xs))

pub cut_heights_move_alike : CutHeightsMoveAlike
cut_heights_move_alike v heights = (alike false, alike true)
  where
    cut : ℕ
    cut = sum (map (min v.height) heights)

    alike : (down : Bool) → shift_by v (rows_up cut down) cut ≡ shift_by v (rows_up (sum heights) down) (sum heights)
    alike down =
        sym (moved_at_most v down cut) ∙ ap (λ k. shift_by v (rows_up k down) k) (cut_alike v.height heights)
        ∙ moved_at_most v down (sum heights)

-- ---- rows that stay

stays_from : (s : Shift) (all : ShownRows) (i : ℕ) (rows : ShownRows) (k : ℕ) → (leb s.top (i + k) && ltb (i + k) s.bot) ≡ false
    → get_or (scrolled_from s.top s.bot s.left s.right s.rows all i rows) k [] ≡ get_or rows k []
stays_from s all i [] k e = refl
stays_from s all i (r ∷ rows) zero e =
    let here : i + 0 ≡ i = omega arith in
    ap (λ b. cond b (row_between s.left s.right (cells_from all (row_from s.top s.bot s.rows i)) 0 r) r)
    (ap (λ j. leb s.top j && ltb j s.bot) (sym here) ∙ e)
stays_from s all i (r ∷ rows) (suc k) e =
    let next : i + 1 + k ≡ i + suc k = omega arith in
    stays_from s all (i + 1) rows k (ap (λ j. leb s.top j && ltb j s.bot) next ∙ e)

-- a row that no shift moves is as it was
pub stays : (ss : List Shift) (rows : ShownRows) (k : ℕ) → StaysIn ss k → get_or (rows_after_shifts ss rows) k [] ≡ get_or rows k []
stays [] rows k all = refl
stays (s ∷ ss) rows k all =
    let at : 0 + k ≡ k = omega arith in
    stays ss (rows_after_shift s rows) k all.1 ∙ stays_from s rows 0 rows k (ap (λ j. leb s.top j && ltb j s.bot) at ∙ all.0)

pub stays_push : (ss : List Shift) (s : Shift) (k : ℕ) → StaysIn ss k → (leb s.top k && ltb k s.bot) ≡ false → StaysIn (ss ++ s ∷ []) k
stays_push [] s k all one = (one, tt)
stays_push (x ∷ ss) s k all one = (all.0, stays_push ss s k all.1 one)

-- one row more is cleared
pub cleared_step : (flags first : List Bool) (from k : ℕ)
    → ((j : ℕ) → get_or flags j false ≡ true → (get_or first j false ≡ true) × ((leb from j && ltb j k) ≡ false))
    → (j : ℕ) → get_or (set flags k false) j false ≡ true → (get_or first j false ≡ true) × ((leb from j && ltb j (k + 1)) ≡ false)
cleared_step flags first from k all j e =
    ⊎_elim
    (λ (same : k ≡ j). absurd (false≢true (sym (cleared flags k) ∙ ap (λ i. get_or (set flags k false) i false) same ∙ e)))
    (λ (other : k ≢ j).
    let was = all j (sym (get_or-set_other flags k j false false (λ (e : j ≡ k). other (sym e))) ∙ e) in
    (was.0, later other was.1))
    (cases_eq k j)
  where
    cleared : (fs : List Bool) (i : ℕ) → get_or (set fs i false) i false ≡ false
    cleared [] i = refl
    cleared (f ∷ fs) zero = refl
    cleared (f ∷ fs) (suc i) = cleared fs i

    no : k + 1 ≤ j → ltb j (k + 1) ≡ false
    no le = grind (arith, nat_tests)

    none : (b : Bool) → (b && false) ≡ false
    none true = refl
    none false = refl

    apart : k ≢ j → k ≤ j → k + 1 ≤ j
    apart other le = ⊎_elim (λ (lt : k < j). omega (arith, lt)) (λ (ge : j ≤ k). absurd (other (omega (arith, ge, le)))) (cases_lt k j)

    later : k ≢ j → (leb from j && ltb j k) ≡ false → (leb from j && ltb j (k + 1)) ≡ false
    later other before =
        ⊎_elim
        (λ (lt : j < k). ap (λ b. leb from j && b) (less_is j (k + 1) (omega (arith, lt)) ∙ sym (less_is j k lt)) ∙ before)
        (λ (le : k ≤ j). let behind : k + 1 ≤ j = apart other le in ap (λ b. leb from j && b) (no behind) ∙ none (leb from j))
        (cases_lt j k)
