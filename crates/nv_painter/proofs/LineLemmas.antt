-- Rows that are told one after another.
use Rattle.std.proofs.Common.{◌≡◌, ℕ, suc, ◌+◌, ◌-◌, ◌<◌, ◌≤◌, eqb, ltb, List, [], ◌∷◌, ◌++◌, length, map, take, drop, get_or, set, Bool, true, false, cond, not, ◌&&◌, ◌||◌, Option, Some, None, refl, ap, sym, ◌∙◌, append_assoc, arith}
use Rattle.std.proofs.lemmas.Bool.Decides.{nat_tests}
use Rattle.std.proofs.lemmas.List.{drop-set-lt, get_or-map, take_more, take_more_set}
use Rattle.std.proofs.lemmas.Slice.Eq.{bytes_eq-Decides}
use Rattle.std.specs.Cmp.Derive.{both_true}
use Rattle.nv_hl.specs.declared.attribute.Attr.{Attr}
use Rattle.nv_hl.specs.declared.cell.Cell.{Cell}
use Rattle.nv_linedraw.proofs.LayLemmas.{drop_at}
use Rattle.nv_linegrid.specs.declared.event.Redraw.{Redraw}
use Rattle.nv_linegrid.specs.Client.{Shown, ShownRows}
use Rattle.nv_linegrid.specs.Rows.{differs_at, end_due, first_due, is_due, is_right_at, line_of_row, lines_of_rows, no_cell, same_shown, shows_cell}
use Rattle.nv_linegrid.specs.Told.{id_of, known_rows, shown_cell, shown_rows}
use Rattle.nv_linegrid.proofs.LawLemmas.{no_due_no_line}

-- ---- a row that is shown already

pub same_shown_itself : (c : Shown) → same_shown c c ≡ true
same_shown_itself c = both_true (same_number c.id) ((bytes_eq-Decides c.text c.text).1 refl)
  where
    same_number : (n : ℕ) → eqb n n ≡ true
    same_number n = grind (arith, nat_tests)

no_difference : (new : List Shown) (i : ℕ) → differs_at (map Some new) new i ≡ false
no_difference new i = by (ltb i (length new)) refl
  where
    shown : i < length new → shows_cell (get_or (map Some new) i None) (get_or new i no_cell) ≡ true
    shown lt =
        ap (λ o. shows_cell o (get_or new i no_cell)) (get_or-map Some new i no_cell None lt) ∙ same_shown_itself (get_or new i no_cell)

    less : (a b : ℕ) → ltb a b ≡ true → a < b
    less a b e = grind (arith, nat_tests)

    by : (b : Bool) → ltb i (length new) ≡ b → (b && not (shows_cell (get_or (map Some new) i None) (get_or new i no_cell))) ≡ false
    by true e = ap not (shown (less i (length new) e))
    by false e = refl

shown_is_not_due : (new : List Shown) (i : ℕ) → is_due (map Some new) new i ≡ false
unfolding is_due
shown_is_not_due new i =
    rw (no_difference new i) (rw (no_difference new (i - 1)) (rw (no_difference new (i + 1))
    (by (is_right_at new i && ltb 0 i) (is_right_at new (i + 1)))))
  where
    by : (a b : Bool) → (false || (a && false) || (b && false)) ≡ false
    by true true = refl
    by true false = refl
    by false true = refl
    by false false = refl

pub shown_has_no_line : (k : ℕ) (old : List (Option Shown)) (new : List Shown) → old ≡ map Some new → line_of_row k old new ≡ []
shown_has_no_line k old new is =
    ap (λ o. line_of_row k o new) is ∙ no_due_no_line k (map Some new) new (λ i below. shown_is_not_due new i)

-- ---- due cells, from left to right and back

pub first_due_step : (old : List (Option Shown)) (new : List Shown) (k n : ℕ) (b : Bool) → k < n → is_due old new k ≡ b
    → first_due old new (n - k) k ≡ cond b k (first_due old new (n - (k + 1)) (k + 1))
first_due_step old new k n b lt e =
    let more : n - k ≡ suc (n - (k + 1)) = omega (arith, lt) in
    ap (λ m. first_due old new m k) more ∙ ap (λ t. cond t k (first_due old new (n - (k + 1)) (k + 1))) e

pub first_due_none : (old : List (Option Shown)) (new : List Shown) (k n : ℕ) → n ≤ k → first_due old new (n - k) k ≡ k
first_due_none old new k n le = let none : n - k ≡ 0 = omega (arith, le) in ap (λ m. first_due old new m k) none

pub end_due_step : (old : List (Option Shown)) (new : List Shown) (k : ℕ) (b : Bool) → is_due old new k ≡ b
    → end_due old new (k + 1) ≡ cond b (k + 1) (end_due old new k)
end_due_step old new k b e =
    let next : k + 1 ≡ suc k = omega arith in
    ap (end_due old new) next ∙ ap (λ t. cond t (suc k) (end_due old new k)) e ∙ ap (λ n. cond b n (end_due old new k)) (sym next)

-- ---- one row after another

pub row_step : (k : ℕ) (rows after : ShownRows) (screen : List (List Cell)) (attrs : List Attr) (row : List (Option Shown))
    (front all next : List Redraw) → length rows ≡ length screen → k < length screen
    → after ≡ set rows k row
    → next ≡ front ++ line_of_row k (get_or rows k []) (map (shown_cell attrs) (get_or screen k []))
    → front ++ lines_of_rows k (drop k rows) (shown_rows attrs (drop k screen)) ≡ all
    → next ++ lines_of_rows (k + 1) (drop (k + 1) after) (shown_rows attrs (drop (k + 1) screen)) ≡ all
row_step k rows after screen attrs row front all next high lt is told e =
    let old = get_or rows k [] in
    let cells = get_or screen k [] in
    let below : k < length rows = omega (arith, high, lt) in
    let olds : drop k rows ≡ old ∷ drop (k + 1) rows = drop_at rows k [] below in
    let news : drop k screen ≡ cells ∷ drop (k + 1) screen = drop_at screen k [] lt in
    let rest : drop (k + 1) after ≡ drop (k + 1) rows = ap (drop (k + 1)) is ∙ drop-set-lt (k + 1) rows k row (omega arith) in
    let line = line_of_row k old (map (shown_cell attrs) cells) in
    (λ i. told i ++ lines_of_rows (k + 1) (rest i) (shown_rows attrs (drop (k + 1) screen)))
    ∙ append_assoc front line (lines_of_rows (k + 1) (drop (k + 1) rows) (shown_rows attrs (drop (k + 1) screen)))
    ∙ (λ i. front ++ lines_of_rows k (sym olds i) (shown_rows attrs (sym news i)))
    ∙ e

pub front_step : (k : ℕ) (rows after : ShownRows) (screen : List (List Cell)) (attrs : List Attr) (row : List (Option Shown))
    → length rows ≡ length screen → k < length screen → after ≡ set rows k row
    → row ≡ map Some (map (shown_cell attrs) (get_or screen k []))
    → take k rows ≡ known_rows (shown_rows attrs (take k screen))
    → take (k + 1) after ≡ known_rows (shown_rows attrs (take (k + 1) screen))
front_step k rows after screen attrs row high lt is row_is e =
    let cells = get_or screen k [] in
    let below : k < length rows = omega (arith, high, lt) in
    ap (take (k + 1)) is ∙ take_more_set rows k row below ∙ (λ i. e i ++ row_is i ∷ [])
    ∙ sym (known_append (take k screen) cells)
    ∙ ap (λ s. known_rows (shown_rows attrs s)) (sym (take_more screen k [] lt))
  where
    known_append : (xs : List (List Cell)) (x : List Cell)
        → known_rows (shown_rows attrs (xs ++ x ∷ [])) ≡ known_rows (shown_rows attrs xs) ++ map Some (map (shown_cell attrs) x) ∷ []
    known_append [] x = refl
    known_append (y ∷ xs) x = ap (λ l. map Some (map (shown_cell attrs) y) ∷ l) (known_append xs x)

-- ---- cells one after another

shown_append : (attrs : List Attr) (cells : List Cell) (c : Cell)
    → map Some (map (shown_cell attrs) (cells ++ c ∷ [])) ≡ map Some (map (shown_cell attrs) cells) ++ Some (shown_cell attrs c) ∷ []
shown_append attrs [] c = refl
shown_append attrs (x ∷ xs) c = ap (λ l. Some (shown_cell attrs x) ∷ l) (shown_append attrs xs c)

-- a cell more that is shown
pub shown_more : (attrs : List Attr) (row : List (Option Shown)) (cells : List Cell) (k id : ℕ) (cell : Cell)
    → k < length row → k < length cells → cell ≡ get_or cells k cell
    → get_or row k None ≡ Some (record { text = cell.text; id = id }) → id ≡ id_of attrs cell.attr
    → take k row ≡ map Some (map (shown_cell attrs) (take k cells))
    → take (k + 1) row ≡ map Some (map (shown_cell attrs) (take (k + 1) cells))
shown_more attrs row cells k id cell in_row in_cells is there id_is front =
    let told : get_or row k None ≡ Some (shown_cell attrs cell) = there ∙ (λ i. Some (record { text = cell.text; id = id_is i })) in
    let more : take (k + 1) cells ≡ take k cells ++ cell ∷ [] =
    take_more cells k cell in_cells ∙ ap (λ c. take k cells ++ c ∷ []) (sym is) in
    take_more row k None in_row ∙ (λ i. front i ++ told i ∷ []) ∙ sym (shown_append attrs (take k cells) cell)
    ∙ ap (λ l. map Some (map (shown_cell attrs) l)) (sym more)

cells_append : (attrs : List Attr) (cells : List Cell) (c : Cell)
    → map (shown_cell attrs) (cells ++ c ∷ []) ≡ map (shown_cell attrs) cells ++ shown_cell attrs c ∷ []
cells_append attrs [] c = refl
cells_append attrs (x ∷ xs) c = ap (λ l. shown_cell attrs x ∷ l) (cells_append attrs xs c)

-- a cell more with its id
pub cells_more : (attrs : List Attr) (cells : List Cell) (k id : ℕ) (cell : Cell) (text : List ℕ) (front after : List Shown)
    → k < length cells → cell ≡ get_or cells k cell → text ≡ cell.text → id ≡ id_of attrs cell.attr
    → after ≡ front ++ record { text = text; id = id } ∷ [] → front ≡ map (shown_cell attrs) (take k cells)
    → after ≡ map (shown_cell attrs) (take (k + 1) cells)
cells_more attrs cells k id cell text front after lt is text_is id_is put e =
    let more : take (k + 1) cells ≡ take k cells ++ cell ∷ [] =
    take_more cells k cell lt ∙ ap (λ c. take k cells ++ c ∷ []) (sym is) in
    put ∙ (λ i. e i ++ record { text = text_is i; id = id_is i } ∷ []) ∙ sym (cells_append attrs (take k cells) cell)
    ∙ ap (map (shown_cell attrs)) (sym more)
