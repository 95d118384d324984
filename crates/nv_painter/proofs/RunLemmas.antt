-- Runs, one cell after another.
use Rattle.std.proofs.Common.{◌≡◌, ℕ, zero, suc, ◌+◌, ◌<◌, ltb, List, [], ◌∷◌, ◌++◌, length, drop, get_or, Bool, true, false, cond, not, ◌&&◌, Option, Some, None, refl, ap, sym, ◌∙◌, append_assoc, arith}
use Rattle.std.proofs.lemmas.Bool.{and_parts, false≢true}
use Rattle.std.proofs.lemmas.Bool.Decides.{nat_tests}
use Rattle.nv_linedraw.proofs.LayLemmas.{drop_at}
use Rattle.nv_linegrid.specs.declared.event.Run.{Run}
use Rattle.nv_linegrid.specs.Client.{Shown}
use Rattle.nv_linegrid.specs.Rows.{are_one_run, is_half, no_cell, run_of, runs_from, runs_of, same_shown}
use Rattle.nv_linegrid.proofs.SameLemmas.{same_shown_is}
use Rattle.nv_painter.specs.inside.Telling.{half_at, joins_at, runs_with}

not_true : (b : Bool) → not b ≡ true → b ≡ false
not_true true e = absurd (false≢true e)
not_true false e = refl

pub runs_begin : (cs : List Shown) → runs_of cs ≡ runs_with None 1 cs
runs_begin [] = refl
runs_begin (c ∷ cs) = refl

-- a cell and the one behind it that are one run
run_grows : (last : Option ℕ) (n : ℕ) (c y : Shown) (ys : List Shown)
    → are_one_run c (is_half c (y ∷ ys)) y (is_half y ys) ≡ true
    → runs_with last n (c ∷ y ∷ ys) ≡ runs_with last (n + 1) (y ∷ ys)
run_grows last n c y ys e =
    let p1 = and_parts (same_shown c y && not (is_half c (y ∷ ys))) (not (is_half y ys)) e in
    let p0 = and_parts (same_shown c y) (not (is_half c (y ∷ ys))) p1.0 in
    let same = same_shown_is c y p0.0 in
    let half = not_true (is_half c (y ∷ ys)) p0.1 ∙ sym (not_true (is_half y ys) p1.1) in
    ap (λ b. cond b (runs_from last c (is_half c (y ∷ ys)) (n + 1) ys) (run_of last c n ∷ runs_from (Some c.id) y (is_half y ys) 1 ys)) e
    ∙ (λ i. runs_from last (same i) (half i) (n + 1) ys)

-- the step of the loop, at a place
pub joined : (cells : List Shown) (k n : ℕ) (last : Option ℕ) (front : List Run) (all : List Run) → k + 1 < length cells
    → are_one_run (get_or cells k no_cell) (half_at cells k) (get_or cells (k + 1) no_cell) (half_at cells (k + 1)) ≡ true
    → front ++ runs_with last n (drop k cells) ≡ all
    → front ++ runs_with last (n + 1) (drop (k + 1) cells) ≡ all
joined cells k n last front all lt e is =
    let c = get_or cells k no_cell in
    let y = get_or cells (k + 1) no_cell in
    let ys = drop (k + 1 + 1) cells in
    let behind : drop (k + 1) cells ≡ y ∷ ys = drop_at cells (k + 1) no_cell lt in
    let here : drop k cells ≡ c ∷ y ∷ ys = drop_at cells k no_cell (omega (arith, lt)) ∙ ap (λ l. c ∷ l) behind in
    let one : are_one_run c (is_half c (y ∷ ys)) y (is_half y ys) ≡ true =
    ap (λ l. are_one_run c (is_half c l) y (is_half y ys)) (sym behind) ∙ e in
    ap (λ l. front ++ runs_with last (n + 1) l) behind
    ∙ ap (λ r. front ++ r) (sym (run_grows last n c y ys one))
    ∙ ap (λ l. front ++ runs_with last n l) (sym here)
    ∙ is

pub ended : (cells : List Shown) (k n : ℕ) (last : Option ℕ) (front : List Run) (all : List Run) → k + 1 < length cells
    → are_one_run (get_or cells k no_cell) (half_at cells k) (get_or cells (k + 1) no_cell) (half_at cells (k + 1)) ≡ false
    → front ++ runs_with last n (drop k cells) ≡ all
    → (front ++ run_of last (get_or cells k no_cell) n ∷ []) ++ runs_with (Some (get_or cells k no_cell).id) 1 (drop (k + 1) cells) ≡ all
ended cells k n last front all lt e is =
    let c = get_or cells k no_cell in
    let y = get_or cells (k + 1) no_cell in
    let ys = drop (k + 1 + 1) cells in
    let behind : drop (k + 1) cells ≡ y ∷ ys = drop_at cells (k + 1) no_cell lt in
    let here : drop k cells ≡ c ∷ drop (k + 1) cells = drop_at cells k no_cell (omega (arith, lt)) in
    let apart : are_one_run c (is_half c (y ∷ ys)) y (is_half y ys) ≡ false =
    ap (λ l. are_one_run c (is_half c l) y (is_half y ys)) (sym behind) ∙ e in
    let step : runs_with last n (c ∷ y ∷ ys) ≡ run_of last c n ∷ runs_with (Some c.id) 1 (y ∷ ys) =
    ap (λ b. cond b (runs_from last c (is_half c (y ∷ ys)) (n + 1) ys) (run_of last c n ∷ runs_from (Some c.id) y (is_half y ys) 1 ys)) apart in
    append_assoc front (run_of last c n ∷ []) (runs_with (Some c.id) 1 (drop (k + 1) cells))
    ∙ ap (λ l. front ++ run_of last c n ∷ runs_with (Some c.id) 1 l) behind
    ∙ ap (λ r. front ++ r) (sym step)
    ∙ ap (λ l. front ++ runs_with last n (c ∷ l)) (sym behind)
    ∙ ap (λ l. front ++ runs_with last n l) (sym here)
    ∙ is

pub ended_last : (cells : List Shown) (k n : ℕ) (last : Option ℕ) (front : List Run) (all : List Run) → k + 1 ≡ length cells
    → front ++ runs_with last n (drop k cells) ≡ all
    → (front ++ run_of last (get_or cells k no_cell) n ∷ []) ++ runs_with (Some (get_or cells k no_cell).id) 1 (drop (k + 1) cells) ≡ all
ended_last cells k n last front all end is =
    let c = get_or cells k no_cell in
    let here : drop k cells ≡ c ∷ drop (k + 1) cells = drop_at cells k no_cell (omega (arith, end)) in
    let none : drop (k + 1) cells ≡ [] = ap (λ j. drop j cells) end ∙ drop_all cells in
    append_assoc front (run_of last c n ∷ []) (runs_with (Some c.id) 1 (drop (k + 1) cells))
    ∙ ap (λ l. front ++ run_of last c n ∷ runs_with (Some c.id) 1 l) none
    ∙ ap (λ l. front ++ runs_with last n (c ∷ l)) (sym none)
    ∙ ap (λ l. front ++ runs_with last n l) (sym here)
    ∙ is
  where
    drop_all : (xs : List Shown) → drop (length xs) xs ≡ []
    drop_all [] = refl
    drop_all (x ∷ xs) = drop_all xs

-- the same, by what the code asks
pub cell_joins : (cells : List Shown) (k n : ℕ) (last : Option ℕ) (front : List Run) → joins_at cells k ≡ true
    → front ++ runs_with last (n + 1) (drop (k + 1) cells) ≡ front ++ runs_with last n (drop k cells)
cell_joins cells k n last front e =
    let p = and_parts (ltb (k + 1) (length cells)) _ e in
    joined cells k n last front _ (less (k + 1) (length cells) p.0) p.1 refl
  where
    less : (a b : ℕ) → ltb a b ≡ true → a < b
    less a b h = grind (arith, nat_tests)

pub cell_ends : (cells : List Shown) (k n : ℕ) (last : Option ℕ) (front after : List Run) (cell : Shown) (run : Run) → k < length cells
    → cell ≡ get_or cells k cell → run ≡ run_of last cell n → after ≡ front ++ run ∷ [] → joins_at cells k ≡ false
    → after ++ runs_with (Some cell.id) 1 (drop (k + 1) cells) ≡ front ++ runs_with last n (drop k cells)
cell_ends cells k n last front after cell run lt is run_is put e =
    let same : cell ≡ get_or cells k no_cell = is ∙ get_or-any cells k cell no_cell lt in
    (λ i. put i ++ runs_with (Some cell.id) 1 (drop (k + 1) cells))
    ∙ (λ i. (front ++ run_is i ∷ []) ++ runs_with (Some cell.id) 1 (drop (k + 1) cells))
    ∙ (λ i. (front ++ run_of last (same i) n ∷ []) ++ runs_with (Some (same i).id) 1 (drop (k + 1) cells))
    ∙ by (ltb (k + 1) (length cells)) refl e
  where
    get_or-any : (xs : List Shown) (j : ℕ) (d f : Shown) → j < length xs → get_or xs j d ≡ get_or xs j f
    get_or-any [] j d f below = absurd (omega (arith, below))
    get_or-any (x ∷ xs) zero d f below = refl
    get_or-any (x ∷ xs) (suc j) d f below = get_or-any xs j d f (omega (arith, below))

    less : (a b : ℕ) → ltb a b ≡ true → a < b
    less a b h = grind (arith, nat_tests)

    last_one : (a b : ℕ) → a < b → ltb (a + 1) b ≡ false → a + 1 ≡ b
    last_one a b below h = grind (arith, nat_tests)

    by : (b : Bool) → ltb (k + 1) (length cells) ≡ b
        → (b && are_one_run (get_or cells k no_cell) (half_at cells k) (get_or cells (k + 1) no_cell) (half_at cells (k + 1))) ≡ false
        → (front ++ run_of last (get_or cells k no_cell) n ∷ []) ++ runs_with (Some (get_or cells k no_cell).id) 1 (drop (k + 1) cells)
        ≡ front ++ runs_with last n (drop k cells)
    by true t h = ended cells k n last front _ (less (k + 1) (length cells) t) h refl
    by false t h = ended_last cells k n last front _ (last_one k (length cells) lt t) refl
