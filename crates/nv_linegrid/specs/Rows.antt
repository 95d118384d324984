-- Which cells of a row are due, and how they are told (help: ui-event-grid_line).
use Rattle.std.specs.Prelude.{ℕ, zero, suc, ◌+◌, ◌-◌, pos, Bool, not, ◌&&◌, ◌||◌, ◌==◌, nat_lt, if◌then◌else◌, List, [], ◌∷◌, ◌++◌, length, take, drop, get_or, bytes_eq, Option, Some, None}
use Rattle.nv_linegrid.specs.declared.event.Run.{Run}
use Rattle.nv_linegrid.specs.declared.event.Run.TheVariants.{Same, One, Times}
use Rattle.nv_linegrid.specs.declared.event.Redraw.{Redraw}
use Rattle.nv_linegrid.specs.declared.event.Redraw.TheVariants.{LineOf}
use Rattle.nv_linegrid.specs.Client.{Shown, shown_of, ShownRows}

-- ---- runs

-- the right half of a pair has the empty text
abbrev pub is_right_shown : Shown → Bool
is_right_shown c = length c.text == 0

abbrev pub starts_with_right : List Shown → Bool
starts_with_right [] = Bool.false
starts_with_right (c ∷ cs) = is_right_shown c

-- whether a cell is half of a pair, by itself and by what stands behind it
abbrev pub is_half : Shown → List Shown → Bool
is_half c behind = is_right_shown c || starts_with_right behind

abbrev pub same_shown : Shown → Shown → Bool
same_shown a b = (a.id == b.id) && bytes_eq a.text b.text

-- equal cells are one run, but halves of pairs
abbrev pub are_one_run : Shown → Bool → Shown → Bool → Bool
are_one_run a a_is_half b b_is_half = same_shown a b && not a_is_half && not b_is_half

abbrev pub is_last_id : Option ℕ → ℕ → Bool
is_last_id None id = Bool.false
is_last_id (Some last) id = last == id

-- n equal cells, where `last` is the id told last
abbrev pub run_of : Option ℕ → Shown → ℕ → Run
run_of last c n =
    if nat_lt 1 n then Times c.text c.id n
    else if is_last_id last c.id then Same c.text
    else One c.text c.id

-- the runs of n cells like `c`, and of what stands behind them
abbrev pub runs_from : Option ℕ → Shown → Bool → ℕ → List Shown → List Run
runs_from last c half n [] = run_of last c n ∷ []
runs_from last c half n (y ∷ ys) =
    if are_one_run c half y (is_half y ys) then runs_from last c half (n + 1) ys
    else run_of last c n ∷ runs_from (Some c.id) y (is_half y ys) 1 ys

-- the fewest runs that tell these cells from left to right
abbrev pub runs_of : List Shown → List Run
runs_of [] = []
runs_of (c ∷ cs) = runs_from None c (is_half c cs) 1 cs

-- ---- due cells

abbrev pub no_cell : Shown
no_cell = shown_of [] 0

-- an unknown cell shows nothing
abbrev pub shows_cell : Option Shown → Shown → Bool
shows_cell None c = Bool.false
shows_cell (Some s) c = same_shown s c

abbrev pub differs_at : List (Option Shown) → List Shown → ℕ → Bool
differs_at old new i =
    nat_lt i (length new) && not (shows_cell (get_or old i None) (get_or new i no_cell))

abbrev pub is_right_at : List Shown → ℕ → Bool
is_right_at new i = nat_lt i (length new) && is_right_shown (get_or new i no_cell)

-- a cell is due where it differs from what is shown, and where the other half of its pair does (own
-- rule)
unfoldable pub is_due : List (Option Shown) → List Shown → ℕ → Bool
is_due old new i =
    differs_at old new i
    || (is_right_at new i && nat_lt 0 i && differs_at old new (i - 1))
    || (is_right_at new (i + 1) && differs_at old new (i + 1))

-- the first due cell of n cells from i on, or the end
abbrev pub first_due : List (Option Shown) → List Shown → ℕ → ℕ → ℕ
first_due old new zero i = i
first_due old new (suc n) i = if is_due old new i then i else first_due old new n (i + 1)

-- the end of the last due cell among the first n
abbrev pub end_due : List (Option Shown) → List Shown → ℕ → ℕ
end_due old new zero = zero
end_due old new (suc n) = if is_due old new n then suc n else end_due old new n

-- the cells from one column to before another, where there are some
abbrev pub line_between : ℕ → List Shown → ℕ → ℕ → List Redraw
line_between row new first end =
    if nat_lt first end then LineOf (pos 1) row first
    (runs_of (take (end - first) (drop first new))) ∷ []
    else []

-- a row from its first due cell to its last
abbrev pub line_of_row : ℕ → List (Option Shown) → List Shown → List Redraw
line_of_row row old new =
    line_between row new (first_due old new (length new) 0) (end_due old new (length new))

-- the rows from a number on, in order
abbrev pub lines_of_rows : ℕ → ShownRows → List (List Shown) → List Redraw
lines_of_rows row [] news = []
lines_of_rows row olds [] = []
lines_of_rows row (old ∷ olds) (new ∷ news) =
    line_of_row row old new ++ lines_of_rows (row + 1) olds news
