-- inside: how rows are told one cell after another.
use Rattle.std.specs.Prelude.{ℕ, ◌+◌, Bool, ◌&&◌, nat_lt, List, [], ◌∷◌, drop, get_or, length, Option}
use Rattle.nv_linegrid.specs.declared.event.Run.{Run}
use Rattle.nv_linegrid.specs.Client.{Shown}
use Rattle.nv_linegrid.specs.Rows.{are_one_run, is_half, no_cell, runs_from}

-- inside: whether the cell at a place is half of a pair
abbrev pub half_at : List Shown → ℕ → Bool
half_at cells at = is_half (get_or cells at no_cell) (drop (at + 1) cells)

-- inside: whether the cell at a place and the one behind it are one run
abbrev pub joins_at : List Shown → ℕ → Bool
joins_at cells at =
    nat_lt (at + 1) (length cells)
    && are_one_run (get_or cells at no_cell) (half_at cells at) (get_or cells (at + 1) no_cell)
    (half_at cells (at + 1))

-- inside: the runs of cells, the first of which stands for n
abbrev pub runs_with : Option ℕ → ℕ → List Shown → List Run
runs_with last n [] = []
runs_with last n (c ∷ cs) = runs_from last c (is_half c cs) n cs
