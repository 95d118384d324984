-- inside: what an event makes of a client's rows, and whether they show a screen.
use Rattle.std.specs.Prelude.{ℕ, ◌≡◌, ◌<◌, ◌≤◌, ◌+◌, Bool, true, false, ◌&&◌, nat_le, if◌then◌else◌, List, [], ◌∷◌, ◌++◌, length, get_or, set, replicate, Option, Some, None}
use Rattle.std.specs.Str.{bytes_eq}
use Rattle.nv_hl.specs.declared.attribute.Attr.{Attr}
use Rattle.nv_hl.specs.declared.cell.Cell.{Cell}
use Rattle.nv_hl.specs.Attributes.{same_attr}
use Rattle.nv_linegrid.specs.declared.event.Run.{Run}
use Rattle.nv_linegrid.specs.Client.{Shown, ShownRows, attr_of_id, cells_before, cells_told, names_known_ids, row_with, fits_row}

-- the cells, where they are no more than this
abbrev pub within_room : ℕ → Option (List Shown) → Option (List Shown)
within_room room None = None
within_room room (Some cells) = if nat_le (length cells) room then Some cells else None

-- so many equal cells are put behind others, where they are no more than `room` then
abbrev pub CellsPut : ℕ → List Shown → List Shown → Shown → ℕ → Bool → Type 0
CellsPut room old new c n true = (new ≡ old ++ replicate n c) × (length new ≤ room)
CellsPut room old new c n false = room < length old + n

-- the cells of a run are put behind others, which gives the id told last; none where they don't fit
abbrev pub RunPut : ℕ → Option ℕ → List Shown → List Shown → Run → Option ℕ → Type 0
RunPut room last old new run (Some id) =
    ((runs : List Run) → within_room room (cells_before new (cells_told (Some id) runs))
    ≡ within_room room (cells_before old (cells_told last (run ∷ runs)))) × (length new ≤ room)
RunPut room last old new run None =
    (runs : List Run) → within_room room (cells_before old (cells_told last (run ∷ runs))) ≡ None

-- rows with these cells in one of them, where they fit and their ids are known
abbrev pub rows_with_cells : Bool → ShownRows → ℕ → ℕ → Option (List Shown) → Option ShownRows
rows_with_cells known rows row col None = None
rows_with_cells known rows row col (Some cells) =
    if fits_row rows row col cells && known then
    Some (set rows row (row_with (get_or rows row []) col cells))
    else None

-- rows after a `grid_line`, by the attributes of ids
abbrev pub rows_with_line : List (ℕ × Attr) → ShownRows → ℕ → ℕ → List Run → Option ShownRows
rows_with_line table rows row col runs =
    rows_with_cells (names_known_ids table runs) rows row col (cells_told None runs)

-- those rows, and else the old ones
abbrev pub rows_left : ShownRows → Option ShownRows → ShownRows
rows_left old None = old
rows_left old (Some new) = new

-- whether a cell is seen as this one
abbrev pub is_text_in : Option Attr → List ℕ → Cell → Bool
is_text_in None text cell = false
is_text_in (Some attr) text cell = same_attr attr cell.attr && bytes_eq text cell.text

abbrev pub cell_shows : List (ℕ × Attr) → Option Shown → Cell → Bool
cell_shows table None cell = false
cell_shows table (Some s) cell = is_text_in (attr_of_id table s.id) s.text cell

abbrev pub row_shows : List (ℕ × Attr) → List (Option Shown) → List Cell → Bool
row_shows table [] [] = true
row_shows table (s ∷ ss) (c ∷ cs) = cell_shows table s c && row_shows table ss cs
row_shows table _ _ = false

abbrev pub rows_show : List (ℕ × Attr) → ShownRows → List (List Cell) → Bool
rows_show table [] [] = true
rows_show table (r ∷ rs) (s ∷ ss) = row_shows table r s && rows_show table rs ss
rows_show table _ _ = false
