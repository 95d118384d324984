-- Worked examples: patches over a row of ten cells.
use Rattle.std.specs.Prelude.{◌≡◌, ℕ, List, [], ◌∷◌, ◌++◌, codes, map, replicate}
use Rattle.nv_hl.specs.declared.cell.Cell.{Cell}
use Rattle.nv_hl.specs.Attributes.{empty_attr}
use Rattle.nv_hl.specs.Cells.{cell_of, right_half, space}
use Rattle.nv_linedraw.specs.LineCells.{cells_in_one_row, cells_of_line, no_looks}
use Rattle.nv_screen.specs.Drawing.{cells_of_width, with_patch_cells}

-- cells without colours, each with a text, and spaces behind them up to ten
abbrev pub plain_cell : List ℕ → Cell
plain_cell text = cell_of text empty_attr

abbrev pub spaces_behind : ℕ → List Cell
spaces_behind n = replicate n (space empty_attr)

-- `Z` over the second letter of `ab`
abbrev pub LetterIsReplaced : Type 0
LetterIsReplaced =
    with_patch_cells ((plain_cell (0x61 ∷ []) ∷ plain_cell (0x62 ∷ []) ∷ spaces_behind 8) ∷ []) 0 1
    (plain_cell (0x5A ∷ []) ∷ [])
    ≡ (plain_cell (0x61 ∷ []) ∷ plain_cell (0x5A ∷ []) ∷ spaces_behind 8) ∷ []

-- `Z` over the right half of U+4E16
abbrev pub HalfLeavesSpace : Type 0
HalfLeavesSpace =
    with_patch_cells
    ((plain_cell (0xE4 ∷ 0xB8 ∷ 0x96 ∷ []) ∷ right_half empty_attr ∷ spaces_behind 8) ∷ []) 0 1
    (plain_cell (0x5A ∷ []) ∷ [])
    ≡ (space empty_attr ∷ plain_cell (0x5A ∷ []) ∷ spaces_behind 8) ∷ []

-- `Z` over its left half
abbrev pub OtherHalfLeavesSpace : Type 0
OtherHalfLeavesSpace =
    with_patch_cells
    ((plain_cell (0xE4 ∷ 0xB8 ∷ 0x96 ∷ []) ∷ right_half empty_attr ∷ spaces_behind 8) ∷ []) 0 0
    (plain_cell (0x5A ∷ []) ∷ [])
    ≡ (plain_cell (0x5A ∷ []) ∷ space empty_attr ∷ spaces_behind 8) ∷ []

-- a letter, a Tab, a letter, U+4E16, a letter with an accent and a byte that is no character, in
-- rows of ten: the wide character stands behind the filler on the second row
abbrev pub OddLineIsDrawn : Type 0
OddLineIsDrawn =
    cells_of_line 10 8
    (0x61 ∷ 0x09 ∷ 0x78 ∷ 0xE4 ∷ 0xB8 ∷ 0x96 ∷ 0x65 ∷ 0xCC ∷ 0x81 ∷ 0xFF ∷ []) [] no_looks
    ≡ plain_cell (0x61 ∷ []) ∷ spaces_behind 7 ++ plain_cell (0x78 ∷ []) ∷ plain_cell (0x3E ∷ [])
    ∷ plain_cell (0xE4 ∷ 0xB8 ∷ 0x96 ∷ []) ∷ right_half empty_attr
    ∷ plain_cell (0x65 ∷ 0xCC ∷ 0x81 ∷ []) ∷ plain_cell (0x3C ∷ []) ∷ plain_cell (0x66 ∷ [])
    ∷ plain_cell (0x66 ∷ []) ∷ plain_cell (0x3E ∷ []) ∷ spaces_behind 3

-- the status line of a window without a name, in twelve cells
abbrev pub NoNameIsDrawn : Type 0
NoNameIsDrawn =
    cells_of_width 12 empty_attr (cells_in_one_row 8 empty_attr (codes "[No Name]"))
    ≡ map (λ byte. plain_cell (byte ∷ [])) (codes "[No Name]   ")
