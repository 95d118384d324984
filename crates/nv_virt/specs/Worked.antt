-- Worked examples: where virtual texts are, and what they show.
use Rattle.std.specs.Prelude.{◌≡◌, ℕ, List, [], ◌∷◌, ◌++◌, codes, map, None, Some}
use Rattle.nv_hl.specs.declared.cell.Cell.{Cell}
use Rattle.nv_hl.specs.Attributes.{empty_attr}
use Rattle.nv_hl.specs.Cells.{cell_of, right_half, space}
use Rattle.nv_notes.specs.declared.note.At.TheVariants.{Eol, Overlay, RightAlign}
use Rattle.nv_notes.specs.declared.note.Chunk.{Chunk}
use Rattle.nv_screen.specs.Drawing.{cells_up_to}
use Rattle.nv_virt.specs.Texts.{chunks_cells, place_by}

-- a letter, a Tab and a letter
abbrev pub tabbed : List ℕ
tabbed = 0x61 ∷ 0x09 ∷ 0x78 ∷ []

-- U+4E16, two cells wide
abbrev pub wide : List ℕ
wide = 0xE4 ∷ 0xB8 ∷ 0x96 ∷ []

-- behind `ab` in rows of twelve there is a free column, and another one behind each text, even if
-- that has no cell
abbrev pub EolIsAfterFreeColumn : Type 0
EolIsAfterFreeColumn =
    (place_by 12 8 (codes "ab") Eol 0 None 2 ≡ (0, 3))
    × (place_by 12 8 (codes "ab") Eol 0 (Some 3) 2 ≡ (0, 4))
    × (place_by 12 8 [] Eol 0 None 2 ≡ (0, 1))

-- a row that is full has no column for it
abbrev pub EolOfFullRowIsOutside : Type 0
EolOfFullRowIsOutside =
    (place_by 2 8 (codes "ab") Eol 0 None 2 ≡ (0, 3))
    × (place_by 2 8 (codes "abc") Eol 0 None 2 ≡ (1, 2))

-- over a line: at the Tab's first cell, at the letter behind it, and behind the last cell
abbrev pub OverlayIsAtByte : Type 0
OverlayIsAtByte =
    (place_by 12 8 tabbed Overlay 1 None 1 ≡ (0, 1))
    × (place_by 12 8 tabbed Overlay 2 None 1 ≡ (0, 8))
    × (place_by 12 8 tabbed Overlay 3 None 1 ≡ (0, 9))
    × (place_by 2 8 (codes "abc") Overlay 2 None 1 ≡ (1, 0))

-- at the right edge, or from the first column on if it is longer than the row
abbrev pub RightIsAtEdge : Type 0
RightIsAtEdge =
    (place_by 12 8 (codes "abc") RightAlign 0 None 2 ≡ (0, 10))
    × (place_by 2 8 (codes "abc") RightAlign 0 None 3 ≡ (0, 0))

-- two parts: a Tab counts in its own part alone, and a pair that is cut leaves a space
abbrev pub plain_chunk : List ℕ → Chunk
plain_chunk text = record { text = text; group = None }

abbrev pub cells_of_bytes : List ℕ → List Cell
cells_of_bytes bytes = map (λ byte. cell_of (byte ∷ []) empty_attr) bytes

abbrev pub PartsAreOneBehindAnother : Type 0
PartsAreOneBehindAnother =
    chunks_cells [] (plain_chunk (codes "abcdef") ∷ plain_chunk (0x61 ∷ 0x09 ∷ []) ∷ [])
    ≡ cells_of_bytes (codes "abcdefa       ")

abbrev pub CutPairIsSpace : Type 0
CutPairIsSpace =
    cells_up_to 2 (chunks_cells [] (plain_chunk (0x61 ∷ wide) ∷ []))
    ≡ cells_of_bytes (codes "a ")
