-- Places in a flat text: a row and a column, and how far apart two places are.
use Rattle.std.specs.Prelude.{ℕ, ◌+◌, ◌^◌, ◌<◌, ◌≤◌, ◌==◌, suc, if◌then◌else◌, Bool, ◌&&◌, ◌||◌, nat_lt, List, [], ◌∷◌, length, take}
use Rattle.nv_places.specs.declared.place.Pos.{Pos}
use Rattle.nv_places.specs.declared.place.Extent.{Extent}
use Rattle.nv_places.specs.Flat.{row_start, line_at}

-- how many bytes 10 there are
abbrev pub row_count : List ℕ → ℕ
row_count [] = 0
row_count (b ∷ bs) = if b == 10 then suc (row_count bs) else row_count bs

-- how many bytes there are after the last byte 10, and all of them where there is none
abbrev pub col_count : List ℕ → ℕ
col_count [] = 0
col_count (b ∷ bs) = if row_count (b ∷ bs) == 0 then suc (length bs) else col_count bs

-- how far these bytes reach: rows, and columns in the last row
abbrev pub extent_of : List ℕ → Extent
extent_of bytes = record { rows = row_count bytes; cols = col_count bytes }

-- the place at the end of a text: row and column, both from 0 (help: api-indexing)
abbrev pub end_of : List ℕ → Pos
end_of text = record { row = row_count text; col = col_count text }

-- the place of an offset: its row and column are those of the bytes before it
abbrev pub place_of : List ℕ → ℕ → Pos
place_of text offset = end_of (take offset text)

-- the offset of a place: its row's start and its column
abbrev pub offset_of : List (List ℕ) → Pos → ℕ
offset_of lines p = row_start lines p.row + p.col

-- a place of a text: in one of its rows, up to the end of the line, or at the end of it all (help:
-- nvim_buf_set_extmark())
pub record IsPlaceIn (lines : List (List ℕ)) (p : Pos) : Type 0 where
  pub row : p.row ≤ length lines
  pub col : p.col ≤ length (line_at lines p.row)

-- the place that lies an extent after a place
abbrev pub further : Pos → Extent → Pos
further p e = if e.rows == 0 then record { row = p.row; col = p.col + e.cols }
    else record { row = p.row + e.rows; col = e.cols }

-- a place lies before another: in an earlier row, or earlier in the same row
abbrev pub is_before : Pos → Pos → Bool
is_before p q = nat_lt p.row q.row || (p.row == q.row && nat_lt p.col q.col)

-- row and column are numbers of 32 bits
abbrev pub IsNarrow : Pos → Type 0
IsNarrow p = (p.row < 2 ^ 32) × (p.col < 2 ^ 32)
