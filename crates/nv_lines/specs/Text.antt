-- The text of a buffer as a list of lines.
use Rattle.std.specs.Prelude.{ℕ, ◌+◌, ◌^◌, ◌<◌, ◌≤◌, List, length, All}
use Rattle.nv_places.specs.Flat.{flat, IsLine, row_start}

-- A text of a buffer: one line at least (help: api-buffer, a buffer always has a line), and flat
-- text of fewer than 2^64 bytes (own rule).
pub record IsText (lines : List (List ℕ)) : Type 0 where
  pub some : 0 < length lines
  pub each : All IsLine lines
  pub small : length (flat lines) < 2 ^ 64

-- An offset of the flat text lies in this row, its line end with it; the end of the text lies in
-- the row after the last (own rule).
pub record IsRowAt (lines : List (List ℕ)) (offset row : ℕ) : Type 0 where
  pub within : row ≤ length lines
  pub begins : row_start lines row ≤ offset
  pub ends : row < length lines → offset < row_start lines (row + 1)
