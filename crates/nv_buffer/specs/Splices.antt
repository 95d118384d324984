-- Lines that a splice puts into a text.
use Rattle.std.specs.Prelude.{ℕ, ◌^◌, ◌<◌, ◌≤◌, List, [], ◌∷◌, ◌++◌, length, take, drop, All}
use Rattle.nv_places.specs.Flat.{IsLine, line_at}
use Rattle.nv_places.specs.declared.place.Pos.{Pos}

-- a place in a line of the text: in one of its rows, up to the end of the line (help:
-- nvim_buf_set_text())
pub record IsInLine (lines : List (List ℕ)) (p : Pos) : Type 0 where
  pub row : p.row < length lines
  pub col : p.col ≤ length (line_at lines p.row)

-- bytes put before the first line
abbrev pub with_front : List ℕ → List (List ℕ) → List (List ℕ)
with_front front [] = front ∷ []
with_front front (line ∷ lines) = (front ++ line) ∷ lines

-- bytes put behind the last line
abbrev pub with_back : List (List ℕ) → List ℕ → List (List ℕ)
with_back [] back = back ∷ []
with_back (line ∷ []) back = (line ++ back) ∷ []
with_back (line ∷ next ∷ lines) back = line ∷ with_back (next ∷ lines) back

-- lines put between two places: the front of the one's row joins the first, the rest of the other's
-- row the last
abbrev pub lines_between : List (List ℕ) → Pos → Pos → List (List ℕ) → List (List ℕ)
lines_between text start stop new =
    with_back (with_front (take start.col (line_at text start.row)) new)
    (drop stop.col (line_at text stop.row))

-- a column in this line is a number of 32 bits (own rule)
abbrev pub IsNarrowLine : List ℕ → Type 0
IsNarrowLine line = length line < 2 ^ 32

-- rows and columns of this text are numbers of 32 bits (own rule)
pub record IsNarrowText (lines : List (List ℕ)) : Type 0 where
  pub count : length lines < 2 ^ 32
  pub columns : All IsNarrowLine lines

-- a text of a buffer: a line at least, rows and columns of 32 bits, and each line is one
pub record IsBufferText (text : List (List ℕ)) : Type 0 where
  pub some : 0 < length text
  pub narrow : IsNarrowText text
  pub lines : All IsLine text
