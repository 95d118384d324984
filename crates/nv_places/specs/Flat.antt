-- The flat text of a buffer: what a list of lines means as one list of bytes.
use Rattle.std.specs.Prelude.{◌≢◌, ℕ, ◌==◌, if◌then◌else◌, List, [], ◌∷◌, ◌++◌, length, take, slice_index_or, All}

-- each line followed by the byte 10, one line after another (own rule: the last line has its byte
-- too)
abbrev pub flat : List (List ℕ) → List ℕ
flat [] = []
flat (line ∷ lines) = line ++ 10 ∷ flat lines

-- a line: bytes without the byte 10
abbrev pub IsLine : List ℕ → Type 0
IsLine bytes = All (λ b. b ≢ 10) bytes

-- the line of a row, rows from 0, and no bytes past the last one (help: api-indexing)
abbrev pub line_at : List (List ℕ) → ℕ → List ℕ
line_at lines row = slice_index_or lines row []

-- the offset at which a row begins: the length of the flat text of the lines before it
abbrev pub row_start : List (List ℕ) → ℕ → ℕ
row_start lines row = length (flat (take row lines))

-- the lines with a byte put before the first of them
abbrev pub with_byte : ℕ → List (List ℕ) → List (List ℕ)
with_byte b [] = (b ∷ []) ∷ []
with_byte b (line ∷ lines) = (b ∷ line) ∷ lines

-- the lines that a flat text is made of: each byte 10 ends one
abbrev pub lines_of : List ℕ → List (List ℕ)
lines_of [] = []
lines_of (b ∷ bs) = if b == 10 then [] ∷ lines_of bs else with_byte b (lines_of bs)
