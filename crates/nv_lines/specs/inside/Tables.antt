-- Chunks whose lines were taken out, and the tables that these stand in.
use Rattle.std.specs.Prelude.{◌≡◌, ℕ, ◌≤◌, List, [], ◌∷◌, ◌++◌, length, map, take, drop, Vec}
use Rattle.std.specs.Global.{Global}
use Rattle.nv_lines.specs.declared.chunk.Chunk.{Chunk}

-- the lines of tables, one table after another
abbrev pub table_lines : List (Vec (List ℕ) Global) → List (List ℕ)
table_lines [] = []
table_lines (t ∷ ts) = t.items ++ table_lines ts

-- a chunk without its lines, and with those of a table
abbrev pub emptied : Chunk → Chunk
emptied c = record c { lines = [] }

abbrev pub refilled : Vec (List ℕ) Global → Chunk → Chunk
refilled t c = record c { lines = t.items }

-- of these chunks the first ones have lost their lines to tables, one for each
pub record AreTakenOut (tables : List (Vec (List ℕ) Global)) (all left : List Chunk) : Type 0 where
  pub within : length tables ≤ length all
  pub chunks : left ≡ map emptied (take (length tables) all) ++ drop (length tables) all
  pub lines : map (λ t. t.items) tables ≡ map (λ c. c.lines) (take (length tables) all)
