-- The chunks that the lines of a buffer stand in (own rules).
use Rattle.std.specs.Prelude.{◌≡◌, ℕ, ◌+◌, ◌<◌, ◌≤◌, List, [], ◌∷◌, ◌++◌, length, map}
use Rattle.nv_places.specs.Flat.{flat}
use Rattle.nv_lines.specs.declared.chunk.Chunk.{Chunk}

-- the lines of all chunks, one chunk after another
abbrev pub chunk_lines : List Chunk → List (List ℕ)
chunk_lines [] = []
chunk_lines (c ∷ cs) = c.lines ++ chunk_lines cs

-- how many lines each chunk has
abbrev pub chunk_sizes : List Chunk → List ℕ
chunk_sizes cs = map (λ c. length c.lines) cs

-- a chunk: 1 to 64 lines, and the number of bytes of their flat text
pub record IsChunk (c : Chunk) : Type 0 where
  pub some : 0 < length c.lines
  pub most : length c.lines ≤ 64
  pub bytes : c.bytes ≡ length (flat c.lines)

-- this many lines, and those of the chunk behind them where there is one, are more than 64
abbrev pub IsFullWith : ℕ → List ℕ → Type 0
IsFullWith size [] = Unit {0}
IsFullWith size (next ∷ sizes_behind) = 64 < size + next

-- any two neighbours have more than 64 lines together
abbrev pub AreFull : List ℕ → Type 0
AreFull [] = Unit {0}
AreFull (size ∷ sizes_behind) = IsFullWith size sizes_behind × AreFull sizes_behind
