-- What is kept beside the chunks, so that rows and offsets are found.
use Rattle.std.specs.Prelude.{◌≡◌, ℕ, ◌≤◌, List, length, take, All}
use Rattle.nv_places.specs.Flat.{flat}
use Rattle.nv_lines.specs.Chunks.{chunk_lines, chunk_sizes, IsChunk, AreFull}
use Rattle.nv_lines.specs.Text.{IsText}
use Rattle.nv_lines.specs.declared.chunk.Chunk.{Chunk}
use Rattle.nv_lines.specs.declared.finding.Start.{Start}

-- how many rows stand before a chunk, chunks from 0
abbrev pub rows_before : List Chunk → ℕ → ℕ
rows_before cs n = length (chunk_lines (take n cs))

-- how many bytes of flat text stand before a chunk
abbrev pub bytes_before : List Chunk → ℕ → ℕ
bytes_before cs n = length (flat (chunk_lines (take n cs)))

-- it says truly how many rows and bytes stand before its chunk
pub record IsStart (cs : List Chunk) (s : Start) : Type 0 where
  pub within : s.chunk ≤ length cs
  pub row : s.row ≡ rows_before cs s.chunk
  pub offset : s.offset ≡ bytes_before cs s.chunk

-- chunks, and starts of some of them in any order
pub record IsTable (cs : List Chunk) (starts : List Start) : Type 0 where
  pub each : All IsChunk cs
  pub full : AreFull (chunk_sizes cs)
  pub begins : All (IsStart cs) starts

-- chunks of a text, starts of some of them, the number of rows and that of bytes
pub record IsStoredText (cs : List Chunk) (starts : List Start) (rows bytes : ℕ) : Type 0 where
  pub text : IsText (chunk_lines cs)
  pub table : IsTable cs starts
  pub count : rows ≡ length (chunk_lines cs)
  pub total : bytes ≡ length (flat (chunk_lines cs))
