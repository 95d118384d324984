-- Which chunks an edit makes anew, and what comes in their place.
use Rattle.std.specs.Prelude.{◌≡◌, ℕ, ◌+◌, ◌-◌, ◌^◌, ◌<◌, ◌≤◌, if◌then◌else◌, nat_le, List, length, All, slice_range}
use Rattle.std.specs.List.{splice}
use Rattle.nv_lines.specs.Chunks.{chunk_lines, chunk_sizes, IsChunk, AreFull}
use Rattle.nv_lines.specs.inside.Starts.{rows_before, IsStart}
use Rattle.nv_lines.specs.declared.chunk.Chunk.{Chunk}
use Rattle.nv_lines.specs.declared.finding.Start.{Start}
use Rattle.nv_lines.specs.declared.starting.Shift.{Shift}

-- how many lines the first and the last chunk have at least where so many lines are cut into chunks
abbrev pub edge : ℕ → ℕ
edge n = if nat_le n 64 then n else 32

-- the rows that a region has once its rows `from` up to before `to` have become `new` rows
abbrev pub rows_after : Start → Start → ℕ → ℕ → ℕ → ℕ
rows_after first end from to new = end.row - first.row - (to - from) + new

-- these chunks hold the rows, and what they are cut into is full with the neighbours on both sides
pub record IsRegion (cs : List Chunk) (first end : Start) (from to new : ℕ) : Type 0 where
  pub begin : IsStart cs first
  pub stop : IsStart cs end
  pub some : first.chunk < end.chunk
  pub before : first.row ≤ from
  pub behind : to ≤ end.row
  pub left : 0 < first.chunk
      → 64 + rows_before cs (first.chunk - 1) < first.row + edge (rows_after first end from to new)
  pub right : end.chunk < length cs
      → 64 + end.row < rows_before cs (end.chunk + 1) + edge (rows_after first end from to new)

-- chunks that lines were cut into
pub record IsCutIntoChunks (lines : List (List ℕ)) (cs : List Chunk) : Type 0 where
  pub text : chunk_lines cs ≡ lines
  pub each : All IsChunk cs
  pub least : All (λ n. edge (length lines) ≤ n) (chunk_sizes cs)
  pub full : AreFull (chunk_sizes cs)

-- chunks after those of a region were cut anew, with new lines in place of rows of theirs
pub record IsCutAnew (old new : List Chunk) (first end : Start) (from to : ℕ)
    (lines : List (List ℕ)) : Type 0 where
  pub chunks : List Chunk
  pub is : new ≡ splice old first.chunk end.chunk chunks
  pub cut : IsCutIntoChunks (splice (chunk_lines (slice_range old first.chunk end.chunk))
      (from - first.row)
      (to - first.row) lines) chunks

-- what comes behind the changed chunk has the rows and bytes that it lost before it, and room for
-- what it gained
pub record CanShift (by : Shift) (s : Start) : Type 0 where
  pub rows_lost : by.chunk < s.chunk → by.rows_lost ≤ s.row
  pub rows_gained : by.chunk < s.chunk → s.row - by.rows_lost + by.rows_gained < 2 ^ 64
  pub bytes_lost : by.chunk < s.chunk → by.bytes_lost ≤ s.offset
  pub bytes_gained : by.chunk < s.chunk → s.offset - by.bytes_lost + by.bytes_gained < 2 ^ 64

-- a start after one chunk lost and gained rows and bytes
abbrev pub shifted_start : Shift → Start → Start
shifted_start by s =
    if nat_le s.chunk by.chunk then s
    else record {
      chunk = s.chunk;
      row = s.row - by.rows_lost + by.rows_gained;
      offset = s.offset - by.bytes_lost + by.bytes_gained;
    }
