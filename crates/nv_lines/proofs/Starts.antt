-- Lemmas on starts of chunks.
use Rattle.std.proofs.Common.{◌≡◌, ◌+◌, ◌-◌, ◌<◌, ◌≤◌, List, length, get_or, ap, ◌∙◌, arith, All}
use Rattle.nv_places.specs.Flat.{flat}
use Rattle.nv_lines.specs.Chunks.{chunk_lines, IsChunk}
use Rattle.nv_lines.specs.inside.Starts.{rows_before, bytes_before, IsStart}
use Rattle.nv_lines.specs.declared.chunk.Chunk.{Chunk}
use Rattle.nv_lines.specs.declared.finding.Start.{Start}
use Rattle.nv_lines.proofs.Chunks.{rows_before-more, bytes_before-more, rows_before-le, bytes_before-le, rows_before-all, bytes_before-all, rows_before-order, bytes_before-order, length-flat-le, chunk_is}

-- the start behind a chunk that was looked at
pub start_behind : (cs : List Chunk) (s : Start) (c : Chunk) → All IsChunk cs → IsStart cs s → s.chunk < length cs → c ≡ get_or cs s.chunk c
    → IsStart cs (record { chunk = s.chunk + 1; row = s.row + length c.lines; offset = s.offset + c.bytes })
start_behind cs s c each is within looked = record {
  within = omega arith;
  row = omega (arith, is.row, rows_before-more cs s.chunk c within looked);
  offset = omega (arith, is.offset, bytes_before-more cs s.chunk c within looked, (chunk_is cs s.chunk c each within looked).bytes);
}

-- the start of a chunk in front that was looked at
pub start_in_front : (cs : List Chunk) (s : Start) (c : Chunk) → All IsChunk cs → IsStart cs s → 0 < s.chunk → c ≡ get_or cs (s.chunk - 1) c
    → IsStart cs (record { chunk = s.chunk - 1; row = s.row - length c.lines; offset = s.offset - c.bytes })
start_in_front cs s c each is some looked =
    let within : s.chunk - 1 < length cs = omega (arith, is.within) in
    let back : s.chunk - 1 + 1 ≡ s.chunk = omega arith in
    record {
      within = omega (arith, is.within);
      row = omega (arith, is.row, rows_before-more cs (s.chunk - 1) c within looked, ap (rows_before cs) back);
      offset =
          omega (
            arith,
            is.offset,
            bytes_before-more cs (s.chunk - 1) c within looked,
            ap (bytes_before cs) back,
            (chunk_is cs (s.chunk - 1) c each within looked).bytes,
          );
    }

-- a chunk in front has no more rows and bytes than stand before what is behind it
pub front_fits : (cs : List Chunk) (s : Start) (c : Chunk) → All IsChunk cs → IsStart cs s → 0 < s.chunk → c ≡ get_or cs (s.chunk - 1) c
    → (length c.lines ≤ s.row) × (c.bytes ≤ s.offset)
front_fits cs s c each is some looked =
    let within : s.chunk - 1 < length cs = omega (arith, is.within) in
    let back : s.chunk - 1 + 1 ≡ s.chunk = omega arith in (
      omega (arith, is.row, rows_before-more cs (s.chunk - 1) c within looked, ap (rows_before cs) back),
      omega (
        arith,
        is.offset,
        bytes_before-more cs (s.chunk - 1) c within looked,
        ap (bytes_before cs) back,
        (chunk_is cs (s.chunk - 1) c each within looked).bytes,
      ),
    )

-- a start and its chunk lie within the rows and bytes of the text
pub chunk_fits : (cs : List Chunk) (s : Start) (c : Chunk) → All IsChunk cs → IsStart cs s → s.chunk < length cs → c ≡ get_or cs s.chunk c
    → (s.row + length c.lines ≤ length (flat (chunk_lines cs))) × (s.offset + c.bytes ≤ length (flat (chunk_lines cs)))
chunk_fits cs s c each is within looked = (
  omega (arith, is.row, rows_before-more cs s.chunk c within looked, rows_before-le cs (s.chunk + 1), length-flat-le (chunk_lines cs)),
  omega (
    arith,
    is.offset,
    bytes_before-more cs s.chunk c within looked,
    bytes_before-le cs (s.chunk + 1),
    (chunk_is cs s.chunk c each within looked).bytes,
  ),
)

-- the start of the end of the text
pub start_of_end : (cs : List Chunk) (s : Start) → IsStart cs s → length cs ≤ s.chunk
    → (s.row ≡ length (chunk_lines cs)) × (s.offset ≡ length (flat (chunk_lines cs)))
start_of_end cs s is h = (is.row ∙ rows_before-all cs s.chunk h, is.offset ∙ bytes_before-all cs s.chunk h)

-- starts stand in the order of their chunks
pub starts_order : (cs : List Chunk) (s t : Start) → IsStart cs s → IsStart cs t → s.chunk ≤ t.chunk
    → (s.row ≤ t.row) × (s.offset ≤ t.offset)
starts_order cs s t is it h = (
  omega (arith, is.row, it.row, rows_before-order cs s.chunk t.chunk h),
  omega (arith, is.offset, it.offset, bytes_before-order cs s.chunk t.chunk h),
)

-- no start is past the rows of the text
pub start_within : (cs : List Chunk) (s : Start) → IsStart cs s
    → (s.row ≤ length (chunk_lines cs)) × (s.row ≤ length (flat (chunk_lines cs)))
start_within cs s is =
    (omega (arith, is.row, rows_before-le cs s.chunk), omega (arith, is.row, rows_before-le cs s.chunk, length-flat-le (chunk_lines cs)))
