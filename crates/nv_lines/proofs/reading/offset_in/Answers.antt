use Rattle.std.proofs.Common.{◌≡◌, ◌+◌, ◌-◌, ◌∙◌, ap, arith, sym, length}
use Rattle.std.proofs.lemmas.List.{length-take-le}
use Rattle.nv_places.specs.Flat.{row_start}
use Rattle.nv_lines.specs.Chunks.{chunk_lines}
use Rattle.nv_lines.specs.declared.chunk.Chunk.{Chunk}
use Rattle.nv_lines.proofs.InChunk.{row_inside, offset_sum_fits, row_start_in_chunk}
use Rattle.nv_lines.proofs.reading.offset_in.Goals as goal

pub slice_bounds-flat_len-length : goal.slice_bounds-flat_len-length
slice_bounds-flat_len-length c =
    let at = c.start_of_row-at in
    let chunk = c.index-chunks-at.result in
    let lines = c.as_slice-lines.ensures.value ∙ ap (λ (d : Chunk). d.lines) (sym c.index-chunks-at.is) in
    let inside =
    row_inside c.args.chunks.now at.result chunk c.args.row at.ensures.start at.ensures.chunk c.index-chunks-at.is at.ensures.ends
    at.ensures.begins in
    sym (length-take-le (c.args.row - at.result.row) c.as_slice-lines.result.now (omega (arith, ap length lines)))

pub flat_len-requires : goal.flat_len-requires
flat_len-requires c =
    let at = c.start_of_row-at in
    let chunk = c.index-chunks-at.result in
    let lines = c.as_slice-lines.ensures.value ∙ ap (λ (d : Chunk). d.lines) (sym c.index-chunks-at.is) in
    let inside =
    row_inside c.args.chunks.now at.result chunk c.args.row at.ensures.start at.ensures.chunk c.index-chunks-at.is at.ensures.ends
    at.ensures.begins in
    omega (
      arith,
      ap (λ l. row_start l (c.args.row - at.result.row)) lines,
      offset_sum_fits c.args.chunks.now at.result chunk (c.args.row - at.result.row) at.ensures.start at.ensures.chunk c.index-chunks-at.is
          (omega arith),
      c.requires.small,
    )

pub overflow_add-result : goal.overflow_add-result
overflow_add-result c =
    let at = c.start_of_row-at in
    let chunk = c.index-chunks-at.result in
    let lines = c.as_slice-lines.ensures.value ∙ ap (λ (d : Chunk). d.lines) (sym c.index-chunks-at.is) in
    let inside =
    row_inside c.args.chunks.now at.result chunk c.args.row at.ensures.start at.ensures.chunk c.index-chunks-at.is at.ensures.ends
    at.ensures.begins in
    omega (
      arith,
      c.flat_len.ensures,
      ap (λ l. row_start l (c.args.row - at.result.row)) lines,
      offset_sum_fits c.args.chunks.now at.result chunk (c.args.row - at.result.row) at.ensures.start at.ensures.chunk c.index-chunks-at.is
          (omega arith),
      c.requires.small,
    )

pub returns : goal.returns
returns c =
    let at = c.start_of_row-at in
    let chunk = c.index-chunks-at.result in
    let lines = c.as_slice-lines.ensures.value ∙ ap (λ (d : Chunk). d.lines) (sym c.index-chunks-at.is) in
    let inside =
    row_inside c.args.chunks.now at.result chunk c.args.row at.ensures.start at.ensures.chunk c.index-chunks-at.is at.ensures.ends
    at.ensures.begins in
    let place : at.result.row + (c.args.row - at.result.row) ≡ c.args.row = omega (arith, at.ensures.begins) in
    omega (
      arith,
      c.flat_len.ensures,
      ap (λ l. row_start l (c.args.row - at.result.row)) lines,
      row_start_in_chunk c.args.chunks.now at.result chunk (c.args.row - at.result.row) at.ensures.start at.ensures.chunk c.index-chunks-at.is
          (omega arith),
      ap (row_start (chunk_lines c.args.chunks.now)) place,
    )
