use Rattle.std.proofs.Common.{◌≡◌, ℕ, ◌+◌, ◌-◌, ◌<◌, ◌≤◌, ◌∙◌, List, MatchOption, ap, arith, subst, sym, length}
use Rattle.std.proofs.lemmas.List.{length-take-le}
use Rattle.nv_places.specs.Flat.{flat, row_start}
use Rattle.nv_lines.specs.Chunks.{chunk_lines}
use Rattle.nv_lines.specs.declared.chunk.Chunk.{Chunk}
use Rattle.nv_lines.proofs.Chunks.{chunk_is}
use Rattle.nv_lines.proofs.Starts.{chunk_fits}
use Rattle.nv_lines.proofs.InChunk.{row_inside, offset_sum_fits, row_start_in_chunk, span_in_chunk}
use Rattle.nv_lines.proofs.reading.span_in.Goals as goal

pub slice_bounds-flat_len-end : goal.slice_bounds-flat_len-end
slice_bounds-flat_len-end c =
    let at = c.start_of_row-at in
    let chunk = c.index-chunks-at.result in
    let lines = c.as_slice-lines.ensures.value ∙ ap (λ (d : Chunk). d.lines) (sym c.index-chunks-at.is) in
    let inside =
    row_inside c.args.chunks.now at.result chunk c.args.from at.ensures.start at.ensures.chunk c.index-chunks-at.is at.ensures.ends
    at.ensures.begins in
    sym (length-take-le (c.args.from - at.result.row) c.as_slice-lines.result.now (omega (arith, ap length lines)))

pub flat_len-requires : goal.flat_len-requires
flat_len-requires c =
    let at = c.start_of_row-at in
    let chunk = c.index-chunks-at.result in
    let lines = c.as_slice-lines.ensures.value ∙ ap (λ (d : Chunk). d.lines) (sym c.index-chunks-at.is) in
    let inside =
    row_inside c.args.chunks.now at.result chunk c.args.from at.ensures.start at.ensures.chunk c.index-chunks-at.is at.ensures.ends
    at.ensures.begins in
    omega (
      arith,
      ap (λ l. row_start l (c.args.from - at.result.row)) lines,
      offset_sum_fits c.args.chunks.now at.result chunk (c.args.from - at.result.row) at.ensures.start at.ensures.chunk c.index-chunks-at.is
          (omega arith),
      c.requires.small,
    )

pub overflow_add-start : goal.overflow_add-start
overflow_add-start c =
    let at = c.start_of_row-at in
    let chunk = c.index-chunks-at.result in
    let lines = c.as_slice-lines.ensures.value ∙ ap (λ (d : Chunk). d.lines) (sym c.index-chunks-at.is) in
    let inside =
    row_inside c.args.chunks.now at.result chunk c.args.from at.ensures.start at.ensures.chunk c.index-chunks-at.is at.ensures.ends
    at.ensures.begins in
    omega (
      arith,
      c.flat_len.ensures,
      ap (λ l. row_start l (c.args.from - at.result.row)) lines,
      offset_sum_fits c.args.chunks.now at.result chunk (c.args.from - at.result.row) at.ensures.start at.ensures.chunk c.index-chunks-at.is
          (omega arith),
      c.requires.small,
    )

pub returns-clause-start : goal.returns-clause-start
returns-clause-start c =
    let at = c.start_of_row-at in
    let chunk = c.index-chunks-at.result in
    let lines = c.as_slice-lines.ensures.value ∙ ap (λ (d : Chunk). d.lines) (sym c.index-chunks-at.is) in
    let inside =
    row_inside c.args.chunks.now at.result chunk c.args.from at.ensures.start at.ensures.chunk c.index-chunks-at.is at.ensures.ends
    at.ensures.begins in
    let place : at.result.row + (c.args.from - at.result.row) ≡ c.args.from = omega (arith, at.ensures.begins) in
    omega (
      arith,
      c.flat_len.ensures,
      ap (λ l. row_start l (c.args.from - at.result.row)) lines,
      row_start_in_chunk c.args.chunks.now at.result chunk (c.args.from - at.result.row) at.ensures.start at.ensures.chunk c.index-chunks-at.is
          (omega arith),
      ap (row_start (chunk_lines c.args.chunks.now)) place,
    )

pub returns-clause-len : goal.returns-clause-len
returns-clause-len c =
    let at = c.start_of_row-at in
    let chunk = c.index-chunks-at.result in
    let lines = c.as_slice-lines.ensures.value ∙ ap (λ (d : Chunk). d.lines) (sym c.index-chunks-at.is) in
    span_in_chunk c.args.chunks.now at.result chunk c.args.from c.args.to c.flat_len_within-len.result at.ensures.start at.ensures.chunk c.index-chunks-at.is
    at.ensures.begins c.requires.order
    (subst (λ (ls : List (List ℕ)). MatchOption c.flat_len_within-len.result (length ls < c.args.to - at.result.row)
    (λ n. (c.args.to - at.result.row ≤ length ls) × (row_start ls (c.args.from - at.result.row) + n ≡ row_start ls (c.args.to - at.result.row))))
    lines c.flat_len_within-len.ensures)

pub flat_len_within-len-requires-clause-small : goal.flat_len_within-len-requires-clause-small
flat_len_within-len-requires-clause-small c =
    let at = c.start_of_row-at in
    let chunk = c.index-chunks-at.result in
    let lines = c.as_slice-lines.ensures.value ∙ ap (λ (d : Chunk). d.lines) (sym c.index-chunks-at.is) in
    omega (
      arith,
      ap (λ l. length (flat l)) lines,
      (chunk_fits c.args.chunks.now at.result chunk c.requires.each at.ensures.start at.ensures.chunk c.index-chunks-at.is).1,
      (chunk_is c.args.chunks.now at.result.chunk chunk c.requires.each at.ensures.chunk c.index-chunks-at.is).bytes,
      c.requires.small,
    )
