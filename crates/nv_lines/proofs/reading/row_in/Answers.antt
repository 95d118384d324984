use Rattle.std.proofs.Common.{◌-◌, ◌∙◌, List, ℕ, ap, arith, sym, subst, length}
use Rattle.nv_places.specs.Flat.{flat}
use Rattle.nv_lines.specs.Text.{IsRowAt}
use Rattle.nv_lines.specs.declared.chunk.Chunk.{Chunk}
use Rattle.nv_lines.proofs.Chunks.{chunk_is}
use Rattle.nv_lines.proofs.Starts.{chunk_fits}
use Rattle.nv_lines.proofs.InChunk.{offset_inside, row_in_chunk, row_sum_fits}
use Rattle.nv_lines.proofs.reading.row_in.Goals as goal

pub row_at-requires-clause-small : goal.row_at-requires-clause-small
row_at-requires-clause-small c =
    let at = c.start_of_offset-at in
    let chunk = c.index-chunks-at.result in
    let lines = c.as_slice.ensures.value ∙ ap (λ (d : Chunk). d.lines) (sym c.index-chunks-at.is) in
    omega (
      arith,
      ap (λ l. length (flat l)) lines,
      (chunk_fits c.args.chunks.now at.result chunk c.requires.each at.ensures.start at.ensures.chunk c.index-chunks-at.is).1,
      (chunk_is c.args.chunks.now at.result.chunk chunk c.requires.each at.ensures.chunk c.index-chunks-at.is).bytes,
      c.requires.small,
    )

pub row_at-requires-clause-within : goal.row_at-requires-clause-within
row_at-requires-clause-within c =
    let at = c.start_of_offset-at in
    let chunk = c.index-chunks-at.result in
    let lines = c.as_slice.ensures.value ∙ ap (λ (d : Chunk). d.lines) (sym c.index-chunks-at.is) in
    omega (
      arith,
      ap (λ l. length (flat l)) lines,
      offset_inside c.args.chunks.now at.result chunk c.args.offset at.ensures.start at.ensures.chunk c.index-chunks-at.is at.ensures.ends
          at.ensures.begins,
    )

pub overflow_add-result : goal.overflow_add-result
overflow_add-result c =
    let at = c.start_of_offset-at in
    let chunk = c.index-chunks-at.result in
    let lines = c.as_slice.ensures.value ∙ ap (λ (d : Chunk). d.lines) (sym c.index-chunks-at.is) in
    omega (
      arith,
      row_sum_fits c.args.chunks.now at.result chunk c.row_at.result at.ensures.start at.ensures.chunk c.index-chunks-at.is
          (omega (arith, c.row_at.ensures.within, ap length lines)),
      c.requires.small,
    )

pub returns : goal.returns
returns c =
    let at = c.start_of_offset-at in
    let chunk = c.index-chunks-at.result in
    let lines = c.as_slice.ensures.value ∙ ap (λ (d : Chunk). d.lines) (sym c.index-chunks-at.is) in
    let inside =
    offset_inside c.args.chunks.now at.result chunk c.args.offset at.ensures.start at.ensures.chunk c.index-chunks-at.is at.ensures.ends
    at.ensures.begins in
    row_in_chunk c.args.chunks.now at.result chunk c.args.offset c.row_at.result at.ensures.start at.ensures.chunk c.index-chunks-at.is
    at.ensures.begins inside (subst (λ (l : List (List ℕ)). IsRowAt l (c.args.offset - at.result.offset) c.row_at.result) lines c.row_at.ensures)
