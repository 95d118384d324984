use Rattle.std.proofs.Common.{◌∙◌, ◌-◌, ap, sym, slice_get, []}
use Rattle.std.proofs.lemmas.Option.{slice_get-get_or}
use Rattle.nv_lines.specs.declared.chunk.Chunk.{Chunk}
use Rattle.nv_lines.proofs.InChunk.{line_in_chunk, row_inside, some_copied}
use Rattle.nv_lines.proofs.reading.line_in.Goals as goal

pub returns-clause-line : goal.returns-clause-line
returns-clause-line c =
    let at = c.start_of_row-at in
    let inside = row_inside c.args.chunks.now at.result c.index-chunks-at.result c.args.row at.ensures.start at.ensures.chunk c.index-chunks-at.is
    at.ensures.ends at.ensures.begins in
    c.get.ensures
    ∙ ap (λ (d : Chunk). slice_get d.lines (c.args.row - at.result.row)) (sym c.index-chunks-at.is)
    ∙ line_in_chunk c.args.chunks.now at.result c.index-chunks-at.result c.args.row at.ensures.start at.ensures.chunk c.index-chunks-at.is
    at.ensures.begins inside

pub returns-clause-some : goal.returns-clause-some
returns-clause-some c =
    let at = c.start_of_row-at in
    let inside = row_inside c.args.chunks.now at.result c.index-chunks-at.result c.args.row at.ensures.start at.ensures.chunk c.index-chunks-at.is
    at.ensures.ends at.ensures.begins in
    some_copied c.get.result _ (
    c.get.ensures
    ∙ ap (λ (d : Chunk). slice_get d.lines (c.args.row - at.result.row)) (sym c.index-chunks-at.is)
    ∙ slice_get-get_or c.index-chunks-at.result.lines (c.args.row - at.result.row) [] inside)
