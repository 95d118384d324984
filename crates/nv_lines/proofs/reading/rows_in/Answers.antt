use Rattle.std.proofs.Common.{◌-◌, ◌∙◌, ◌++◌, List, ap, sym, length, take, drop, slice_range}
use Rattle.std.proofs.lemmas.List.{take_rest}
use Rattle.nv_lines.specs.Chunks.{chunk_lines}
use Rattle.nv_lines.specs.declared.chunk.Chunk.{Chunk}
use Rattle.nv_lines.proofs.Parts.{part_from}
use Rattle.nv_lines.proofs.reading.rows_in.Goals as goal

pub returns : goal.returns
returns c =
    let at = c.start_of_row-at in
    let cs = c.args.chunks.now in
    let from = c.args.from - at.result.row in
    let to = c.args.to - at.result.row in
    c.from_vec.ensures
    ∙ c.in_ok-add_rows.ensures
    ∙ ap (λ l. l ++ slice_range (chunk_lines (take (length cs - at.result.chunk) (drop at.result.chunk cs))) from to) c.in_ok-rows.ensures.items
    ∙ ap (λ (l : List Chunk). slice_range (chunk_lines l) from to) (take_rest cs at.result.chunk)
    ∙ sym (part_from cs at.result.chunk at.result.row c.args.from c.args.to at.ensures.start.row at.ensures.begins)
