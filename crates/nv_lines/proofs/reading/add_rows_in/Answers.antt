use Rattle.std.proofs.Common.{◌-◌, ◌∙◌, ◌++◌, List, ℕ, ap, sym, slice_range}
use Rattle.std.proofs.lemmas.List.{take_rest}
use Rattle.std.proofs.lemmas.Result.{on_ok_weaker}
use Rattle.nv_lines.specs.Chunks.{chunk_lines}
use Rattle.nv_lines.specs.declared.chunk.Chunk.{Chunk}
use Rattle.nv_lines.proofs.Parts.{part_from}
use Rattle.nv_lines.proofs.reading.add_rows_in.Goals as goal

pub returns : goal.returns
returns c =
    let at = c.start_of_row-at in
    let cs = c.args.chunks.now in
    let from = c.args.from - at.result.row in
    let to = c.args.to - at.result.row in
    on_ok_weaker c.add_lists.result
    (λ e. e
    ∙ ap (λ (l : List Chunk). c.args.excerpt.now ++ slice_range (chunk_lines l) from to) (take_rest cs at.result.chunk)
    ∙ ap (λ (l : List (List ℕ)). c.args.excerpt.now ++ l) (sym (part_from cs at.result.chunk at.result.row c.args.from c.args.to at.ensures.start.row at.ensures.begins)))
    c.add_lists.ensures
