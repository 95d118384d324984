use Rattle.std.proofs.Common.{◌≡◌, ◌-◌, ◌++◌, ◌∙◌, List, ap, length, take}
use Rattle.nv_hl.specs.declared.cell.Cell.{Cell}
use Rattle.nv_linedraw.specs.LineCells.{cells_in_one_row}
use Rattle.nv_virt.specs.Texts.{chunk_cells}
use Rattle.nv_virt.proofs.cells.push_chunk.Goals as goal

pub returns : goal.returns
returns c =
    let olds = c.args.cells.now.items in
    let all : c.in_ok-more.more.items ≡ take (c.args.most - length olds) (chunk_cells c.args.groups.now c.args.chunk.now) =
    c.in_ok-more.ensures ∙ (λ i. take (c.room_in-left.ensures i) (cells_in_one_row 8 (c.attr_of-attr.ensures i) (c.as_slice-text.ensures.value i))) in
    c.in_ok-append.ensures.items ∙ ap (λ (cs : List Cell). olds ++ cs) all
