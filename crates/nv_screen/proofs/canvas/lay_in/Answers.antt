use Rattle.std.proofs.Common.{◌<◌, ◌∙◌, ap, length, arith, rules}
use Rattle.nv_hl.specs.Cells.{with_cells}
use Rattle.nv_screen.specs.inside.Laid.{whole_row}
use Rattle.nv_screen.proofs.CanvasLemmas.{row_beside, row_laid}
use Rattle.nv_screen.proofs.canvas.lay_in.Goals as goal

pub returns-then-col-width-clause-laid : goal.returns-then-col-width-clause-laid
returns-then-col-width-clause-laid c =
    row_beside c.args.width c.args.strips.now.items c.args.row c.args.col c.args.cells.items c.requires (omega (arith, c.if-col-width.true))

pub returns-clause-laid : goal.returns-clause-laid
returns-clause-laid c =
    let w = c.args.width in
    let rows = c.args.strips.now.items in
    let cells = c.args.cells.items in
    let old = c.index_mut.result.now in
    let there : c.args.row < length rows = search rules in
    row_laid w rows c.args.row c.args.col old c.lay_row.new.row cells there
    (c.in_ok-lay_row.ensures.laid ∙ ap (λ r. with_cells (whole_row w r) c.args.col cells) c.index_mut.ensures.value)
