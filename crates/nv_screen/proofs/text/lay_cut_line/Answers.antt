use Rattle.std.proofs.Common.{◌-◌, refl}
use Rattle.std.specs.Vec.Iter.{into_iter_items}
use Rattle.nv_screen.specs.inside.Laying.{row_at}
use Rattle.nv_screen.proofs.TextLemmas.{cut_laid}
use Rattle.nv_screen.proofs.text.lay_cut_line.Goals as goal

pub returns : goal.returns
returns c =
    let f = c.args.frame.now in
    cut_laid c.args.canvas.now c.lay_rows.new.canvas c.lay.new.self (row_at f c.args.room) f.col f.width (c.args.room - 1) c.args.room f.looks.now
    c.args.cells.items (into_iter_items c.into_iter-rest.result) (into_iter_items c.lay_rows.new.rest) c.in_ok-last.last.items
    c.end_with_at.new.cells.items refl c.requires.some c.into_iter-rest.ensures.rest c.in_ok-lay_rows.ensures.laid c.in_ok-lay_rows.ensures.rest
    c.in_ok-last.ensures.cells c.in_ok-end_with_at.ensures c.in_ok-lay.ensures
