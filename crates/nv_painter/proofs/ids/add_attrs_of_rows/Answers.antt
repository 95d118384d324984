use Rattle.std.proofs.Common.{arith, get_or}
use Rattle.std.proofs.lemmas.List.{length-map}
use Rattle.nv_linegrid.specs.Told.{with_attrs_of_rows}
use Rattle.nv_painter.specs.inside.Lent.{lent_cells, lent_rows}
use Rattle.nv_painter.proofs.DueLemmas.{attrs_end, attrs_step, lent_at}
use Rattle.nv_painter.proofs.ids.add_attrs_of_rows.Goals as goal

pub loop-k-preserved : goal.loop-k-preserved
loop-k-preserved c rows screen s =
    let at = c.loop-k in
    let drawn = c.args.drawn.now in
    let so_far = at.invariant rows screen s in
    let row = get_or drawn at.k c.index-drawn-k.result in
    attrs_step at.k c.args.dues.now c.due_at.result (lent_rows drawn) screen at.attrs.items c.add_attrs_of_row.new.attrs.items
    (with_attrs_of_rows c.args.attrs.now.items screen) (lent_cells row) rows (omega (arith, c.loop-k-test.true, length-map drawn lent_cells))
    c.due_at.ensures (lent_at drawn c.index-drawn-k.result at.k c.loop-k-test.true) c.in_ok-add_attrs_of_row.ensures so_far.1 so_far.0

pub returns : goal.returns
returns c rows screen s =
    let at = c.loop-k in
    let so_far = at.invariant rows screen s in
    attrs_end at.k c.args.dues.now (lent_rows c.args.drawn.now) screen at.attrs.items (with_attrs_of_rows c.args.attrs.now.items screen) rows
    (omega (arith, c.loop-k-test.false, length-map c.args.drawn.now lent_cells)) so_far.1 so_far.0
