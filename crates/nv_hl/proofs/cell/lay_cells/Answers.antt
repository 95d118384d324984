use Rattle.std.proofs.Common.{sym, arith, ◌∙◌}
use Rattle.std.specs.Vec.Iter.{into_iter_items}
use Rattle.nv_hl.proofs.CellLemmas.{cells_past}
use Rattle.nv_hl.proofs.cell.lay_cells.Goals as goal

pub returns-then-len-at : goal.returns-then-len-at
returns-then-len-at c =
    sym (cells_past c.loop-cell.row.items c.loop-cell.at (into_iter_items c.loop-cell.cell-iterator) (omega (arith, c.if-len-at.true, c.len.ensures, c.loop-cell.row.ok.0)))
    ∙ c.loop-cell.invariant
