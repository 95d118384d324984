use Rattle.std.proofs.Common.{◌≡◌, ◌+◌, ◌-◌}
use Rattle.std.specs.Vec.Iter.{into_iter_items}
use Rattle.nv_screen.specs.Drawing.{rows_of_cells, with_rows}
use Rattle.nv_screen.specs.inside.Laying.{cells_behind}
use Rattle.nv_screen.proofs.laying.lay_rows.Given as goal

abbrev pub invariant-loop-k : goal.invariant-loop-k
invariant-loop-k l = record {
  laid : record l.canvas { rows = with_rows l.canvas.rows (l.row + l.k) l.col (rows_of_cells (l.count - l.k) l.width (into_iter_items l.rest)) }
      ≡ record l.fn.canvas { rows = with_rows l.fn.canvas.rows l.row l.col (rows_of_cells l.count l.width (into_iter_items l.fn.rest)) };
  rest : cells_behind (l.count - l.k) l.width (into_iter_items l.rest) ≡ cells_behind l.count l.width (into_iter_items l.fn.rest);
}
