use Rattle.std.proofs.Common.{◌≡◌, ◌<◌, ◌-◌, ◌++◌, replicate}
use Rattle.nv_hl.specs.Cells.{space}
use Rattle.nv_linedraw.specs.LineCells.{cells_from_column, col_after, filler_of, single}
use Rattle.nv_linedraw.proofs.flow.Flow.put_spaces.Given as goal

abbrev pub invariant-loop : goal.invariant-loop
invariant-loop l = record {
  cells : l.self.cells.items ++ cells_from_column l.d.width (filler_of l.d.looks.now) l.self.col (replicate (l.n - l.counter) (single (space l.attr)))
      ≡ l.fn.self.cells.items ++ cells_from_column l.d.width (filler_of l.d.looks.now) l.fn.self.col (replicate l.n (single (space l.attr)));
  col : col_after l.d.width l.self.col (replicate (l.n - l.counter) (single (space l.attr)))
      ≡ col_after l.d.width l.fn.self.col (replicate l.n (single (space l.attr)));
  within : l.self.col < l.d.width;
}
