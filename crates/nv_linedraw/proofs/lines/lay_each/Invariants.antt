use Rattle.std.proofs.Common.{◌≡◌, ◌<◌, ◌≤◌, ◌+◌, ◌++◌, drop, length}
use Rattle.nv_linedraw.specs.LineCells.{cells_from_column, col_after, filler_of}
use Rattle.nv_linedraw.specs.inside.DrawnCells.{drawn_atoms, laid_cells, laid_col, line_flow, stop_behind}
use Rattle.nv_linedraw.proofs.lines.lay_each.Given as goal

abbrev pub invariant-loop-piece : goal.invariant-loop-piece
invariant-loop-piece l = record {
  cells : l.flow.cells.items ++ cells_from_column l.d.width (filler_of l.d.looks.now) l.flow.col (drawn_atoms l.d l.stop (drop l.piece-index l.pieces))
      ≡ laid_cells l.d (line_flow l.fn.flow l.fn.stop) l.pieces;
  col : col_after l.d.width l.flow.col (drawn_atoms l.d l.stop (drop l.piece-index l.pieces)) ≡ laid_col l.d (line_flow l.fn.flow l.fn.stop) l.pieces;
  behind : stop_behind l.d.tabstop l.stop (drop l.piece-index l.pieces) ≡ stop_behind l.d.tabstop l.fn.stop l.pieces;
  within : l.flow.col < l.d.width;
  stop : l.stop < l.d.tabstop;
  count : l.piece-index + length l.fn.flow.cells.items ≤ length l.flow.cells.items;
}
