use Rattle.std.proofs.Common.{◌≡◌, ◌<◌, ◌++◌, drop}
use Rattle.nv_linedraw.specs.LineCells.{cells_from_column, col_after, filler_of, ones}
use Rattle.nv_linedraw.proofs.flow.Flow.put_bytes.Given as goal

abbrev pub invariant-loop-byte : goal.invariant-loop-byte
invariant-loop-byte l = record {
  cells : l.self.cells.items ++ cells_from_column l.d.width (filler_of l.d.looks.now) l.self.col (ones (drop l.byte-index l.bytes) l.attr)
      ≡ l.fn.self.cells.items ++ cells_from_column l.d.width (filler_of l.d.looks.now) l.fn.self.col (ones l.bytes l.attr);
  col : col_after l.d.width l.self.col (ones (drop l.byte-index l.bytes) l.attr) ≡ col_after l.d.width l.fn.self.col (ones l.bytes l.attr);
  within : l.self.col < l.d.width;
}
