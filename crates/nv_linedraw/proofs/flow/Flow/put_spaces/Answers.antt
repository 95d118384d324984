use Rattle.std.proofs.Common.{arith, rules}
use Rattle.nv_hl.specs.Cells.{space}
use Rattle.nv_linedraw.specs.LineCells.{filler_of}
use Rattle.nv_linedraw.proofs.LayLemmas.{equal_step, equal_col}
use Rattle.nv_linedraw.proofs.flow.Flow.put_spaces.Goals as goal

pub loop-preserved : goal.loop-preserved
loop-preserved c = record {
  cells = equal_step c.args.d.now.width (filler_of c.args.d.now.looks.now) (space c.args.attr) c.loop.self.col c.put_one.new.self.col
      c.loop.self.cells.items c.put_one.new.self.cells.items _ c.loop.counter c.args.n (omega (arith, c.loop-test.true))
      (search rules) c.put_one.ensures.col c.loop.invariant.cells;
  col = equal_col c.args.d.now.width (space c.args.attr) c.loop.self.col c.put_one.new.self.col _ c.loop.counter c.args.n
      (omega (arith, c.loop-test.true)) c.put_one.ensures.col c.loop.invariant.col;
  within = c.put_one.ensures.within;
}
