use Rattle.std.proofs.Common.{arith}
use Rattle.nv_lines.proofs.FlatLengths.{row_start-more, row_fits}
use Rattle.nv_lines.proofs.measuring.row_at.Goals as goal

pub overflow_add-end : goal.overflow_add-end
overflow_add-end c =
    omega (arith, c.len.ensures.value, c.requires.small, row_fits c.args.lines.now c.loop-row.row c.index-lines-row.result (omega arith) c.index-lines-row.is)

pub overflow_add-end-in-loop-row : goal.overflow_add-end-in-loop-row
overflow_add-end-in-loop-row c =
    omega (arith, c.len.ensures.value, c.requires.small, row_fits c.args.lines.now c.loop-row.row c.index-lines-row.result (omega arith) c.index-lines-row.is)

pub returns-then-offset-end : goal.returns-then-offset-end
returns-then-offset-end c = record {
  within = omega arith;
  begins = omega (arith, c.loop-row.invariant.start, c.loop-row.invariant.before);
  ends = λ h. omega (arith, c.len.ensures.value, c.loop-row.invariant.start, row_start-more c.args.lines.now c.loop-row.row c.index-lines-row.result h c.index-lines-row.is);
}

pub loop-row-preserved : goal.loop-row-preserved
loop-row-preserved c = record {
  start = omega (arith, c.len.ensures.value, c.loop-row.invariant.start, row_start-more c.args.lines.now c.loop-row.row c.index-lines-row.result (omega arith) c.index-lines-row.is);
  before = omega arith;
}
