use Rattle.std.proofs.Common.{arith}
use Rattle.nv_lines.proofs.FlatLengths.{row_start-more, row_fits}
use Rattle.nv_lines.proofs.measuring.flat_len.Goals as goal

pub overflow_add-bytes : goal.overflow_add-bytes
overflow_add-bytes c =
    omega (arith, c.len.ensures.value, row_fits c.args.lines.now c.loop-line.line-index c.line-item.result (omega arith) c.line-item.is)

pub overflow_add-bytes-in-loop-line : goal.overflow_add-bytes-in-loop-line
overflow_add-bytes-in-loop-line c =
    omega (arith, c.len.ensures.value, row_fits c.args.lines.now c.loop-line.line-index c.line-item.result (omega arith) c.line-item.is)

pub loop-line-preserved : goal.loop-line-preserved
loop-line-preserved c =
    omega (arith, c.len.ensures.value, row_start-more c.args.lines.now c.loop-line.line-index c.line-item.result (omega arith) c.line-item.is)
