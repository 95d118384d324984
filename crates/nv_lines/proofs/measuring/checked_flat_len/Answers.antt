use Rattle.std.proofs.Common.{arith}
use Rattle.nv_lines.proofs.FlatLengths.{row_start-more, row_fits}
use Rattle.nv_lines.proofs.measuring.checked_flat_len.Goals as goal

pub returns-in_default : goal.returns-in_default
returns-in_default c =
    omega (arith, c.in_default.ensures, row_fits c.args.lines.now c.loop-line.line-index c.line-item.result (omega arith) c.line-item.is)

pub loop-line-preserved : goal.loop-line-preserved
loop-line-preserved c =
    omega (arith, c.in-Some.ensures.1, row_start-more c.args.lines.now c.loop-line.line-index c.line-item.result (omega arith) c.line-item.is)
