use Rattle.std.proofs.Common.{arith}
use Rattle.nv_painter.proofs.PlainLemmas.{cells_length}
use Rattle.nv_painter.proofs.lent.plain_count.Goals as goal

pub returns : goal.returns
returns c = omega (arith, cells_length c.args.width c.args.bytes.now, c.saturating_sub.ensures)
