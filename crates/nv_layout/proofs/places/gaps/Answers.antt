use Rattle.std.proofs.Common.{sym, arith}
use Rattle.nv_layout.proofs.Contents.{gaps-row, gaps-column}
use Rattle.nv_layout.proofs.places.gaps.Goals as goal

pub overflow_cast-result : goal.overflow_cast-result
overflow_cast-result c = omega (arith, gaps-row c.args.axis c.args.trees.now c.in-Across.is, c.saturating_sub.ensures)

pub returns-in-Across : goal.returns-in-Across
returns-in-Across c = omega (arith, gaps-row c.args.axis c.args.trees.now c.in-Across.is, c.saturating_sub.ensures)

pub returns-in-Down : goal.returns-in-Down
returns-in-Down c = sym (gaps-column c.args.axis c.args.trees.now c.in-Down.is)
