use Rattle.std.proofs.Common.{arith}
use Rattle.nv_painter.proofs.DueLemmas.{back_later}
use Rattle.nv_painter.proofs.SketchLemmas.{empty_is_id_0}
use Rattle.nv_painter.proofs.ids.back_shown.Goals as goal

pub loop-k-init : goal.loop-k-init
loop-k-init c = record { back = c.requires.shown; id = empty_is_id_0 c.args.attrs.now }

pub returns-clause-shown : goal.returns-clause-shown
returns-clause-shown c =
    back_later c.args.attrs.now c.args.cells.now c.args.row.now c.loop-k.k c.args.from (omega (arith, c.loop-k-test.false)) c.loop-k.invariant.back
