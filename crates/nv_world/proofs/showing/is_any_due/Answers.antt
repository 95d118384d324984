use Rattle.std.proofs.Common.{ap, ◌∙◌, length, arith}
use Rattle.nv_world.proofs.Finding.{any_waits, none_waits}
use Rattle.nv_world.proofs.showing.is_any_due.Goals as goal

pub returns-then-waiting-gt0 : goal.returns-then-waiting-gt0
returns-then-waiting-gt0 c = λ capacity y is.
    any_waits c.waiting.result y.waiting c.args.is_scene_due (c.waiting.ensures.value ∙ ap length is.waiting) (omega (arith, c.if-waiting-gt0.true))

pub returns : goal.returns
returns c = λ capacity y is.
    none_waits c.waiting.result y.waiting c.args.is_scene_due (c.waiting.ensures.value ∙ ap length is.waiting) (omega (arith, c.if-waiting-gt0.false))
