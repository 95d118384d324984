use Rattle.nv_scene.proofs.SettleSteps.{AreSettled}
use Rattle.nv_scene.proofs.settling.settle.Given as goal

abbrev pub invariant-loop-place : goal.invariant-loop-place
invariant-loop-place l = AreSettled l.place l.fn.editor l.editor
