use Rattle.nv_turn.specs.Passes.{IsSamePass}
use Rattle.nv_tests_serve.proofs.turn.add_all.Given as goal

abbrev pub invariant-loop-item : goal.invariant-loop-item
invariant-loop-item g l = IsSamePass l.fn.pass l.pass
