use Rattle.nv_turn.specs.Passes.{IsSamePass}
use Rattle.nv_tests_serve.proofs.turn.alternate.Given as goal

abbrev pub invariant-loop : goal.invariant-loop
invariant-loop g l = IsSamePass l.fn.pass l.pass
