use Rattle.std.proofs.Common.{◌≡◌, length}
use Rattle.nv_calls.specs.Intakes.{IsLive}
use Rattle.nv_halves.specs.Passes.{plain_pass}
use Rattle.nv_halves.specs.inside.Intakes.{MakesCalls}
use Rattle.nv_halves.proofs.steps.make_held.Given as goal

abbrev pub invariant-calls : goal.invariant-calls
invariant-calls g l = record {
  made : MakesCalls l.initial.intake.held l.initial.intake l.intake (plain_pass l.fn.pass) (plain_pass l.pass) l.session;
  at_turn : l.pass.turn ≡ l.fn.pass.turn;
  live : IsLive l.intake;
}

abbrev pub decreases-calls : goal.decreases-calls
decreases-calls g l = length l.intake.held
