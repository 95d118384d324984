use Rattle.std.proofs.Common.{◌≡◌}
use Rattle.nv_halves.specs.Passes.{plain_pass}
use Rattle.nv_halves.specs.inside.Insisting.{Stays}
use Rattle.nv_halves.proofs.insisting.shut.Given as goal

abbrev pub invariant-tries : goal.invariant-tries
invariant-tries g l = record {
  at_turn : l.pass.turn ≡ l.fn.pass.turn;
  stays : Stays (plain_pass l.fn.pass) (plain_pass l.pass);
}
