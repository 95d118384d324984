use Rattle.std.proofs.Common.{◌≡◌}
use Rattle.nv_halves.specs.Passes.{plain_pass}
use Rattle.nv_halves.specs.inside.Taking.{Drops}
use Rattle.nv_halves.proofs.writer.drop_due.Given as goal

abbrev pub invariant-takes : goal.invariant-takes
invariant-takes g l = record {
  at_turn : l.pass.turn ≡ l.fn.pass.turn;
  drops : Drops (plain_pass l.fn.pass) (plain_pass l.pass) l.session;
}
