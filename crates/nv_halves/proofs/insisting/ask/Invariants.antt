use Rattle.std.proofs.Common.{◌≡◌}
use Rattle.nv_rpc.specs.Frames.{call_of_frame}
use Rattle.nv_halves.specs.Passes.{plain_pass}
use Rattle.nv_halves.specs.inside.Insisting.{Stays}
use Rattle.nv_halves.proofs.insisting.ask.Given as goal

abbrev pub invariant-tries : goal.invariant-tries
invariant-tries g l = record {
  same_call : call_of_frame l.call ≡ call_of_frame l.fn.call;
  at_turn : l.pass.turn ≡ l.fn.pass.turn;
  stays : Stays (plain_pass l.fn.pass) (plain_pass l.pass);
}
