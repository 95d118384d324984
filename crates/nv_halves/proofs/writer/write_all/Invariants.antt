use Rattle.std.proofs.Common.{◌≡◌, ◌≤◌, ◌<◌, length}
use Rattle.nv_halves.specs.Passes.{plain_pass}
use Rattle.nv_halves.specs.inside.Taking.{WritesSoFar}
use Rattle.nv_halves.proofs.writer.write_all.Given as goal

abbrev pub invariant-takes : goal.invariant-takes
invariant-takes g l = record {
  writes : WritesSoFar (plain_pass l.fn.pass) (plain_pass l.pass) l.session (g.V.Voice.told l.voice) (g.S.Sink.words l.initial.output).taken (g.S.Sink.words l.output).taken;
  at_turn : l.pass.turn ≡ l.fn.pass.turn;
  later : (g.S.Sink.words l.initial.output).faults ≤ (g.S.Sink.words l.output).faults;
}
