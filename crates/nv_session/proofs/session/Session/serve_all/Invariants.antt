use Rattle.std.proofs.Common.{◌≡◌, ℕ, ◌-◌, ◌^◌, ◌≤◌, List, []}
use Rattle.std.specs.List.{concat}
use Rattle.nv_io.specs.Streams.{GaveEach}
use Rattle.nv_calls.specs.Intakes.{WantsMore, came}
use Rattle.nv_world.specs.Worlds.{start_of}
use Rattle.nv_session.specs.inside.Serving.{IsReady, ServesCalls, bytes_waiting, state_of}
use Rattle.nv_session.proofs.session.Session.serve_all.Given as goal

abbrev pub invariant-loop-self : goal.invariant-loop-self
invariant-loop-self g l = record {
  served : (pieces : List (List ℕ))
      × GaveEach (g.I.Source.words l.initial.input) (g.I.Source.words l.input) pieces
      × ServesCalls (concat pieces) (state_of l.initial.self l.initial.world) (state_of l.self l.world) (g.S.Sink.words l.initial.output).taken (g.S.Sink.words l.output).taken;
  ready : IsReady (state_of l.self l.world);
  begins : start_of l.world ≡ start_of l.initial.world;
  waits : WantsMore l.self.intake;
  nothing_waits : bytes_waiting l.self ≡ [];
  read_later : (g.I.Source.words l.initial.input).faults ≤ (g.I.Source.words l.input).faults;
  write_later : (g.S.Sink.words l.initial.output).faults ≤ (g.S.Sink.words l.output).faults;
}

abbrev pub decreases-loop-self : goal.decreases-loop-self
decreases-loop-self g l = 2 ^ 62 - came l.self.intake
