use Rattle.std.proofs.Common.{◌≡◌, ℕ, ◌≤◌, List, [], length, Some}
use Rattle.nv_speech.specs.Flows.{FlowsOut}
use Rattle.nv_world.specs.Worlds.{start_of}
use Rattle.nv_session.specs.inside.Serving.{IsReady, ServesCalls, bytes_waiting, state_of}
use Rattle.nv_session.proofs.session.Session.answer_held.Given as goal

abbrev pub invariant-loop : goal.invariant-loop
invariant-loop g l = record {
  served : (made : List ℕ) × ServesCalls l.initial.self.intake.held (state_of l.initial.self l.initial.world) (state_of l.self l.world) (Some []) (Some made)
      × FlowsOut (g.S.Sink.words l.initial.output).taken (g.S.Sink.words l.output).taken [] made (bytes_waiting l.self);
  ready : IsReady (state_of l.self l.world);
  begins : start_of l.world ≡ start_of l.initial.world;
  later : (g.S.Sink.words l.initial.output).faults ≤ (g.S.Sink.words l.output).faults;
}

abbrev pub decreases-loop : goal.decreases-loop
decreases-loop g l = length l.self.intake.held
