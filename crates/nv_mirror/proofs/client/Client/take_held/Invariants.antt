use Rattle.std.proofs.Common.{◌≡◌, ℕ, ◌+◌, ◌≤◌, List, [], length, Ok}
use Rattle.std.specs.Io.KnownBytes.{append_known}
use Rattle.nv_mirror.specs.inside.Steps.{CanGoOn, StepsFromAny, standing_of}
use Rattle.nv_mirror.proofs.client.Client.take_held.Given as goal

abbrev pub invariant-loop : goal.invariant-loop
invariant-loop g l = record {
  stepped : (out : List ℕ) × ((g.O.Sink.words l.output).taken ≡ append_known (g.O.Sink.words l.initial.output).taken out)
      × StepsFromAny {A = Unit {0}} ⊥ (Ok tt) ([], out) (standing_of l.initial.self) (standing_of l.self);
  ready : CanGoOn l.self;
  same : l.self.stream.start + length l.self.stream.held ≡ l.initial.self.stream.start + length l.initial.self.stream.held;
  later : (g.O.Sink.words l.initial.output).faults ≤ (g.O.Sink.words l.output).faults;
}

abbrev pub decreases-loop : goal.decreases-loop
decreases-loop g l = length l.self.stream.held
