-- Of all pieces so far the client made what it listed, and it needs more bytes.
use Rattle.std.proofs.Common.{◌≡◌, ℕ, ◌+◌, ◌-◌, ◌^◌, ◌≤◌, List, length, Ok}
use Rattle.std.specs.Io.KnownBytes.{append_known}
use Rattle.std.specs.List.{concat}
use Rattle.nv_io.specs.Streams.{GaveEach}
use Rattle.nv_stream.specs.Answers.{NeedsMore}
use Rattle.nv_mirror.specs.Ends.{ListsAtOnce}
use Rattle.nv_mirror.specs.inside.Steps.{CanGoOn, StepsFromAny, standing_of}
use Rattle.nv_mirror.proofs.client.Client.run.Given as goal

abbrev pub invariant-loop-self : goal.invariant-loop-self
invariant-loop-self g l = record {
  stepped : (pieces : List (List ℕ)) × (out : List ℕ)
      × GaveEach (g.I.Source.words l.initial.input) (g.I.Source.words l.input) pieces
      × ((g.O.Sink.words l.output).taken ≡ append_known (g.O.Sink.words l.initial.output).taken out)
      × StepsFromAny {A = Unit {0}} ⊥ (Ok tt) (concat pieces, out) (standing_of l.initial.self) (standing_of l.self)
      × (l.self.stream.start + length l.self.stream.held ≡ length (concat pieces))
      × ListsAtOnce l.initial.self.lister.buffer pieces out;
  ready : CanGoOn l.self;
  waits : NeedsMore l.self.stream;
  fits : l.self.stream.start + length l.self.stream.held ≤ 2 ^ 62 + 65536;
  sized : length l.room ≡ 65536;
  read_later : (g.I.Source.words l.initial.input).faults ≤ (g.I.Source.words l.input).faults;
  write_later : (g.O.Sink.words l.initial.output).faults ≤ (g.O.Sink.words l.output).faults;
}

abbrev pub decreases-loop-self : goal.decreases-loop-self
decreases-loop-self g l = 2 ^ 62 - (l.self.stream.start + length l.self.stream.held)
