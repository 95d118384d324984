use Rattle.std.proofs.Common.{◌≡◌, ℕ, ◌+◌, ◌-◌, ◌^◌, ◌≤◌, List, length}
use Rattle.nv_io.specs.Streams.{Gave}
use Rattle.nv_book.proofs.intake.Intake.drain.Given as goal

abbrev pub invariant-loop : goal.invariant-loop
invariant-loop g l = record {
  drained : (bytes : List ℕ) × Gave (g.S.Source.words l.initial.source).taken (g.S.Source.words l.source).taken (g.S.Source.words l.initial.source).left (g.S.Source.words l.source).left bytes
      × (l.self.taken ≡ l.initial.self.taken + length bytes);
  later : (g.S.Source.words l.initial.source).faults ≤ (g.S.Source.words l.source).faults;
}

abbrev pub decreases-loop : goal.decreases-loop
decreases-loop g l = 2 ^ 62 - l.self.taken
