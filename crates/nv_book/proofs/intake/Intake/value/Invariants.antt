use Rattle.std.proofs.Common.{◌≡◌, ℕ, ◌++◌, ◌-◌, ◌^◌, ◌≤◌, List}
use Rattle.nv_io.specs.Streams.{Gave}
use Rattle.nv_value.specs.Content.{Tree}
use Rattle.nv_book.specs.Reading.{HasGiven}
use Rattle.nv_book.proofs.intake.Intake.value.Given as goal

abbrev pub invariant-loop-value : goal.invariant-loop-value
invariant-loop-value g l = record {
  given : (bytes : List ℕ) × Gave (g.S.Source.words l.initial.source).taken (g.S.Source.words l.source).taken (g.S.Source.words l.initial.source).left (g.S.Source.words l.source).left bytes
      × ((fed : List ℕ) (values : List Tree) → HasGiven fed values l.initial.self.taken l.initial.self.stream → HasGiven (fed ++ bytes) values l.self.taken l.self.stream);
  later : (g.S.Source.words l.initial.source).faults ≤ (g.S.Source.words l.source).faults;
}

abbrev pub decreases-loop-value : goal.decreases-loop-value
decreases-loop-value g l = 2 ^ 62 - l.self.taken
