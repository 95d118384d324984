use Rattle.std.proofs.Common.{◌≡◌, ℕ, ◌++◌, ◌≤◌, List, map}
use Rattle.nv_io.specs.Streams.{Gave}
use Rattle.nv_value.specs.Content.{Tree, bin}
use Rattle.nv_book.specs.Books.{pieces_in}
use Rattle.nv_book.specs.Reading.{HasGiven}
use Rattle.nv_book.proofs.Between.{IsCut}
use Rattle.nv_book.proofs.pieces.read_output.Given as goal

abbrev pub invariant-loop-done : goal.invariant-loop-done
invariant-loop-done g l = record {
  read : (bytes : List ℕ) × Gave (g.S.Source.words l.initial.source).taken (g.S.Source.words l.source).taken (g.S.Source.words l.initial.source).left (g.S.Source.words l.source).left bytes
      × ((fed : List ℕ) (values : List Tree) → HasGiven fed values l.initial.intake.taken l.initial.intake.stream
      → HasGiven (fed ++ bytes) (values ++ map bin (pieces_in l.done l.into.items)) l.intake.taken l.intake.stream
      × IsCut l.done l.count l.into.items);
  later : (g.S.Source.words l.initial.source).faults ≤ (g.S.Source.words l.source).faults;
}
