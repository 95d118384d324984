use Rattle.std.proofs.Common.{◌≡◌, ℕ, ◌-◌, ◌^◌, ◌≤◌, List, length}
use Rattle.nv_io.specs.Streams.{Gave}
use Rattle.nv_book.specs.Books.{Recorded}
use Rattle.nv_book.specs.Reading.{IsReplaying}
use Rattle.nv_book.proofs.replay.read_book.Given as goal

abbrev pub invariant-loop-replay : goal.invariant-loop-replay
invariant-loop-replay g l = record {
  replays : (bytes : List ℕ) × Gave (g.S.Source.words l.fn.source).taken (g.S.Source.words l.source).taken (g.S.Source.words l.fn.source).left (g.S.Source.words l.source).left bytes
      × ((records played : List Recorded) × IsReplaying bytes records played l.replay);
  limits : l.replay.start.limits ≡ l.fn.limits;
  later : (g.S.Source.words l.fn.source).faults ≤ (g.S.Source.words l.source).faults;
}

abbrev pub decreases-loop-replay : goal.decreases-loop-replay
decreases-loop-replay g l = 2 ^ 63 - length l.replay.world.history
