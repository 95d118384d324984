-- The entries so far were played, counted and seen, but for what the watchers put off.
use Rattle.std.proofs.Common.{◌≡◌, ◌≤◌, ◌++◌, ℕ, List, []}
use Rattle.nv_io.specs.Streams.{Gave}
use Rattle.nv_book.specs.Books.{Recorded}
use Rattle.nv_book.specs.Reading.{IsReplaying}
use Rattle.nv_watch.specs.Verdicts.{Sight}
use Rattle.nv_replay.specs.inside.Tallies.{IsGoingOver}
use Rattle.nv_replay.specs.inside.Watching.{AreFollowing}
use Rattle.nv_replay.proofs.checking.go_over.Given as goal

abbrev pub invariant-loop-round : goal.invariant-loop-round
invariant-loop-round g l = record {
  went : (bytes : List ℕ)
      × Gave (g.I.Source.words l.initial.source).taken (g.I.Source.words l.source).taken (g.I.Source.words l.initial.source).left (g.I.Source.words l.source).left bytes
      × (seen : List Sight)
      × ((fed : List ℕ) → IsReplaying fed [] [] l.initial.replay → (records : List Recorded) × (played : List Recorded) × IsGoingOver (fed ++ bytes) records played seen l.tally l.replay)
      × AreFollowing l.initial.watchers.items l.watchers.items l.follows seen l.replay.world (λ w s. g.W.Watcher.HasSeen w s)
      (λ w s. g.W.Watcher.IsBehind w s) (λ w. g.W.Watcher.Breaks w);
  same : l.replay.start ≡ l.initial.replay.start;
  later : (g.I.Source.words l.initial.source).faults ≤ (g.I.Source.words l.source).faults;
}
