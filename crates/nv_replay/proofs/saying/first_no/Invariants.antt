-- The watchers before the place have said their verdicts.
use Rattle.std.proofs.Common.{◌≡◌, List, length}
use Rattle.nv_watch.specs.declared.verdict.Verdict.{Verdict}
use Rattle.nv_replay.specs.inside.Endings.{SaysNoFirst}
use Rattle.nv_replay.specs.inside.Watching.{HaveSaid}
use Rattle.nv_replay.proofs.saying.first_no.Given as goal

abbrev pub invariant-loop-place : goal.invariant-loop-place
invariant-loop-place g l =
    (verdicts : List Verdict) × (length verdicts ≡ l.place) × SaysNoFirst l.place verdicts l.told
    × HaveSaid l.watchers verdicts (λ w s. g.W.Watcher.HasSeen w s)
    (λ w. g.W.Watcher.Breaks w)
