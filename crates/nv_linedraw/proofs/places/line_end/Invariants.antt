use Rattle.std.proofs.Common.{◌≡◌, ◌<◌, ◌+◌, ◌%◌, ℕ, drop}
use Rattle.nv_linedraw.specs.inside.Placing.{StandsAt}
use Rattle.nv_linedraw.proofs.EndLemmas.{length_of}
use Rattle.nv_linedraw.proofs.places.line_end.Given as goal

abbrev pub invariant-loop-piece : goal.invariant-loop-piece
invariant-loop-piece l =
    (cell : ℕ) × StandsAt l.width l.most l.place.row l.place.col cell × (l.stop < l.tabstop)
    × (cell + length_of l.width l.tabstop l.line l.stop (cell % l.width) (drop l.piece-index l.piece-items) ≡ length_of l.width l.tabstop l.line 0 0 l.piece-items)
