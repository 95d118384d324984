use Rattle.std.proofs.Common.{◌≡◌, ◌<◌, ℕ, drop}
use Rattle.nv_linedraw.specs.LineCells.{cell_of_byte}
use Rattle.nv_linedraw.specs.inside.Placing.{StandsAt}
use Rattle.nv_linedraw.proofs.PlaceLemmas.{sought}
use Rattle.nv_linedraw.proofs.places.place_of_byte.Given as goal

abbrev pub invariant-loop-piece : goal.invariant-loop-piece
invariant-loop-piece l =
    (cell : ℕ) × StandsAt l.width l.most l.place.row l.place.col cell × (l.stop < l.tabstop)
    × (sought l.width l.tabstop l.line l.byte l.stop cell (drop l.piece-index l.piece-items) ≡ cell_of_byte l.width l.tabstop l.line l.byte)
