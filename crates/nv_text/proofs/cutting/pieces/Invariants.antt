use Rattle.std.proofs.Common.{◌≡◌, ◌+◌, ◌++◌, length}
use Rattle.nv_text.specs.Pieces.{parts, pieces_from, pieces_of}
use Rattle.nv_text.proofs.cutting.pieces.Given as goal

abbrev pub invariant-loop-pieces : goal.invariant-loop-pieces
invariant-loop-pieces l = record {
  cut : l.pieces.items ++ pieces_from l.from (parts l.rest) ≡ pieces_of l.line;
  place : l.from + length l.rest ≡ length l.line;
}

abbrev pub decreases-loop-pieces : goal.decreases-loop-pieces
decreases-loop-pieces l = length l.rest
