use Rattle.std.proofs.Common.{take}
use Rattle.std.specs.Prelude.{All}
use Rattle.nv_linedraw.specs.inside.Stretches.{IsInStretch}
use Rattle.nv_linedraw.proofs.spans.starts_of.Given as goal

abbrev pub invariant-loop-piece : goal.invariant-loop-piece
invariant-loop-piece l = All (λ p. IsInStretch l.stretch p.from) (take l.piece-index l.pieces)
