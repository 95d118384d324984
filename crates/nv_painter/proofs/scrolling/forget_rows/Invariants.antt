use Rattle.nv_painter.specs.inside.Moving.{AreForgotten}
use Rattle.nv_painter.proofs.scrolling.forget_rows.Given as goal

abbrev pub invariant-loop-k : goal.invariant-loop-k
invariant-loop-k l = AreForgotten l.fn.rows l.rows l.from l.k l.width
