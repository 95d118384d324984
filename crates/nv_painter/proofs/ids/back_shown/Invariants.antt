use Rattle.std.proofs.Common.{drop}
use Rattle.nv_painter.specs.inside.Sketch.{IsIdOf, ShowsCells}
use Rattle.nv_painter.proofs.ids.back_shown.Given as goal

abbrev pub invariant-loop-k : goal.invariant-loop-k
invariant-loop-k l = record {
  back : ShowsCells l.attrs (drop l.k l.cells) (drop l.k l.row);
  id : IsIdOf l.attrs l.last l.id;
}
