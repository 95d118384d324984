use Rattle.std.proofs.Common.{take}
use Rattle.nv_painter.specs.inside.Sketch.{IsIdOf, ShowsCells}
use Rattle.nv_painter.proofs.ids.front_shown.Given as goal

abbrev pub invariant-loop-k : goal.invariant-loop-k
invariant-loop-k l = record {
  front : ShowsCells l.attrs (take l.k l.cells) (take l.k l.row);
  id : IsIdOf l.attrs l.last l.id;
}
