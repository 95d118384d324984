use Rattle.std.proofs.Common.{◌≡◌, ◌+◌, drop}
use Rattle.nv_linegrid.specs.Told.{id_from}
use Rattle.nv_painter.proofs.ids.id_among.Given as goal

abbrev pub invariant-loop-other : goal.invariant-loop-other
invariant-loop-other l = record {
  ids : id_from l.id (drop l.other-index l.attrs) l.attr ≡ id_from 1 l.attrs l.attr;
  count : l.id ≡ l.other-index + 1;
}
