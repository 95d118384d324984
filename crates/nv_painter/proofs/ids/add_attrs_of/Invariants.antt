use Rattle.std.proofs.Common.{◌≡◌, true, drop}
use Rattle.nv_linegrid.specs.Told.{has_id, with_attrs_of}
use Rattle.nv_painter.proofs.ids.add_attrs_of.Given as goal

abbrev pub invariant-loop-cell : goal.invariant-loop-cell
invariant-loop-cell l = record {
  attrs : with_attrs_of l.attrs.items (drop l.cell-index l.cells) ≡ with_attrs_of l.fn.attrs.items l.cells;
  last : has_id l.attrs.items l.last ≡ true;
}
