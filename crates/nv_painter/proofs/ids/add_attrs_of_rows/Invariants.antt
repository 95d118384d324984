use Rattle.std.proofs.Common.{◌≡◌, List, drop}
use Rattle.nv_hl.specs.declared.cell.Cell.{Cell}
use Rattle.nv_linegrid.specs.Client.{ShownRows}
use Rattle.nv_linegrid.specs.Told.{with_attrs_of_rows}
use Rattle.nv_painter.specs.inside.Due.{AreDue}
use Rattle.nv_painter.specs.inside.Lent.{lent_rows}
use Rattle.nv_painter.proofs.ids.add_attrs_of_rows.Given as goal

abbrev pub invariant-loop-k : goal.invariant-loop-k
invariant-loop-k l =
    (rows : ShownRows) (screen : List (List Cell)) → AreDue l.dues (lent_rows l.drawn) l.fn.attrs.items rows screen
    → (with_attrs_of_rows l.attrs.items (drop l.k screen) ≡ with_attrs_of_rows l.fn.attrs.items screen)
    × AreDue l.dues (lent_rows l.drawn) l.attrs.items rows screen
