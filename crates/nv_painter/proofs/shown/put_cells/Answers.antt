use Rattle.std.proofs.Common.{◌≡◌, ◌∙◌, ap, length, rules, sym}
use Rattle.std.proofs.lemmas.List.{nil_from_length}
use Rattle.std.specs.Vec.Iter.{into_iter_items}
use Rattle.nv_linegrid.specs.Client.{row_with}
use Rattle.nv_painter.proofs.DueLemmas.{put_none}
use Rattle.nv_painter.proofs.shown.put_cells.Goals as goal

pub returns : goal.returns
returns c fits =
    let at = c.loop-cell in
    let none : length (into_iter_items at.cell-iterator) ≡ 0 = search rules in
    sym (put_none at.row.items at.place) ∙ ap (row_with at.row.items at.place) (sym (nil_from_length (into_iter_items at.cell-iterator) none))
    ∙ (at.invariant fits).1
