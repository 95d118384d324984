use Rattle.std.proofs.Common.{◌≡◌, [], length, sym, ap, ◌∙◌, List, rules}
use Rattle.std.specs.Vec.Iter.{into_iter_items}
use Rattle.nv_linegrid.specs.Client.{Shown, row_with}
use Rattle.nv_redraw.proofs.ScreenLemmas.{row_with_none, nothing_in}
use Rattle.nv_redraw.proofs.shown.put_cells.Goals as goal

pub returns : goal.returns
returns c =
    let empty : length (into_iter_items c.loop-cell.cell-iterator) ≡ 0 = search rules in
    let none : into_iter_items c.loop-cell.cell-iterator ≡ [] = nothing_in (into_iter_items c.loop-cell.cell-iterator) empty in
    sym (row_with_none c.loop-cell.row.items c.loop-cell.at) ∙ ap (λ (l : List Shown). row_with c.loop-cell.row.items c.loop-cell.at l) (sym none) ∙ c.loop-cell.invariant.all
