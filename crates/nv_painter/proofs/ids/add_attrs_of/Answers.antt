use Rattle.std.proofs.Common.{◌≡◌, ◌+◌, ◌∷◌, ◌∙◌, drop, ap, sym, refl}
use Rattle.nv_linedraw.proofs.LayLemmas.{drop_at}
use Rattle.nv_linegrid.specs.Told.{has_id, with_attrs_of}
use Rattle.nv_painter.proofs.IdLemmas.{empty_has_id, has_added}
use Rattle.nv_painter.proofs.ids.add_attrs_of.Goals as goal

pub loop-cell-init : goal.loop-cell-init
loop-cell-init c = record { attrs = refl; last = empty_has_id c.args.attrs.now.items }

pub loop-cell-preserved : goal.loop-cell-preserved
loop-cell-preserved c =
    let at = c.loop-cell in
    let cells = c.args.cells.now in
    let cell = c.cell-item.result in
    let rest = drop (at.cell-index + 1) cells in
    let here : drop at.cell-index cells ≡ cell ∷ rest = drop_at cells at.cell-index cell c.loop-cell-test.true ∙ ap (λ x. x ∷ rest) (sym c.cell-item.is) in
    record {
      attrs = ap (λ l. with_attrs_of l rest) c.in_ok-add_next.ensures ∙ sym (ap (with_attrs_of at.attrs.items) here) ∙ at.invariant.attrs;
      last = ap (λ l. has_id l cell.attr) c.in_ok-add_next.ensures ∙ has_added at.attrs.items cell.attr;
    }
