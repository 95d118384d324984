use Rattle.std.proofs.Common.{◌≡◌, ◌++◌, ◌∷◌, [], sym, rules}
use Rattle.nv_linegrid.specs.Client.{Shown}
use Rattle.nv_painter.proofs.IdLemmas.{id_of_empty}
use Rattle.nv_painter.proofs.LineLemmas.{cells_more}
use Rattle.nv_painter.proofs.ids.shown_cells.Goals as goal

pub loop-cell-init : goal.loop-cell-init
loop-cell-init c = record { shown = c.in_ok-shown.ensures.items; id = sym (id_of_empty c.args.attrs.now) }

pub loop-cell-preserved : goal.loop-cell-preserved
loop-cell-preserved c =
    let at = c.loop-cell in
    let cell = c.cell-item.result in
    let shown : Shown = record { text = c.in_ok-text.text; id = c.next_id-id.result } in
    let put : c.push.new.self.items ≡ at.shown.items ++ shown ∷ [] = search rules in
    record {
      shown = cells_more c.args.attrs.now c.args.cells.now at.cell-index c.next_id-id.result cell c.in_ok-text.text at.shown.items c.push.new.self.items
          c.loop-cell-test.true c.cell-item.is c.in_ok-text.ensures c.next_id-id.ensures put at.invariant.shown;
      id = c.next_id-id.ensures;
    }
