use Rattle.std.proofs.Common.{◌≡◌, ◌+◌, ◌++◌, ◌∷◌, [], ◌∙◌, drop, ap, rules}
use Rattle.nv_linegrid.specs.Client.{row_between}
use Rattle.nv_painter.proofs.MoveLemmas.{cell_step}
use Rattle.nv_painter.proofs.scrolling.row_between.Goals as goal

pub loop-k-preserved : goal.loop-k-preserved
loop-k-preserved c =
    let at = c.loop-k in
    let row = c.args.row.now in
    let put : c.push.new.self.items ≡ at.cells.items ++ c.in_ok-cell.cell ∷ [] = search rules in
    ap (λ l. l ++ row_between c.args.left c.args.right c.args.source.now (at.k + 1) (drop (at.k + 1) row)) put
    ∙ cell_step c.args.left c.args.right c.args.source.now row at.k at.cells.items _ c.in_ok-cell.cell c.loop-k-test.true c.in_ok-cell.ensures at.invariant
