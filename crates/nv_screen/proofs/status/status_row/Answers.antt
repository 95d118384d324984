use Rattle.std.proofs.Common.{◌≡◌, ◌+◌, ◌-◌, ◌∙◌, ◌++◌, length, take, replicate, rules}
use Rattle.nv_hl.specs.Cells.{space}
use Rattle.nv_linedraw.specs.LineCells.{cells_in_one_row}
use Rattle.nv_screen.specs.Drawing.{bar_attr, cells_up_to}
use Rattle.nv_screen.proofs.StatusLemmas.{status_is}
use Rattle.nv_screen.proofs.status.status_row.Goals as goal

pub returns : goal.returns
returns c =
    let p = c.args.pane.now in
    let w = p.rect.width in
    let attr = bar_attr c.args.bars.now p.current in
    let most : c.in-Some.most ≡ w + 1 = search rules in
    let same : c.bar_attr-attr.result ≡ attr = c.bar_attr-attr.ensures in
    let first : c.in_ok-cells.cells.items ≡ take (w + 1) (cells_in_one_row p.tabstop attr p.status) =
    c.in_ok-cells.ensures ∙ (λ i. take (most i) (cells_in_one_row p.tabstop (same i) (c.as_slice-text.ensures.value i))) in
    let cut = c.cut_cells.new.cells.items in
    let left : c.saturating_sub-left.result ≡ w - length cut = search rules in
    c.in_ok-pad.ensures
    ∙ (λ i. cut ++ replicate (left i) (space (same i)))
    ∙ status_is w attr (cells_in_one_row p.tabstop attr p.status) c.in_ok-cells.cells.items cut first c.cut_cells.ensures
