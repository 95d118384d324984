use Rattle.std.proofs.Common.{◌≡◌, ◌∙◌, arith, rules}
use Rattle.nv_screen.specs.Drawing.{pane_rows, pane_screen, with_rows}
use Rattle.nv_hl.specs.Cells.{blank_rows, blank_screen}
use Rattle.nv_screen.proofs.ShapeLemmas.{over_blank, pane-shaped}
use Rattle.nv_screen.proofs.drawing.pane_grid.Goals as goal

pub returns : goal.returns
returns c =
    let p = c.args.pane.now in
    let looks = c.args.looks.now in
    let shape = pane-shaped looks p c.requires.drawable in
    let laid : c.lay_text.new.canvas ≡ record (blank_screen p.rect.width c.args.rows) { rows = with_rows (blank_rows p.rect.width c.args.rows) 0 0 (pane_rows looks p) } =
    search rules in
    c.in_ok-grid.ensures ∙ laid ∙ (λ i. record (pane_screen looks p c.args.rows) { rows = over_blank p.rect.width c.args.rows (pane_rows looks p) shape.wide (omega (arith, shape.high, c.requires.rows)) i })
