use Rattle.std.proofs.Common.{◌≡◌, ◌<◌, ◌∙◌, List, ap, get_or, length, rules, subst}
use Rattle.nv_screen.specs.declared.scene.Pane.{Pane}
use Rattle.nv_screen.specs.Drawing.{drawn_rows}
use Rattle.nv_screen.proofs.SteadyLemmas.{empty_list}
use Rattle.nv_painter.proofs.LentLemmas.{wide_rows_are}
use Rattle.nv_painter.proofs.lent.lent_rows.Goals as goal

pub loop-pane-preserved : goal.loop-pane-preserved
loop-pane-preserved c =
    let at = c.loop-pane in
    let s = c.args.scene.now in
    let p = c.pane-item.result in
    let n = at.pane-index in
    let panes = c.as_slice-pane-items.ensures.value in
    let none : length s.patches.items ≡ 0 = search rules in
    let lt = subst (λ (ps : List Pane). n < length ps) panes c.loop-pane-test.true in
    let there = c.pane-item.is ∙ ap (λ (ps : List Pane). get_or ps n p) panes in
    record {
      count = c.lend_wide.ensures.count ∙ at.invariant.count;
      lent = c.lend_wide.ensures.lent (drawn_rows s)
          (λ col width k below. wide_rows_are s c.requires (empty_list s.patches.items none) n p p lt there col width k below)
          at.invariant.lent;
      lines = c.lend_wide.ensures.lines at.invariant.lines;
    }
