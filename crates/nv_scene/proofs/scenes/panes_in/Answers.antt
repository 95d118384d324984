use Rattle.std.proofs.Common.{◌≡◌, ◌++◌, ◌∷◌, [], ◌<◌, pos, All, List, get_or, sym, subst, arith, rules, to_z, of_z, w64}
use Rattle.std.proofs.lemmas.List.Elements.{All-push}
use Rattle.nv_layout.specs.declared.nodes.Placed.{Placed}
use Rattle.nv_layout.specs.declared.nodes.Rect.{Rect}
use Rattle.nv_windows.specs.Rooms.{without_status}
use Rattle.nv_screen.specs.declared.scene.Pane.{Pane}
use Rattle.nv_model.specs.Standing.{seen_now}
use Rattle.nv_scene.specs.Panes.{IsPaneIn}
use Rattle.nv_scene.specs.Scenes.{ArePanesIn}
use Rattle.nv_scene.specs.Separators.{no_cells}
use Rattle.nv_scene.proofs.PanesStep.{panes_end, panes_step}
use Rattle.nv_scene.proofs.scenes.panes_in.Goals as goal

pub loop-at-preserved : goal.loop-at-preserved
loop-at-preserved c =
    let none : Placed = record { window = pos 0; rect = no_cells } in
    let at : Placed = get_or c.args.placed.now c.loop-at.at-index none in
    let e : to_z w64 (of_z w64 at.window) ≡ at.window = search rules in
    let pane : IsPaneIn (seen_now c.args.editor.now) at.window (without_status at.rect) c.in_ok-pane.pane =
    subst (λ (r : Rect). IsPaneIn (seen_now c.args.editor.now) at.window r c.in_ok-pane.pane) c.without_status.ensures
    (subst (λ n. IsPaneIn (seen_now c.args.editor.now) n c.without_status.result c.in_ok-pane.pane) e c.in_ok-pane.ensures.pane) in
    let pushed : c.push.new.self.items ≡ c.loop-at.panes.items ++ c.in_ok-pane.pane ∷ [] = c.in_ok-push.ensures.items in (
      λ more are.
          subst (λ (ps : List Pane). ArePanesIn (seen_now c.args.editor.now) c.args.placed.now (ps ++ more)) (sym pushed)
          (panes_step (seen_now c.args.editor.now) c.args.placed.now c.loop-at.at-index none c.loop-at.panes.items c.in_ok-pane.pane c.loop-at-test.true
          c.loop-at.invariant.0 pane more are),
      subst (All (λ (p : Pane). 0 < p.tabstop)) (sym pushed)
          (All-push (λ (p : Pane). 0 < p.tabstop) c.loop-at.panes.items c.in_ok-pane.pane c.loop-at.invariant.1 c.in_ok-pane.ensures.stop),
    )

pub returns-clause-panes : goal.returns-clause-panes
returns-clause-panes c =
    panes_end (seen_now c.args.editor.now) c.args.placed.now c.loop-at.at-index c.loop-at.panes.items (omega (arith, c.loop-at-test.false)) c.loop-at.invariant.0
