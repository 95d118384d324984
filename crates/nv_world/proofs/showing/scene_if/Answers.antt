use Rattle.std.proofs.Common.{◌≡◌, ℕ, ◌≤◌, ◌∙◌, sym, ap, subst, arith, Bool, Option, Some}
use Rattle.nv_windows.specs.Workspace.{Workspace}
use Rattle.nv_model.specs.Editors.{ModelEditor}
use Rattle.nv_screen.specs.declared.scene.Scene.{Scene}
use Rattle.nv_history.specs.Spoken.{ShowsEditor, ShowsIfGiven}
use Rattle.nv_history.specs.Worlds.{editor_due}
use Rattle.nv_world.specs.inside.Showings.{HasFewCells}
use Rattle.nv_world.proofs.Standings.{few_cells, shows_now}
use Rattle.nv_world.proofs.showing.scene_if.Goals as goal

pub returns-clause-shows : goal.returns-clause-shows
returns-clause-shows c = λ m stands.
    subst (λ (b : Bool). ShowsIfGiven (editor_due b m) (Some c.in_ok-held.held)) (sym c.if-not-is_due.false)
    (subst (λ (s : Scene). ShowsEditor m s) (sym c.in_ok-held.ensures)
    (shows_now c.args.editor.now m c.in_ok-scene.scene stands c.in_ok-scene.ensures.scene c.in_ok-scene.ensures.sound))

pub returns-clause-cells : goal.returns-clause-cells
returns-clause-cells c =
    subst (λ (s : Scene). HasFewCells (Some s)) (sym c.in_ok-held.ensures)
    (few_cells c.in_ok-scene.scene.width c.in_ok-scene.scene.height c.args.editor.now.stage.workspace.width c.args.editor.now.stage.workspace.height c.size-width.result.0 c.size-width.result.1
    c.in_ok-scene.ensures.scene.width c.in_ok-scene.ensures.scene.height (c.size-width.ensures.width ∙ ap (λ (ws : Workspace). ws.width) c.windows.ensures)
    (c.size-width.ensures.height ∙ ap (λ (ws : Workspace). ws.height) c.windows.ensures)
    (omega (arith, c.if-width-gt2000.false)) (omega (arith, c.if-height-gt1000.false)))
