use Rattle.std.proofs.Common.{◌≡◌, ap, sym, ◌∙◌, rules, to_z, of_z, w64}
use Rattle.nv_windows.specs.Workspace.{Workspace, current_window, window_at}
use Rattle.nv_scene.proofs.Living.{current_there}
use Rattle.nv_scene.proofs.scenes.current_window.Goals as goal

pub unreachable-requires : goal.unreachable-requires
unreachable-requires c =
    let ws : Workspace = c.args.editor.now.stage.workspace in
    let e : to_z w64 (of_z w64 c.current_window.result) ≡ c.current_window.result = search rules in
    let handle : to_z w64 (of_z w64 c.current_window.result) ≡ current_window ws = e ∙ c.current_window.ensures ∙ ap current_window c.windows-windows.ensures in
    current_there ws c.known.ensures.workspace (sym (λ i. window_at (c.windows-windows.ensures i) (handle i)) ∙ sym c.in-None.ensures)

pub returns : goal.returns
returns c =
    let ws : Workspace = c.args.editor.now.stage.workspace in
    let e : to_z w64 (of_z w64 c.current_window.result) ≡ c.current_window.result = search rules in
    let handle : to_z w64 (of_z w64 c.current_window.result) ≡ current_window ws = e ∙ c.current_window.ensures ∙ ap current_window c.windows-windows.ensures in
    sym (λ i. window_at (c.windows-windows.ensures i) (handle i)) ∙ sym c.in-Some.ensures
