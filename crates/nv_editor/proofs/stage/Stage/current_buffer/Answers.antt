use Rattle.std.proofs.Common.{◌≡◌, ◌∙◌, sym, ap, rules, to_z, of_z, w64, Some}
use Rattle.std.specs.Option.{option_copied}
use Rattle.nv_windows.specs.Workspace.{current_buffer}
use Rattle.nv_editor.proofs.Staging.{shown_by}
use Rattle.nv_model.specs.Stage.{Stage}
use Rattle.nv_editor.proofs.stage.Stage.current_buffer.Goals as goal

pub returns-in-Some : goal.returns-in-Some
returns-in-Some c =
    let e : to_z w64 (of_z w64 c.current_window.result) ≡ c.current_window.result = search rules in
    let f : to_z w64 (of_z w64 c.in-Some.window.now.buffer) ≡ c.in-Some.window.now.buffer = search rules in
    f ∙ shown_by c.self.inside.windows (to_z w64 (of_z w64 c.current_window.result)) (Some c.in-Some.window.now) (e ∙ c.current_window.ensures) (ap option_copied (sym c.in-Some.is) ∙ c.find.ensures)
    ∙ ap (λ (s : Stage). current_buffer s.workspace) c.self.view_is
