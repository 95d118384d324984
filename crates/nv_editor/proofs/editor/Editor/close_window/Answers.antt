use Rattle.std.proofs.Common.{◌≡◌, ◌∙◌, ap, sym, subst, rules}
use Rattle.nv_model.specs.Stage.{Stage, in_workspace}
use Rattle.nv_model.specs.Standing.{PresentEditor}
use Rattle.nv_windows.specs.Operations.{after_close}
use Rattle.nv_editor.proofs.WindowsKept.{windows_sound, closed_size, closed_shown}
use Rattle.nv_editor.proofs.editor.Editor.close_window.Goals as goal

pub invariant_of-self-2 : goal.invariant_of-self-2
invariant_of-self-2 c =
    let e : PresentEditor = record { buffers = c.self.inside.buffers; stage = c.self.inside.stage } in
    let put : c.close_window.new.self ≡ in_workspace (after_close c.args.window) e.stage = search rules in
    (windows_sound e.buffers e.stage c.close_window.new.self (after_close c.args.window) c.self.invariant.0 put c.close_window.ensures.sound (closed_shown e.buffers c.args.window e.stage.workspace c.self.invariant.0.shown) (closed_size c.args.window e.stage.workspace), c.self.invariant.1)
