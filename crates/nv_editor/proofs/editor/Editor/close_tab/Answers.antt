use Rattle.std.proofs.Common.{◌≡◌, ◌∙◌, ap, sym, subst, rules}
use Rattle.nv_model.specs.Stage.{Stage, in_workspace}
use Rattle.nv_model.specs.Standing.{PresentEditor}
use Rattle.nv_windows.specs.Operations.{after_tab_close}
use Rattle.nv_editor.proofs.WindowsKept.{windows_sound, tab_closed_size, tab_closed_shown}
use Rattle.nv_editor.proofs.editor.Editor.close_tab.Goals as goal

pub invariant_of-self : goal.invariant_of-self
invariant_of-self c =
    let e : PresentEditor = record { buffers = c.self.inside.buffers; stage = c.self.inside.stage } in
    let put : c.close_tab.new.self ≡ in_workspace after_tab_close e.stage = search rules in
    (windows_sound e.buffers e.stage c.close_tab.new.self after_tab_close c.self.invariant.0 put c.close_tab.ensures.sound (tab_closed_shown e.buffers e.stage.workspace c.self.invariant.0.shown) (tab_closed_size e.stage.workspace), c.self.invariant.1)
