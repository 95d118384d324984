use Rattle.std.proofs.Common.{◌≡◌, ◌∙◌, ap, sym, subst, rules, refl}
use Rattle.nv_model.specs.Stage.{Stage, in_workspace}
use Rattle.nv_model.specs.Standing.{PresentEditor}
use Rattle.nv_windows.specs.Operations.{with_top}
use Rattle.nv_editor.proofs.WindowsKept.{windows_sound, top_shown}
use Rattle.nv_editor.proofs.editor.Editor.put_top.Goals as goal

pub invariant_of-self : goal.invariant_of-self
invariant_of-self c =
    let e : PresentEditor = record { buffers = c.self.inside.buffers; stage = c.self.inside.stage } in
    let put : c.put_top.new.self ≡ in_workspace (with_top c.args.window c.args.row) e.stage = search rules in
    (windows_sound e.buffers e.stage c.put_top.new.self (with_top c.args.window c.args.row) c.self.invariant.0 put c.put_top.ensures.sound (top_shown e e.stage.workspace c.args.window c.args.row c.self.invariant.0.workspace c.self.invariant.0.shown (search rules)) (refl, refl), c.self.invariant.1)
