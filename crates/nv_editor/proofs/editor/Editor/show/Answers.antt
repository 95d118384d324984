use Rattle.std.proofs.Common.{◌≡◌, ◌∙◌, ◌<◌, length, sym, subst, rules, w64, refl}
use Rattle.std.proofs.lemmas.Int.{to_z-of_z}
use mir.Val.{to_z, of_z}
use Rattle.nv_editor.specs.Sound.{content_of, content_at}
use Rattle.nv_model.specs.Editors.{at_handle}
use Rattle.nv_model.specs.Stage.{Stage, in_workspace}
use Rattle.nv_model.specs.Standing.{PresentEditor}
use Rattle.nv_windows.specs.Operations.{with_buffer_in}
use Rattle.nv_editor.proofs.WindowsKept.{windows_sound, buffer_shown}
use Rattle.nv_editor.proofs.editor.Editor.show.Goals as goal

pub invariant_of-self : goal.invariant_of-self
invariant_of-self c =
    let e : PresentEditor = record { buffers = c.self.inside.buffers; stage = c.self.inside.stage } in
    let put : c.show.new.self ≡ in_workspace (with_buffer_in c.args.window c.args.buffer) e.stage =
    c.show.ensures.put
    ∙ (λ i. in_workspace (with_buffer_in (to_z-of_z w64 c.args.window c.ranges.window i) (to_z-of_z w64 c.args.buffer c.ranges.buffer i)) c.self.inside.stage) in
    let some : 0 < length (content_of c.args.buffer (at_handle c.self.inside.buffers c.args.buffer)).text =
    subst (λ n. 0 < length (content_of n (at_handle c.self.inside.buffers n)).text) (to_z-of_z w64 c.args.buffer c.ranges.buffer)
    (subst (λ (x : PresentEditor). 0 < length (content_at x (to_z w64 (of_z w64 c.args.buffer))).text) (sym c.self.view_is) c.known_text.ensures) in
    (windows_sound e.buffers e.stage c.show.new.self (with_buffer_in c.args.window c.args.buffer) c.self.invariant.0 put c.show.ensures.sound (buffer_shown e.buffers c.args.window c.args.buffer e.stage.workspace c.self.invariant.0.shown (search rules) some) (refl, refl), c.self.invariant.1)
