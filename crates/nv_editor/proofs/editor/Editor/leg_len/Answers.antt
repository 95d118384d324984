use Rattle.std.proofs.Common.{◌≡◌, ℤ, ◌∙◌, ap, sym, subst, rules, to_z, of_z, w64}
use Rattle.nv_buffer.specs.Content.{Content}
use Rattle.nv_model.specs.Editors.{at_handle}
use Rattle.nv_model.specs.Standing.{PresentEditor}
use Rattle.nv_editor.specs.Sound.{content_at, content_of}
use Rattle.nv_editor.specs.inside.Kept.{AreKeptEdits}
use Rattle.nv_editor.specs.inside.Table.{IsKeptBuffer}
use Rattle.nv_editor.proofs.editor.Editor.leg_len.Goals as goal

pub returns-clause-edits : goal.returns-clause-edits
returns-clause-edits c =
    let e : to_z w64 (of_z w64 c.args.buffer) ≡ c.args.buffer = search rules in
    let n : ℤ = to_z w64 (of_z w64 c.args.buffer) in
    let here : content_at c.args.self.now c.args.buffer ≡ c.in-Some.content.now =
    sym (ap (λ (x : PresentEditor). content_at x c.args.buffer) c.self.view_is)
    ∙ ap (content_of c.args.buffer) (ap (at_handle c.self.inside.buffers) (sym e) ∙ c.in-Some.ensures) in
    let was : IsKeptBuffer c.self.inside.edited.items n c.in-Some.content.now = c.self.invariant.1 n c.in-Some.content.now c.in-Some.ensures in
    subst (λ (b : Content). AreKeptEdits b) (sym here) was.edits
