use Rattle.std.proofs.Common.{◌≡◌, ℕ, ℤ, List, All, Option, sym, ap, subst, ◌∙◌, rules, to_z, of_z, w64}
use Rattle.nv_buffer.specs.Content.{Content}
use Rattle.nv_windows.specs.Views.{MovesNarrowlyIn}
use Rattle.nv_model.specs.Editors.{at_handle}
use Rattle.nv_model.specs.Stage.{Stage}
use Rattle.nv_editor.specs.Sound.{content_of}
use Rattle.nv_editor.specs.inside.Table.{content_in}
use Rattle.nv_editor.specs.inside.Views.{move_by}
use Rattle.nv_editor.proofs.views.carry_views.Goals as goal

pub move_views-requires-clause-moved : goal.move_views-requires-clause-moved
move_views-requires-clause-moved c =
    let e : to_z w64 (of_z w64 c.args.buffer) ≡ c.args.buffer = search rules in
    let text : (content_in c.args.buffers.now c.args.buffer).text ≡ c.text.result.now =
    ap (λ (o : Option Content). (content_of c.args.buffer o).text) (ap (at_handle c.args.buffers.now) (sym e) ∙ c.in-Some.ensures) ∙ sym c.text.ensures.value in
    subst (λ (n : ℤ). All (MovesNarrowlyIn n (move_by c.args.edit.now c.text.result.now)) c.stage.inside.windows.windows) (sym e)
    (subst (λ (t : List (List ℕ)). All (MovesNarrowlyIn c.args.buffer (move_by c.args.edit.now t)) c.stage.inside.windows.windows) text
    (subst (λ (s : Stage). All (MovesNarrowlyIn c.args.buffer (move_by c.args.edit.now (content_in c.args.buffers.now c.args.buffer).text)) s.workspace.windows) (sym c.stage.view_is) c.requires.moved))
