use Rattle.std.proofs.Common.{◌≡◌, ℤ, [], ◌∷◌, ap, subst, ◌∙◌, rules, to_z, of_z, w64}
use Rattle.nv_buffer.specs.Content.{Content}
use Rattle.nv_model.specs.Buffers.{ModelBuffer}
use Rattle.nv_model.specs.Editors.{ModelEditor}
use Rattle.nv_model.specs.Operations.{modified_put}
use Rattle.nv_model.specs.Standing.{Stands}
use Rattle.nv_model.proofs.Options.{options_are_kept}
use Rattle.nv_editor.specs.Doing.{Does}
use Rattle.nv_editor.specs.inside.Table.{content_in}
use Rattle.nv_editor.proofs.StageKept.{editor_of}
use Rattle.nv_editor.proofs.Updating.{option_sound, option_kept, buffer_done, stands_as}
use Rattle.nv_editor.proofs.editor.Editor.put_modified.Goals as goal

pub invariant_of-self : goal.invariant_of-self
invariant_of-self c =
    let n : ℤ = to_z w64 (of_z w64 c.args.buffer) in
    let done = c.put_modified.ensures.buffer in (
      option_sound c.self.inside.buffers c.put_modified.new.self c.self.inside.stage n c.self.invariant.0 c.put_modified.ensures.updated (ap (λ (b : Content). b.text) done) (ap (λ (b : Content). b.marks) done),
      option_kept c.self.inside.edited.items c.self.inside.buffers c.put_modified.new.self n c.self.invariant.1 c.put_modified.ensures.updated (ap (λ (b : Content). b.undo) done) (ap (λ (b : Content). b.unsealed) done),
    )

pub returns : goal.returns
returns c =
    let e : to_z w64 (of_z w64 c.args.buffer) ≡ c.args.buffer = search rules in
    subst (λ (n : ℤ). Does (modified_put n c.args.on ∷ []) c.args.self.now (editor_of c.put_modified.new.self c.self.inside.stage)) e
    (buffer_done c.self.inside.buffers c.put_modified.new.self c.self.inside.stage c.args.self.now (to_z w64 (of_z w64 c.args.buffer)) (λ (x : ModelBuffer). record x { modified = c.args.on })
    c.self.view_is c.put_modified.ensures.updated
    (λ x stands. stands_as (content_in c.put_modified.new.self (to_z w64 (of_z w64 c.args.buffer))) (record (content_in c.self.inside.buffers (to_z w64 (of_z w64 c.args.buffer))) { modified = c.args.on }) (record x { modified = c.args.on }) c.put_modified.ensures.buffer (options_are_kept.modified (content_in c.self.inside.buffers (to_z w64 (of_z w64 c.args.buffer))) x c.args.on stands)))
