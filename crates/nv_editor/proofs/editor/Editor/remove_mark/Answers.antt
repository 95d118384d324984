use Rattle.std.proofs.Common.{◌≡◌, ℤ, ◌∙◌, [], ◌∷◌, ap, subst, rules, to_z, of_z, w64}
use Rattle.nv_marks.specs.Marks.{mark_at}
use Rattle.nv_model.specs.Operations.{mark_removed}
use Rattle.nv_model.specs.Standing.{PresentEditor}
use Rattle.nv_editor.specs.Doing.{Does}
use Rattle.nv_editor.specs.Sound.{content_at}
use Rattle.nv_editor.specs.inside.Table.{content_in}
use Rattle.nv_editor.proofs.MarksDone.{marks_kept, unmark_sound, unmark_done}
use Rattle.nv_editor.proofs.StageKept.{editor_of}
use Rattle.nv_editor.proofs.editor.Editor.remove_mark.Goals as goal

pub invariant_of-self : goal.invariant_of-self
invariant_of-self c =
    let n : ℤ = to_z w64 (of_z w64 c.args.buffer) in (
      unmark_sound c.self.inside.buffers c.remove_mark.new.self c.self.inside.stage n c.remove_mark.ensures.updated c.remove_mark.ensures.rest
          c.args.ns c.args.id c.self.invariant.0 c.remove_mark.ensures.marks,
      marks_kept c.self.inside.buffers c.remove_mark.new.self c.self.inside.stage n c.remove_mark.ensures.updated c.remove_mark.ensures.rest
          c.self.inside.edited.items c.self.invariant.1,
    )

pub returns-clause-taken : goal.returns-clause-taken
returns-clause-taken c =
    let e : to_z w64 (of_z w64 c.args.buffer) ≡ c.args.buffer = search rules in
    let n : ℤ = to_z w64 (of_z w64 c.args.buffer) in
    c.remove_mark.ensures.taken
    ∙ ap (λ (k : ℤ). mark_at (content_in c.self.inside.buffers k).marks.marks c.args.ns c.args.id) e
    ∙ ap (λ (x : PresentEditor). mark_at (content_at x c.args.buffer).marks.marks c.args.ns c.args.id) c.self.view_is

pub returns-clause-done : goal.returns-clause-done
returns-clause-done c =
    let e : to_z w64 (of_z w64 c.args.buffer) ≡ c.args.buffer = search rules in
    let n : ℤ = to_z w64 (of_z w64 c.args.buffer) in
    subst (λ (k : ℤ). Does (mark_removed k c.args.ns c.args.id ∷ []) c.args.self.now (editor_of c.remove_mark.new.self c.self.inside.stage)) e
    (unmark_done c.self.inside.buffers c.remove_mark.new.self c.self.inside.stage n c.remove_mark.ensures.updated c.remove_mark.ensures.rest
    c.args.self.now c.args.ns c.args.id c.self.view_is c.remove_mark.ensures.marks)
