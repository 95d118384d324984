use Rattle.std.proofs.Common.{◌≡◌, ◌<◌, ℤ, ◌∙◌, List, [], ◌∷◌, ap, sym, subst, rules, to_z, of_z, w64}
use Rattle.nv_buffer.specs.Content.{Content}
use Rattle.nv_buffer.specs.Marks.{IsMarkIn}
use Rattle.nv_model.specs.Keeping.{most_settings}
use Rattle.nv_model.specs.Operations.{mark_set}
use Rattle.nv_model.specs.Standing.{PresentEditor}
use Rattle.nv_editor.specs.Doing.{Does}
use Rattle.nv_editor.specs.Sound.{content_at, IsOfGroups}
use Rattle.nv_editor.specs.inside.Table.{content_in}
use Rattle.nv_editor.proofs.EditsMade.{stayed_sound, stayed_kept}
use Rattle.nv_editor.proofs.MarksDone.{marks_kept, mark_sound, mark_done, unchanged_is}
use Rattle.nv_editor.proofs.StageKept.{editor_of}
use Rattle.nv_editor.proofs.editor.Editor.set_mark.Goals as goal

pub invariant_of-self : goal.invariant_of-self
invariant_of-self c =
    let n : ℤ = to_z w64 (of_z w64 c.args.buffer) in (
      stayed_sound c.self.inside.buffers c.set_mark.new.self c.self.inside.stage n c.self.invariant.0 c.in_err-set_mark.ensures.updated
          c.in_err-set_mark.ensures.err,
      stayed_kept c.self.inside.edited.items c.self.inside.edited.items c.self.inside.buffers c.set_mark.new.self n c.self.invariant.1
          c.in_err-set_mark.ensures.updated (λ k outside. outside) c.in_err-set_mark.ensures.err,
    )

pub invariant_of-self-2 : goal.invariant_of-self-2
invariant_of-self-2 c =
    let n : ℤ = to_z w64 (of_z w64 c.args.buffer) in
    let of = subst (λ (x : PresentEditor). IsOfGroups x.stage.groups c.args.mark) (sym c.self.view_is) c.requires.group in (
      mark_sound c.self.inside.buffers c.set_mark.new.self c.self.inside.stage n c.in_ok-set_mark.ensures.updated c.in_ok-set_mark.ensures.rest
          c.args.mark c.self.invariant.0 c.in_ok-set_mark.ensures.marks of,
      marks_kept c.self.inside.buffers c.set_mark.new.self c.self.inside.stage n c.in_ok-set_mark.ensures.updated c.in_ok-set_mark.ensures.rest
          c.self.inside.edited.items c.self.invariant.1,
    )

pub returns-in_err-set_mark-clause-err : goal.returns-in_err-set_mark-clause-err
returns-in_err-set_mark-clause-err c =
    let n : ℤ = to_z w64 (of_z w64 c.args.buffer) in
    let same : c.set_mark.new.self ≡ c.self.inside.buffers =
    unchanged_is c.self.inside.buffers c.set_mark.new.self n c.self.invariant.0.rising c.in_err-set_mark.ensures.updated c.in_err-set_mark.ensures.err in
    let whole : editor_of c.set_mark.new.self c.self.inside.stage ≡ c.args.self.now =
    ap (λ (bs : List (ℤ × Content)). editor_of bs c.self.inside.stage) same ∙ c.self.view_is in
    search (rules, whole)

pub returns-clause-done : goal.returns-clause-done
returns-clause-done c =
    let e : to_z w64 (of_z w64 c.args.buffer) ≡ c.args.buffer = search rules in
    let n : ℤ = to_z w64 (of_z w64 c.args.buffer) in
    let within : IsMarkIn (content_in c.self.inside.buffers n).text c.args.mark =
    subst (λ (k : ℤ). IsMarkIn (content_in c.self.inside.buffers k).text c.args.mark) (sym e)
    (subst (λ (x : PresentEditor). IsMarkIn (content_at x c.args.buffer).text c.args.mark) (sym c.self.view_is) c.requires.places) in
    let few : (content_in c.self.inside.buffers n).marks.settings < most_settings =
    subst (λ (k : ℤ). (content_in c.self.inside.buffers k).marks.settings < most_settings) (sym e)
    (subst (λ (x : PresentEditor). (content_at x c.args.buffer).marks.settings < most_settings) (sym c.self.view_is) c.requires.few) in
    subst (λ (k : ℤ). Does (mark_set k c.args.mark ∷ []) c.args.self.now (editor_of c.set_mark.new.self c.self.inside.stage)) e
    (mark_done c.self.inside.buffers c.set_mark.new.self c.self.inside.stage n c.in_ok-set_mark.ensures.updated c.in_ok-set_mark.ensures.rest
    c.args.self.now c.args.mark c.self.view_is c.in_ok-set_mark.ensures.marks within c.requires.shown few)

pub returns-clause-stage : goal.returns-clause-stage
returns-clause-stage c = ap (λ (x : PresentEditor). x.stage) c.self.view_is
