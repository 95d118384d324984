use Rattle.std.proofs.Common.{◌≡◌, ℤ, List, [], map, take, sym, ap, subst, ◌∙◌, rules}
use Rattle.nv_model.specs.Editors.{handles_of}
use Rattle.nv_model.specs.Operations.{sealed_in}
use Rattle.nv_model.specs.Standing.{PresentEditor}
use Rattle.nv_editor.specs.Doing.{Does}
use Rattle.nv_editor.specs.Sound.{AllSealed}
use Rattle.nv_editor.specs.inside.Table.{AreKeptBuffers}
use Rattle.nv_editor.proofs.StageKept.{editor_of}
use Rattle.nv_editor.proofs.Seals.{sealed_sound, sealed_done, sealed_all, kept_none}
use Rattle.nv_editor.proofs.editor.Editor.seal_all.Goals as goal

pub invariant_of-self : goal.invariant_of-self
invariant_of-self c = (
  sealed_sound (take c.seal_each.ensures.partly.0 c.as_slice.result.now) c.self.inside.buffers c.seal_each.new.self c.self.inside.stage c.seal_each.ensures.partly.1 c.self.invariant.0,
  subst (λ (l : List ℤ). AreKeptBuffers l c.seal_each.new.self) c.as_slice.ensures.value c.seal_each.ensures.kept,
)

pub invariant_of-self-2 : goal.invariant_of-self-2
invariant_of-self-2 c =
    let kept = subst (λ (l : List ℤ). AreKeptBuffers l c.self.inside.buffers) (sym c.as_slice.ensures.value) c.self.invariant.1 in (
      sealed_sound c.as_slice.result.now c.self.inside.buffers c.seal_each.new.self c.self.inside.stage c.in_ok-seal_each.ensures.ok c.self.invariant.0,
      subst (λ (l : List ℤ). AreKeptBuffers l c.seal_each.new.self) (sym c.clear.ensures.items)
          (kept_none c.as_slice.result.now c.self.inside.buffers c.seal_each.new.self c.in_ok-seal_each.ensures.ok kept c.seal_each.ensures.kept),
    )

pub returns-clause-done : goal.returns-clause-done
returns-clause-done c =
    let kept = subst (λ (l : List ℤ). AreKeptBuffers l c.self.inside.buffers) (sym c.as_slice.ensures.value) c.self.invariant.1 in
    subst (λ (e : PresentEditor). Does (map sealed_in (handles_of e.buffers)) e (editor_of c.seal_each.new.self c.self.inside.stage)) c.self.view_is
    (sealed_done c.as_slice.result.now c.self.inside.buffers c.seal_each.new.self c.self.inside.stage kept c.in_ok-seal_each.ensures.ok)

pub returns-clause-sealed : goal.returns-clause-sealed
returns-clause-sealed c =
    let kept = subst (λ (l : List ℤ). AreKeptBuffers l c.self.inside.buffers) (sym c.as_slice.ensures.value) c.self.invariant.1 in
    sealed_all c.as_slice.result.now c.self.inside.buffers c.seal_each.new.self c.self.inside.stage c.in_ok-seal_each.ensures.ok kept c.self.invariant.0

pub seal_each-requires : goal.seal_each-requires
seal_each-requires c = subst (λ (l : List ℤ). AreKeptBuffers l c.self.inside.buffers) (sym c.as_slice.ensures.value) c.self.invariant.1
