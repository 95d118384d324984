-- An editor whose stage alone changes.
use Rattle.std.proofs.Common.{◌≡◌, ℤ, pos, ◌+ℤ◌, ◌<ℤ◌, ◌≤ℤ◌, List, sym, subst, All}
use Rattle.nv_buffer.specs.Content.{Content}
use Rattle.nv_windows.specs.Rooms.{last_handle}
use Rattle.nv_windows.specs.Sound.{IsSoundWorkspace}
use Rattle.nv_windows.specs.declared.window.Window.{Window}
use Rattle.nv_model.specs.Editors.{ModelEditor, at_handle, handles_of}
use Rattle.nv_model.specs.Operations.{with_stage}
use Rattle.nv_model.specs.Stage.{Stage}
use Rattle.nv_model.specs.Standing.{PresentEditor, Stands}
use Rattle.nv_model.proofs.Changing.{stage_update_is_kept}
use Rattle.nv_editor.specs.Sound.{IsSoundEditor, ShowsBuffer, IsOfGroups}
use Rattle.nv_editor.specs.Uis.{AreSoundUis}

-- an editor of these buffers and this stage
abbrev pub editor_of : List (ℤ × Content) → Stage → PresentEditor
editor_of buffers stage = record { buffers = buffers; stage = stage }

-- its stage updated, it goes on standing for the model
pub stage_done : (buffers : List (ℤ × Content)) (stage new : Stage) (old : PresentEditor) (update : Stage → Stage)
    → editor_of buffers stage ≡ old → new ≡ update stage
    → (m : ModelEditor) → Stands old m → Stands (editor_of buffers new) (with_stage update m)
stage_done buffers stage new old update is put m stands =
    subst (λ (s : Stage). Stands (editor_of buffers s) (with_stage update m)) (sym put)
    (stage_update_is_kept (editor_of buffers stage) update m (subst (λ (e : PresentEditor). Stands e m) (sym is) stands))

-- what a new stage keeps to
pub record IsStageSound (buffers : List (ℤ × Content)) (stage : Stage) : Type 0 where
  pub workspace : IsSoundWorkspace stage.workspace
  pub shown : All (λ (w : Window). ShowsBuffer (at_handle buffers w.buffer) w) stage.workspace.windows
  pub painted : All (λ (b : ℤ × Content). All (IsOfGroups stage.groups) b.1.marks.marks) buffers
  pub uis : AreSoundUis stage.uis stage.workspace.width stage.workspace.height

-- it stays sound
pub stage_sound : (buffers : List (ℤ × Content)) (stage new : Stage) → IsSoundEditor (editor_of buffers stage)
    → new.next_buffer ≡ stage.next_buffer → IsStageSound buffers new → IsSoundEditor (editor_of buffers new)
stage_sound buffers stage new sound next is = record {
  workspace = is.workspace;
  rising = sound.rising;
  below = subst (λ (n : ℤ). All (λ k. k <ℤ n) (handles_of buffers)) (sym next) sound.below;
  next_buffer = subst (λ (n : ℤ). (pos 1 ≤ℤ n) × (n ≤ℤ (last_handle +ℤ pos 1))) (sym next) sound.next_buffer;
  shown = is.shown;
  painted = is.painted;
  uis = is.uis;
}
