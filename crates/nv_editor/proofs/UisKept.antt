-- An editor whose UIs change goes on standing for the model, and stays sound.
use Rattle.std.proofs.Common.{◌≡◌, ℕ, ℤ, Bool, true, false, cond, List, [], ◌∷◌, All, refl, sym, ap, subst, ◌∙◌}
use Rattle.nv_buffer.specs.Content.{Content}
use Rattle.nv_windows.specs.Sound.{IsSoundWorkspace}
use Rattle.nv_windows.specs.declared.window.Window.{Window}
use Rattle.nv_model.specs.Editors.{ModelEditor, at_handle}
use Rattle.nv_model.specs.Operations.{uis_dropped, after_operations}
use Rattle.nv_model.specs.Stage.{Stage, other_uis, ui_among, with_uis}
use Rattle.nv_model.specs.Standing.{PresentEditor, Stands}
use Rattle.nv_model.specs.declared.parts.Ui.{Ui}
use Rattle.nv_model.proofs.Changing.{stage_update_is_kept}
use Rattle.nv_editor.specs.Doing.{Does}
use Rattle.nv_editor.specs.Sound.{IsSoundEditor, ShowsBuffer, IsOfGroups}
use Rattle.nv_editor.specs.Uis.{AreSoundUis, HasScreenSize, has_ui}
use Rattle.nv_editor.proofs.StageKept.{editor_of, stage_sound}
use Rattle.nv_editor.proofs.UiSizes.{drop_sound, none_dropped, put_sound}

-- what else a stage has stays where it gets other UIs
same_next : (us : List Ui) (stage : Stage) → (with_uis us stage).next_buffer ≡ stage.next_buffer
same_next [] stage = refl
same_next (u ∷ us) stage = refl

same_shown : (buffers : List (ℤ × Content)) (us : List Ui) (stage : Stage)
    → All (λ (w : Window). ShowsBuffer (at_handle buffers w.buffer) w) stage.workspace.windows
    → All (λ (w : Window). ShowsBuffer (at_handle buffers w.buffer) w) (with_uis us stage).workspace.windows
same_shown buffers [] stage are = are
same_shown buffers (u ∷ us) stage are = are

same_painted : (buffers : List (ℤ × Content)) (us : List Ui) (stage : Stage)
    → All (λ (b : ℤ × Content). All (IsOfGroups stage.groups) b.1.marks.marks) buffers
    → All (λ (b : ℤ × Content). All (IsOfGroups (with_uis us stage).groups) b.1.marks.marks) buffers
same_painted buffers [] stage are = are
same_painted buffers (u ∷ us) stage are = are

uis_sound : (buffers : List (ℤ × Content)) (stage new : Stage) (us : List Ui) → IsSoundEditor (editor_of buffers stage) → new ≡ with_uis us stage
    → IsSoundWorkspace new.workspace
    → AreSoundUis (with_uis us stage).uis (with_uis us stage).workspace.width (with_uis us stage).workspace.height → IsSoundEditor (editor_of buffers new)
uis_sound buffers stage new us sound put workspace uis =
    subst (λ (s : Stage). IsSoundEditor (editor_of buffers s)) (sym put)
    (stage_sound buffers stage (with_uis us stage) sound (same_next us stage) (record {
      workspace = subst (λ (s : Stage). IsSoundWorkspace s.workspace) put workspace;
      shown = same_shown buffers us stage sound.shown;
      painted = same_painted buffers us stage sound.painted;
      uis = uis;
    }))

pub ui_put_sound : (buffers : List (ℤ × Content)) (stage new : Stage) (ui : Ui) → HasScreenSize ui → IsSoundEditor (editor_of buffers stage)
    → new ≡ with_uis (ui_among ui stage.uis) stage → IsSoundWorkspace new.workspace → IsSoundEditor (editor_of buffers new)
ui_put_sound buffers stage new ui narrow sound put workspace =
    uis_sound buffers stage new (ui_among ui stage.uis) sound put workspace (put_sound ui stage narrow sound.uis)

pub uis_dropped_sound : (buffers : List (ℤ × Content)) (stage new : Stage) (sessions : List ℕ) → IsSoundEditor (editor_of buffers stage)
    → new ≡ with_uis (other_uis sessions stage.uis) stage → IsSoundWorkspace new.workspace → IsSoundEditor (editor_of buffers new)
uis_dropped_sound buffers stage new sessions sound put workspace =
    uis_sound buffers stage new (other_uis sessions stage.uis) sound put workspace (drop_sound sessions stage sound.uis)

-- ---- what is done
uis_dropped_done : (e : PresentEditor) (new : Stage) (sessions : List ℕ) → new ≡ with_uis (other_uis sessions e.stage.uis) e.stage
    → Does (uis_dropped sessions ∷ []) e (record e { stage = new })
uis_dropped_done e new sessions put m stands =
    subst (λ (s : Stage). Stands (record e { stage = s }) (after_operations (uis_dropped sessions ∷ []) m)) (sym put)
    (stage_update_is_kept e (λ s. with_uis (other_uis sessions s.uis) s) m stands)

pub none_dropped_done : (e : PresentEditor) (session : ℕ) → IsSoundEditor e → has_ui session e.stage.uis ≡ false
    → Does (uis_dropped (session ∷ []) ∷ []) e e
none_dropped_done e session sound none =
    uis_dropped_done e e.stage (session ∷ []) (sym (none_dropped session e.stage sound.uis none))
