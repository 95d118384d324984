-- A live window shows a live buffer.
use Rattle.std.proofs.Common.{◌≡◌, ℤ, All, Option, Some, None, subst}
use Rattle.std.specs.Ordering.{int_eq}
use Rattle.nv_buffer.specs.Content.{Content}
use Rattle.nv_windows.specs.Workspace.{window_at}
use Rattle.nv_windows.specs.declared.window.Window.{Window}
use Rattle.nv_model.specs.Editors.{at_handle}
use Rattle.nv_model.specs.Standing.{PresentEditor}
use Rattle.nv_editor.specs.Sound.{IsOfGroups, IsSoundEditor, ShowsBuffer, ShowsText}
use Rattle.nv_editor.proofs.Updating.{looked_up}
use Rattle.nv_scene.proofs.Areas.{all_found}

pub window_shows : (e : PresentEditor) (n : ℤ) (w : Window) → IsSoundEditor e → window_at e.stage.workspace n ≡ Some w → ShowsBuffer (at_handle e.buffers w.buffer) w
window_shows e n w sound found =
    all_found (λ (v : Window). ShowsBuffer (at_handle e.buffers v.buffer) v) (λ (v : Window). int_eq v.handle n) e.stage.workspace.windows w sound.shown found

pub never_dead : (e : PresentEditor) (n : ℤ) (w : Window) → IsSoundEditor e → window_at e.stage.workspace n ≡ Some w → at_handle e.buffers w.buffer ≡ None → ⊥
never_dead e n w sound found none = subst (λ (o : Option Content). ShowsBuffer o w) none (window_shows e n w sound found)

pub shows_text : (e : PresentEditor) (n : ℤ) (w : Window) (b : Content) → IsSoundEditor e → window_at e.stage.workspace n ≡ Some w → at_handle e.buffers w.buffer ≡ Some b
    → ShowsText b.text w
shows_text e n w b sound found there = subst (λ (o : Option Content). ShowsBuffer o w) there (window_shows e n w sound found)

pub text_painted : (e : PresentEditor) (n : ℤ) (b : Content) → IsSoundEditor e → at_handle e.buffers n ≡ Some b → All (IsOfGroups e.stage.groups) b.marks.marks
text_painted e n b sound there = looked_up (λ (c : Content). All (IsOfGroups e.stage.groups) c.marks.marks) e.buffers n b sound.painted there
