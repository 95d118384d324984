-- What is found under a handle is live.
use Rattle.std.proofs.Common.{◌≡◌, ◌∙◌, refl, sym, ap, subst, ℤ, ◌<ℤ◌, ◌+ℤ◌, ◌≢◌, Bool, true, false, cond, List, [], ◌∷◌, Some, None, arith}
use Rattle.std.specs.Prelude.{pos, find, is_some, All, if◌then◌else◌}
use Rattle.std.specs.Ordering.{int_eq}
use Rattle.std.proofs.lemmas.Int.{ints}
use Rattle.std.proofs.lemmas.List.Elements.{All-head, All-tail}
use Rattle.nv_windows.specs.Workspace.{Page, Workspace, window_at, tabpage_at, is_live_tabpage}
use Rattle.nv_windows.specs.Sound.{IsRisingFrom}
use Rattle.nv_windows.specs.declared.window.Window.{Window}
use Rattle.nv_model.specs.Stage.{or_current}
use Rattle.nv_model.specs.Editors.{at_handle, handles_of}
use Rattle.nv_model.specs.Standing.{PresentEditor}
use Rattle.nv_model.proofs.Lookups.{same_int}
use Rattle.nv_editor.specs.Sound.{IsSoundEditor, ShowsBuffer}

-- what is found passes
pub find_passes : {X : Type 0} (p : X → Bool) (xs : List X) (y : X) → find p xs ≡ Some y → p y ≡ true
find_passes p [] y e = cc
find_passes p (x ∷ xs) y e = by_case (find_passes p xs y) (p x) refl e
  where
    by_case : (find p xs ≡ Some y → p y ≡ true) → (b : Bool) → p x ≡ b → cond b (Some x) (find p xs) ≡ Some y → p y ≡ true
    by_case rest true is same = let at : x ≡ y = cc in sym (ap p at) ∙ is
    by_case rest false is same = rest same

-- what holds of all holds of what is found
pub find_holds : {X : Type 0} (p : X → Bool) (P : X → Type 0) (xs : List X) (y : X) → All P xs → find p xs ≡ Some y → P y
find_holds p P [] y all e = absurd (cc)
find_holds p P (x ∷ xs) y all e = by_case (find_holds p P xs y (All-tail P x xs all)) (p x) e
  where
    by_case : (find p xs ≡ Some y → P y) → (b : Bool) → cond b (Some x) (find p xs) ≡ Some y → P y
    by_case rest true same = let at : x ≡ y = cc in subst P at (All-head P x xs all)
    by_case rest false same = rest same

pub window_again : (ws : Workspace) (n : ℤ) (w : Window) → window_at ws n ≡ Some w → window_at ws w.handle ≡ Some w
window_again ws n w e =
    let is : w.handle ≡ n = same_int w.handle n (find_passes (λ (v : Window). int_eq v.handle n) ws.windows w e) in
    ap (window_at ws) is ∙ e

pub tabpage_again : (ws : Workspace) (n : ℤ) (t : Page) → tabpage_at ws n ≡ Some t → is_live_tabpage ws t.handle ≡ true
tabpage_again ws n t e =
    let is : t.handle ≡ n = same_int t.handle n (find_passes (λ (u : Page). int_eq u.handle n) ws.tabpages t e) in
    ap is_some (ap (tabpage_at ws) is ∙ e)

-- a live window shows a live buffer
pub window_shows : (e : PresentEditor) (n : ℤ) (w : Window) → IsSoundEditor e → window_at e.stage.workspace n ≡ Some w → ShowsBuffer (at_handle e.buffers w.buffer) w
window_shows e n w sound found =
    find_holds (λ (v : Window). int_eq v.handle n) (λ (v : Window). ShowsBuffer (at_handle e.buffers v.buffer) v) e.stage.workspace.windows w sound.shown found

pub shows_live : (e : PresentEditor) (n : ℤ) (w : Window) → IsSoundEditor e → window_at e.stage.workspace n ≡ Some w → at_handle e.buffers w.buffer ≢ None
shows_live e n w sound found none = subst (λ o. ShowsBuffer o w) none (window_shows e n w sound found)

-- no buffer has the handle 0
none_below : {A : Type 0} (low : ℤ) (entries : List (ℤ × A)) (k : ℤ) → IsRisingFrom low (handles_of entries) → k <ℤ low → at_handle entries k ≡ None
none_below low [] k rising below = refl
none_below low (e ∷ es) k rising below =
    let above : k <ℤ (e.0 +ℤ pos 1) = omega (arith, ints, rising.0) in
    by_case (none_below (e.0 +ℤ pos 1) es k rising.1 above) (int_eq e.0 k) refl
  where
    by_case : at_handle es k ≡ None → (b : Bool) → int_eq e.0 k ≡ b → cond b (Some e.1) (at_handle es k) ≡ None
    by_case rest true is = absurd (omega (arith, ints, same_int e.0 k is, rising.0))
    by_case rest false is = rest

pub shows_named : (e : PresentEditor) (n current : ℤ) (w : Window) → IsSoundEditor e → window_at e.stage.workspace n ≡ Some w → or_current current w.buffer ≡ w.buffer
shows_named e n current w sound found = by_case (int_eq w.buffer (pos 0)) refl
  where
    by_case : (b : Bool) → int_eq w.buffer (pos 0) ≡ b → (if b then current else w.buffer) ≡ w.buffer
    by_case true is =
        absurd (shows_live e n w sound found
        (ap (at_handle e.buffers) (same_int w.buffer (pos 0) is) ∙ none_below (pos 1) e.buffers (pos 0) sound.rising (omega (arith, ints))))
    by_case false is = refl
