-- A window at a place is found by its handle.
use Rattle.std.proofs.Common.{◌≡◌, ℕ, zero, suc, ℤ, pos, ◌+ℤ◌, ◌<◌, ◌≤ℤ◌, ◌==◌, Bool, true, false, cond, List, [], ◌∷◌, get_or, length, All, Option, Some, None, Result, Ok, Err, sym, ap, subst, ◌∙◌, arith}
use Rattle.std.specs.Prelude.{IfOk, IfSome, find, slice_get}
use Rattle.std.specs.Option.{option_map_or}
use Rattle.std.specs.Ordering.{int_eq}
use Rattle.std.proofs.lemmas.Int.{ints}
use Rattle.std.proofs.lemmas.List.Elements.{All-head, All-tail}
use Rattle.nv_layout.specs.declared.nodes.Rect.{Rect}
use Rattle.nv_windows.specs.Rooms.{text_area}
use Rattle.nv_windows.specs.Sound.{IsRisingFrom, IsSoundWorkspace}
use Rattle.nv_windows.specs.Workspace.{Workspace, handles_of_windows, window_at}
use Rattle.nv_windows.specs.declared.window.Window.{Window}
use Rattle.nv_buffer.specs.Content.{Content}
use Rattle.nv_model.specs.Operations.{Operation}
use Rattle.nv_model.specs.Seen.{Seen}
use Rattle.nv_editor.specs.Sound.{ShowsBuffer, content_of}
use Rattle.nv_scene.specs.Settling.{settled_top, top_of, window_settling}
use Rattle.nv_scene.specs.inside.Settled.{IsTextArea, settling_at}
use Rattle.nv_scene.proofs.Areas.{area_sound}
use Rattle.nv_scene.proofs.Fitting.{top_within}

pub area_of_any : (ws : Workspace) (w : ℤ) (o : Option Rect) → IsSoundWorkspace ws → o ≡ text_area ws w → IfSome o IsTextArea
area_of_any ws w None sound e = tt
area_of_any ws w (Some area) sound e = area_sound ws w area sound (sym e)

itself : (n : ℤ) → int_eq n n ≡ true
itself n = grind (arith, ints)

above_low : (low : ℤ) (ws : List Window) (i : ℕ) (w : Window) → IsRisingFrom low (handles_of_windows ws) → Some w ≡ slice_get ws i → low ≤ℤ w.handle
above_low low [] i w r e = cc
above_low low (v ∷ vs) zero w r e = let same : v ≡ w = cc in subst (λ (u : Window). low ≤ℤ u.handle) same r.0
above_low low (v ∷ vs) (suc i) w r e = omega (arith, ints, r.0, above_low (v.handle +ℤ pos 1) vs i w r.1 e)

lower_apart : (a b : ℤ) → (a +ℤ pos 1) ≤ℤ b → int_eq a b ≡ false
lower_apart a b h = grind (arith, ints)

found_at : (low : ℤ) (ws : List Window) (i : ℕ) (w : Window) → IsRisingFrom low (handles_of_windows ws) → Some w ≡ slice_get ws i
    → find (λ (v : Window). int_eq v.handle w.handle) ws ≡ Some w
found_at low [] i w r e = cc
found_at low (v ∷ vs) zero w r e =
    let same : v ≡ w = cc in
    ap (λ (t : Bool). cond t (Some v) (find (λ (u : Window). int_eq u.handle w.handle) vs)) (ap (λ (u : Window). int_eq u.handle w.handle) same ∙ itself w.handle)
    ∙ ap (λ (u : Window). Some u) same
found_at low (v ∷ vs) (suc i) w r e =
    ap (λ (t : Bool). cond t (Some v) (find (λ (u : Window). int_eq u.handle w.handle) vs)) (lower_apart v.handle w.handle (above_low (v.handle +ℤ pos 1) vs i w r.1 e))
    ∙ found_at (v.handle +ℤ pos 1) vs i w r.1 e

-- an element at a place, as it is looked up
pub there_at : {X : Type 0} (xs : List X) (i : ℕ) (x : X) → i < length xs → x ≡ get_or xs i x → Some x ≡ slice_get xs i
there_at [] i x h e = absurd (omega arith)
there_at (y ∷ ys) zero x h e = ap Some e
there_at (y ∷ ys) (suc i) x h e = there_at ys i x (omega arith) e

pub window_found : (ws : Workspace) (i : ℕ) (w : Window) → IsSoundWorkspace ws → Some w ≡ slice_get ws.windows i → window_at ws w.handle ≡ Some w
window_found ws i w sound e = found_at (pos 1000) ws.windows i w sound.rising e

-- what holds of all holds of one at a place
pub all_at : {X : Type 0} (P : X → Type 0) (xs : List X) (i : ℕ) (x : X) → All P xs → Some x ≡ slice_get xs i → P x
all_at P [] i x all e = cc
all_at P (y ∷ ys) zero x all e = let same : y ≡ x = cc in subst P same (All-head P y ys all)
all_at P (y ∷ ys) (suc i) x all e = all_at P ys i x (All-tail P y ys all) e

-- the cursor is in a line
pub shows_row : (o : Option Content) (n : ℤ) (w : Window) → ShowsBuffer o w → w.cursor.row < length (content_of n o).text
shows_row None n w shows = absurd shows
shows_row (Some b) n w shows = shows.cursor.row

pub top_in_text : {E : Type 0} (r : Result ℕ E) (rows : ℕ) (hs : List ℕ) (cursor top : ℕ) (lines : List (List ℕ))
    → IfOk r (λ row. row ≡ settled_top rows hs cursor top) → cursor < length lines → IfOk r (λ row. row < length lines)
top_in_text (Ok row) rows hs cursor top lines is within = omega (arith, is, within, top_within rows hs cursor top)
top_in_text (Err e) rows hs cursor top lines is within = tt

-- the settling of the window at a place
pub settled_by : (s : Seen) (place : ℕ) (w : Window) (row : ℕ) → Some w ≡ slice_get s.stage.workspace.windows place → row ≡ top_of s w → (row == w.top) ≡ false
    → Operation.top_put w.handle row ∷ [] ≡ settling_at s place
settled_by s place w row there is differs =
    ap (λ (n : ℕ). Operation.top_put w.handle n ∷ []) is
    ∙ sym (ap (λ (t : Bool). cond t [] (Operation.top_put w.handle (top_of s w) ∷ [])) (ap (λ (n : ℕ). n == w.top) (sym is) ∙ differs))
    ∙ ap (λ (o : Option Window). option_map_or (window_settling s) o []) there

pub settled_none : (s : Seen) (place : ℕ) (w : Window) (row : ℕ) → Some w ≡ slice_get s.stage.workspace.windows place → row ≡ top_of s w → (row == w.top) ≡ true
    → [] ≡ settling_at s place
settled_none s place w row there is same =
    sym (ap (λ (t : Bool). cond t [] (Operation.top_put w.handle (top_of s w) ∷ [])) (ap (λ (n : ℕ). n == w.top) (sym is) ∙ same))
    ∙ ap (λ (o : Option Window). option_map_or (window_settling s) o []) there
