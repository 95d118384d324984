-- Windows changed one after another.
use Rattle.std.proofs.Common.{◌≡◌, ℕ, zero, suc, ℤ, ◌+◌, ◌<◌, ◌≤◌, Bool, true, false, cond, List, [], ◌∷◌, ◌++◌, length, map, take, drop, get_or, Option, Some, None, refl, sym, ap, subst, ◌∙◌, arith, add-one}
use Rattle.std.specs.Prelude.{pos, ◌+ℤ◌, ◌≤ℤ◌, find, is_some, if◌then◌else◌}
use Rattle.std.specs.Ordering.{int_eq}
use Rattle.std.proofs.lemmas.Int.{ints}
use Rattle.nv_windows.specs.Sound.{IsRisingFrom}
use Rattle.nv_places.specs.declared.place.Pos.{Pos}
use Rattle.nv_windows.specs.Sound.{IsSoundWorkspace}
use Rattle.nv_windows.specs.Workspace.{Workspace, handles_of_windows}
use Rattle.nv_windows.specs.Operations.{windows_with, with_cursor}
use Rattle.nv_windows.specs.Views.{view_showing, after_splice}
use Rattle.nv_windows.specs.declared.window.Window.{Window}
use Rattle.nv_windows.proofs.Rising.{above}
use Rattle.nv_buffer.specs.declared.edit.Edit.{Edit}
use Rattle.nv_model.specs.Stage.{view_in_line, cursor_in_line}
use Rattle.nv_model.proofs.Lookups.{int_eq-itself}
use Rattle.nv_editor.specs.inside.Views.{move_by, view_carried, with_views, clamped, changed_at}

-- a window at a place is found by its handle
pub found_at : (ws : List Window) (k : ℕ) (d : Window) → k < length ws
    → is_some (find (λ (w : Window). int_eq w.handle (get_or ws k d).handle) ws) ≡ true
found_at [] k d h = absurd (omega arith)
found_at (w ∷ ws) zero d h = rw (int_eq-itself w.handle) refl
found_at (w ∷ ws) (suc k) d h = by_case (int_eq w.handle (get_or ws k d).handle) (found_at ws k d (omega arith))
  where
    by_case : (t : Bool) → is_some (find (λ (v : Window). int_eq v.handle (get_or ws k d).handle) ws) ≡ true
        → is_some (cond t (Some w) (find (λ (v : Window). int_eq v.handle (get_or ws k d).handle) ws)) ≡ true
    by_case true rest = refl
    by_case false rest = rest

apart_above : (a h : ℤ) → (h +ℤ pos 1) ≤ℤ a → int_eq a h ≡ false
apart_above a h less = grind (arith, ints)

apart_below : (a h : ℤ) → (a +ℤ pos 1) ≤ℤ h → int_eq a h ≡ false
apart_below a h less = grind (arith, ints)

lower : (a b c : ℤ) → (a +ℤ pos 1) ≤ℤ b → (b +ℤ pos 1) ≤ℤ c → (a +ℤ pos 1) ≤ℤ c
lower a b c p q = omega (arith, ints)

-- windows above a handle aren't changed
pub none_else : (low h : ℤ) (f : Window → Window) (ws : List Window) → IsRisingFrom low (handles_of_windows ws) → (h +ℤ pos 1) ≤ℤ low
    → windows_with h f ws ≡ ws
none_else low h f [] r less = refl
none_else low h f (w ∷ ws) r less =
    ap (λ (t : Bool). cond t (f w) w ∷ windows_with h f ws) (apart_above w.handle h (omega (arith, ints, r.0, less)))
    ∙ ap (λ (l : List Window). w ∷ l) (none_else (w.handle +ℤ pos 1) h f ws r.1 (omega (arith, ints, r.0, less)))

-- a change of the window of a handle is one at its place
pub changed_one : (low : ℤ) (ws : List Window) (k : ℕ) (d : Window) (f g : Window → Window) → IsRisingFrom low (handles_of_windows ws)
    → k < length ws → f (get_or ws k d) ≡ g (get_or ws k d) → windows_with (get_or ws k d).handle f ws ≡ changed_at g k ws
changed_one low [] k d f g r h same = absurd (omega arith)
changed_one low (w ∷ ws) zero d f g r h same =
    ap (λ (t : Bool). cond t (f w) w ∷ windows_with w.handle f ws) (int_eq-itself w.handle)
    ∙ ap (λ (v : Window). v ∷ windows_with w.handle f ws) same
    ∙ ap (λ (l : List Window). g w ∷ l) (none_else (w.handle +ℤ pos 1) w.handle f ws r.1 (omega (arith, ints)))
changed_one low (w ∷ ws) (suc k) d f g r h same =
    ap (λ (t : Bool). cond t (f w) w ∷ windows_with (get_or ws k d).handle f ws)
    (apart_below w.handle (get_or ws k d).handle (above (w.handle +ℤ pos 1) ws k d r.1 (omega arith)))
    ∙ ap (λ (l : List Window). w ∷ l) (changed_one (w.handle +ℤ pos 1) ws k d f g r.1 (omega arith) same)

-- no change where the one at the place stays
pub unchanged_one : (ws : List Window) (k : ℕ) (d : Window) (g : Window → Window) → k < length ws → get_or ws k d ≡ g (get_or ws k d)
    → ws ≡ changed_at g k ws
unchanged_one [] k d g h same = refl
unchanged_one (w ∷ ws) zero d g h same = ap (λ (v : Window). v ∷ ws) same
unchanged_one (w ∷ ws) (suc k) d g h same = ap (λ (l : List Window). w ∷ l) (unchanged_one ws k d g (omega arith) same)

-- one more window is changed
pub changed_more : {A : Type 0} (g : A → A) (xs : List A) (k : ℕ) → k < length xs
    → changed_at g k (map g (take k xs) ++ drop k xs) ≡ map g (take (suc k) xs) ++ drop (suc k) xs
changed_more g [] k h = absurd (omega arith)
changed_more g (x ∷ xs) zero h = refl
changed_more g (x ∷ xs) (suc k) h = ap (λ l. g x ∷ l) (changed_more g xs k (omega arith))

pub length-changed : {A : Type 0} (g : A → A) (k : ℕ) (xs : List A) → length (changed_at g k xs) ≡ length xs
length-changed g k [] = refl
length-changed g zero (x ∷ xs) = refl
length-changed g (suc k) (x ∷ xs) = ap suc (length-changed g k xs)

pub changed_all : {A : Type 0} (g : A → A) (xs : List A) (k : ℕ) → length xs ≤ k → map g (take k xs) ++ drop k xs ≡ map g xs
changed_all g [] zero h = refl
changed_all g [] (suc k) h = refl
changed_all g (x ∷ xs) zero h = absurd (omega arith)
changed_all g (x ∷ xs) (suc k) h = ap (λ l. g x ∷ l) (changed_all g xs k (omega arith))

-- moved first, and then kept in its line
carried_one : (n : ℤ) (edit : Edit) (lines : List (List ℕ)) (w : Window)
    → clamped n lines (view_showing n (move_by edit lines) w) ≡ view_carried n edit lines w
carried_one n edit lines w = by_case (int_eq w.buffer n) refl
  where
    moved : Window
    moved = view_showing n (move_by edit lines) w

    by_case : (t : Bool) → int_eq w.buffer n ≡ t → clamped n lines (view_showing n (move_by edit lines) w) ≡ view_carried n edit lines w
    by_case true is = rw is (rw is refl)
    by_case false is = rw is (rw is refl)

pub carried_all : (n : ℤ) (edit : Edit) (lines : List (List ℕ)) (ws : List Window)
    → map (clamped n lines) (map (view_showing n (move_by edit lines)) ws) ≡ map (view_carried n edit lines) ws
carried_all n edit lines [] = refl
carried_all n edit lines (w ∷ ws) =
    ap (λ (v : Window). v ∷ map (clamped n lines) (map (view_showing n (move_by edit lines)) ws)) (carried_one n edit lines w)
    ∙ ap (λ (l : List Window). view_carried n edit lines w ∷ l) (carried_all n edit lines ws)

clamped_there : (n : ℤ) (lines : List (List ℕ)) (w : Window) (p : Pos) → int_eq w.buffer n ≡ true → p ≡ cursor_in_line lines w.cursor
    → record w { cursor = p } ≡ clamped n lines w
clamped_there n lines w p is e =
    ap (λ (q : Pos). record w { cursor = q }) e ∙ sym (ap (λ (t : Bool). cond t (view_in_line lines w) w) is)

clamped_elsewhere : (n : ℤ) (lines : List (List ℕ)) (w : Window) → int_eq w.buffer n ≡ false → w ≡ clamped n lines w
clamped_elsewhere n lines w is = sym (ap (λ (t : Bool). cond t (view_in_line lines w) w) is)

-- the cursor of the window at a place was put in its line
pub clamped_at : (ws later : Workspace) (items : List Window) (place : ℕ) (d : Window) (n : ℤ) (lines : List (List ℕ)) (h : ℤ) (p : Pos)
    → items ≡ ws.windows → IsSoundWorkspace ws → place < length ws.windows → int_eq (get_or items place d).buffer n ≡ true
    → h ≡ (get_or items place d).handle → p ≡ cursor_in_line lines (get_or items place d).cursor → later ≡ with_cursor h p ws
    → later ≡ record ws { windows = changed_at (clamped n lines) place ws.windows }
clamped_at ws later items place d n lines h p same sound within shows handle cursor is =
    let w : get_or items place d ≡ get_or ws.windows place d = ap (λ (l : List Window). get_or l place d) same in
    is ∙ ap (λ (k : ℤ). with_cursor k p ws) (handle ∙ ap (λ (v : Window). v.handle) w)
    ∙ ap (λ (l : List Window). record ws { windows = l })
    (changed_one (pos 1000) ws.windows place d (λ v. record v { cursor = p }) (clamped n lines) sound.rising within
    (clamped_there n lines (get_or ws.windows place d) p (subst (λ (v : Window). int_eq v.buffer n ≡ true) w shows)
    (cursor ∙ ap (λ (v : Window). cursor_in_line lines v.cursor) w)))

-- the window at a place doesn't show the buffer
pub clamped_not : (ws : Workspace) (items : List Window) (place : ℕ) (d : Window) (n : ℤ) (lines : List (List ℕ)) → items ≡ ws.windows
    → place < length ws.windows → int_eq (get_or items place d).buffer n ≡ false
    → ws ≡ record ws { windows = changed_at (clamped n lines) place ws.windows }
clamped_not ws items place d n lines same within shows =
    let w : get_or items place d ≡ get_or ws.windows place d = ap (λ (l : List Window). get_or l place d) same in
    ap (λ (l : List Window). record ws { windows = l })
    (unchanged_one ws.windows place d (clamped n lines) within
    (clamped_elsewhere n lines (get_or ws.windows place d) (subst (λ (v : Window). int_eq v.buffer n ≡ false) w shows)))

-- one more cursor is in its line
pub clamped_more : (ws before later : Workspace) (g : Window → Window) (k : ℕ)
    → before ≡ record ws { windows = map g (take k ws.windows) ++ drop k ws.windows }
    → later ≡ record before { windows = changed_at g k before.windows } → k < length ws.windows
    → later ≡ record ws { windows = map g (take (k + 1) ws.windows) ++ drop (k + 1) ws.windows }
clamped_more ws before later g k was is within =
    is ∙ ap (λ (v : Workspace). record v { windows = changed_at g k v.windows }) was
    ∙ ap (λ (l : List Window). record ws { windows = l }) (changed_more g ws.windows k within)
    ∙ ap (λ (j : ℕ). record ws { windows = map g (take j ws.windows) ++ drop j ws.windows }) (sym (add-one k))

-- moved first, and then all cursors put in their lines
pub carried : (n : ℤ) (edit : Edit) (lines : List (List ℕ)) (ws mid later : Workspace) (count : ℕ) → count ≡ length lines
    → mid ≡ after_splice n (record { start = edit.start; old = edit.removed; new = edit.put; count = count }) ws
    → later ≡ record mid { windows = map (clamped n lines) mid.windows } → later ≡ with_views n edit lines ws
carried n edit lines ws mid later count e moved is =
    is ∙ ap (λ (v : Workspace). record v { windows = map (clamped n lines) v.windows })
    (moved ∙ ap (λ (k : ℕ). after_splice n (record { start = edit.start; old = edit.removed; new = edit.put; count = k }) ws) e)
    ∙ ap (λ (l : List Window). record ws { windows = l }) (carried_all n edit lines ws.windows)
