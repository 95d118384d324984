-- Windows settled one after another.
use Rattle.std.proofs.Common.{◌≡◌, ℕ, zero, suc, ℤ, pos, ◌+◌, ◌+ℤ◌, ◌<◌, ◌≤◌, ◌≤ℤ◌, ◌==◌, Bool, true, false, cond, List, [], ◌∷◌, ◌++◌, length, map, take, drop, slice_get, Option, refl, sym, ap, subst, ◌∙◌, append_assoc, arith}
use Rattle.std.specs.Prelude.{flat_map}
use Rattle.std.specs.Option.{option_map_or}
use Rattle.std.specs.Ordering.{int_eq}
use Rattle.std.proofs.lemmas.Bool.Decides.{nat_tests}
use Rattle.std.proofs.lemmas.Int.{ints}
use Rattle.std.proofs.lemmas.List.{append-nil, take-append-drop}
use Rattle.nv_windows.specs.Operations.{windows_with}
use Rattle.nv_windows.specs.Sound.{IsRisingFrom, IsSoundWorkspace}
use Rattle.nv_windows.specs.Workspace.{handles_of_windows}
use Rattle.nv_windows.specs.declared.window.Window.{Window}
use Rattle.nv_model.specs.Editors.{ModelEditor}
use Rattle.nv_model.specs.Operations.{Operation, after_operation, after_operations}
use Rattle.nv_model.specs.Seen.{Seen, seen_of}
use Rattle.nv_model.specs.Stage.{in_workspace}
use Rattle.nv_scene.specs.Settling.{settle_operations, top_of, window_settling}
use Rattle.nv_scene.specs.inside.Settled.{settling_at}

-- the model editor with these windows
abbrev pub with_windows : List Window → ModelEditor → ModelEditor
with_windows ws m = record m { stage = in_workspace (λ v. record v { windows = ws }) m.stage }

-- a window once it is settled
abbrev pub settled : Seen → Window → Window
settled s w = record w { top = top_of s w }

-- ---- one window among others
-- the handles of some windows are lower, and of others higher
abbrev pub AreBelow : ℤ → List Window → Type 0
AreBelow n [] = Unit {0}
AreBelow n (v ∷ vs) = ((v.handle +ℤ pos 1) ≤ℤ n) × AreBelow n vs

apart_below : (a n : ℤ) → (a +ℤ pos 1) ≤ℤ n → int_eq a n ≡ false
apart_below a n h = grind (arith, ints)

apart_above : (a n : ℤ) → (n +ℤ pos 1) ≤ℤ a → int_eq a n ≡ false
apart_above a n h = grind (arith, ints)

itself : (n : ℤ) → int_eq n n ≡ true
itself n = grind (arith, ints)

rest_stays : (n low : ℤ) (f : Window → Window) (vs : List Window) → (n +ℤ pos 1) ≤ℤ low → IsRisingFrom low (handles_of_windows vs) → windows_with n f vs ≡ vs
rest_stays n low f [] above r = refl
rest_stays n low f (v ∷ vs) above r =
    ap (λ (t : Bool). cond t (f v) v ∷ windows_with n f vs) (apart_above v.handle n (omega (arith, ints, above, r.0)))
    ∙ ap (λ (us : List Window). v ∷ us) (rest_stays n (v.handle +ℤ pos 1) f vs (omega (arith, ints, above, r.0)) r.1)

one_changes : (f : Window → Window) (front : List Window) (w : Window) (rest : List Window) → AreBelow w.handle front → IsRisingFrom (w.handle +ℤ pos 1) (handles_of_windows rest)
    → windows_with w.handle f (front ++ w ∷ rest) ≡ front ++ f w ∷ rest
one_changes f [] w rest below r =
    ap (λ (t : Bool). cond t (f w) w ∷ windows_with w.handle f rest) (itself w.handle)
    ∙ ap (λ (us : List Window). f w ∷ us) (rest_stays w.handle (w.handle +ℤ pos 1) f rest (omega (arith, ints)) r)
one_changes f (v ∷ vs) w rest below r =
    ap (λ (t : Bool). cond t (f v) v ∷ windows_with w.handle f (vs ++ w ∷ rest)) (apart_below v.handle w.handle below.0)
    ∙ ap (λ (us : List Window). v ∷ us) (one_changes f vs w rest below.1 r)

-- the settling of one window
one_settled : (s : Seen) (m : ModelEditor) (front : List Window) (w : Window) (rest : List Window) → AreBelow w.handle front
    → IsRisingFrom (w.handle +ℤ pos 1) (handles_of_windows rest)
    → after_operations (window_settling s w) (with_windows (front ++ w ∷ rest) m) ≡ with_windows (front ++ settled s w ∷ rest) m
one_settled s m front w rest below r = by (top_of s w == w.top) refl
  where
    same_top : (top_of s w == w.top) ≡ true → w.top ≡ top_of s w
    same_top e = grind (arith, nat_tests)

    by : (t : Bool) → (top_of s w == w.top) ≡ t
        → after_operations (cond t [] (Operation.top_put w.handle (top_of s w) ∷ [])) (with_windows (front ++ w ∷ rest) m) ≡ with_windows (front ++ settled s w ∷ rest) m
    by true e = ap (λ (n : ℕ). with_windows (front ++ record w { top = n } ∷ rest) m) (same_top e)
    by false e =
        ap (λ (us : List Window). with_windows us m) (one_changes (λ (v : Window). record v { top = top_of s w }) front w rest below r)

-- ---- all windows
below_append : (n : ℤ) (vs ws : List Window) → AreBelow n vs → AreBelow n ws → AreBelow n (vs ++ ws)
below_append n [] ws a b = b
below_append n (v ∷ vs) ws a b = (a.0, below_append n vs ws a.1 b)

after_append : (xs ys : List Operation) (m : ModelEditor) → after_operations (xs ++ ys) m ≡ after_operations ys (after_operations xs m)
after_append [] ys m = refl
after_append (x ∷ xs) ys m = after_append xs ys (after_operation x m)

-- settled ones stand in front of those that are left
middle_settled : (s : Seen) (m : ModelEditor) (low : ℤ) (front mid rest : List Window) → AreBelow low front → IsRisingFrom low (handles_of_windows (mid ++ rest))
    → after_operations (flat_map (window_settling s) mid) (with_windows (front ++ (mid ++ rest)) m) ≡ with_windows (front ++ (map (settled s) mid ++ rest)) m
middle_settled s m low front [] rest below r = refl
middle_settled s m low front (w ∷ ws) rest below r =
    let here : AreBelow w.handle front = lower low w.handle front r.0 below in
    after_append (window_settling s w) (flat_map (window_settling s) ws) (with_windows (front ++ w ∷ (ws ++ rest)) m)
    ∙ ap (after_operations (flat_map (window_settling s) ws)) (one_settled s m front w (ws ++ rest) here r.1)
    ∙ ap (λ (us : List Window). after_operations (flat_map (window_settling s) ws) (with_windows us m)) (sym (append_assoc front (settled s w ∷ []) (ws ++ rest)))
    ∙ middle_settled s m (w.handle +ℤ pos 1) (front ++ settled s w ∷ []) ws rest
    (below_append (w.handle +ℤ pos 1) front (settled s w ∷ []) (lower w.handle (w.handle +ℤ pos 1) front (omega (arith, ints)) here) (omega (arith, ints), tt)) r.1
    ∙ ap (λ (us : List Window). with_windows us m) (append_assoc front (settled s w ∷ []) (map (settled s) ws ++ rest))
  where
    lower : (a b : ℤ) (vs : List Window) → a ≤ℤ b → AreBelow a vs → AreBelow b vs
    lower a b [] h k = tt
    lower a b (v ∷ vs) h k = (omega (arith, ints, h, k.0), lower a b vs h k.1)

-- the first n windows are settled
pub first_settled : (m : ModelEditor) (n : ℕ) → IsSoundWorkspace m.stage.workspace
    → after_operations (flat_map (window_settling (seen_of m)) (take n m.stage.workspace.windows)) m
    ≡ with_windows (map (settled (seen_of m)) (take n m.stage.workspace.windows) ++ drop n m.stage.workspace.windows) m
first_settled m n sound =
    let ws : List Window = m.stage.workspace.windows in
    ap (λ (us : List Window). after_operations (flat_map (window_settling (seen_of m)) (take n ws)) (with_windows us m)) (sym (take-append-drop n ws))
    ∙ middle_settled (seen_of m) m (pos 1000) [] (take n ws) (drop n ws) tt
    (subst (λ (us : List Window). IsRisingFrom (pos 1000) (handles_of_windows us)) (sym (take-append-drop n ws)) sound.rising)

pub all_settled : (m : ModelEditor) → IsSoundWorkspace m.stage.workspace
    → after_operations (settle_operations (seen_of m)) m ≡ with_windows (map (settled (seen_of m)) m.stage.workspace.windows) m
all_settled m sound =
    let ws : List Window = m.stage.workspace.windows in
    ap (λ (us : List Window). after_operations (flat_map (window_settling (seen_of m)) ws) (with_windows us m)) (sym (append-nil ws))
    ∙ middle_settled (seen_of m) m (pos 1000) [] ws [] tt (subst (λ (us : List Window). IsRisingFrom (pos 1000) (handles_of_windows us)) (sym (append-nil ws)) sound.rising)
    ∙ ap (λ (us : List Window). with_windows us m) (append-nil (map (settled (seen_of m)) ws))

-- ---- what windows show doesn't depend on first rows
pub same_tops : (ws : List Window) (m : ModelEditor) (w : Window) → top_of (seen_of (with_windows ws m)) w ≡ top_of (seen_of m) w
same_tops ws m w = refl

-- the next window, where n are settled
next_there : (f : Window → Window) (ws : List Window) (n : ℕ) → n ≤ length ws → slice_get (map f (take n ws) ++ drop n ws) n ≡ slice_get ws n
next_there f ws zero h = refl
next_there f [] (suc n) h = absurd (omega arith)
next_there f (w ∷ ws) (suc n) h = next_there f ws n (omega arith)

one_more : (f : Window → List Operation) (ws : List Window) (n : ℕ) → n < length ws
    → flat_map f (take (suc n) ws) ≡ flat_map f (take n ws) ++ option_map_or f (slice_get ws n) []
one_more f [] n h = absurd (omega arith)
one_more f (w ∷ ws) zero h = append-nil (f w)
one_more f (w ∷ ws) (suc n) h = ap (λ (os : List Operation). f w ++ os) (one_more f ws n (omega arith)) ∙ sym (append_assoc (f w) (flat_map f (take n ws)) (option_map_or f (slice_get ws n) []))

-- one more window of an editor is settled
pub settled_more : (m : ModelEditor) (n : ℕ) → IsSoundWorkspace m.stage.workspace → n < length m.stage.workspace.windows
    → after_operations (settling_at (seen_of (after_operations (flat_map (window_settling (seen_of m)) (take n m.stage.workspace.windows)) m)) n)
    (after_operations (flat_map (window_settling (seen_of m)) (take n m.stage.workspace.windows)) m)
    ≡ after_operations (flat_map (window_settling (seen_of m)) (take (n + 1) m.stage.workspace.windows)) m
settled_more m n sound within =
    let ws : List Window = m.stage.workspace.windows in
    let s : Seen = seen_of m in
    let next : suc n ≡ n + 1 = omega arith in
    let now : ModelEditor = after_operations (flat_map (window_settling s) (take n ws)) m in
    let same : settling_at (seen_of now) n ≡ option_map_or (window_settling s) (slice_get ws n) [] =
    ap (λ (e : ModelEditor). settling_at (seen_of e) n) (first_settled m n sound)
    ∙ ap (λ (o : Option Window). option_map_or (window_settling s) o []) (next_there (settled s) ws n (omega arith)) in
    ap (λ (os : List Operation). after_operations os now) same
    ∙ sym (after_append (flat_map (window_settling s) (take n ws)) (option_map_or (window_settling s) (slice_get ws n) []) m)
    ∙ ap (λ (os : List Operation). after_operations os m) (sym (one_more (window_settling s) ws n within))
    ∙ ap (λ (k : ℕ). after_operations (flat_map (window_settling s) (take k ws)) m) next
