-- A UI put anew with the size that it has fits the screen.
use Rattle.std.proofs.Common.{◌≡◌, ◌∙◌, refl, sym, ap, subst, ℕ, suc, ◌-◌, ◌≤◌, ◌==◌, ◌&&◌, Bool, true, false, cond, List, [], ◌∷◌, map, nat_lt, nat_le, All, Some, arith}
use Rattle.std.specs.List.{list_all}
use Rattle.std.proofs.lemmas.Bool.Decides.{nat_tests}
use Rattle.std.proofs.lemmas.List.Elements.{All-head, All-tail}
use Rattle.nv_layout.specs.Least.{least}
use Rattle.nv_layout.specs.declared.nodes.Axis.TheVariants.{Across, Down}
use Rattle.nv_windows.specs.Rooms.{fits_screen}
use Rattle.nv_windows.specs.Sound.{IsSoundPage, IsSoundWorkspace}
use Rattle.nv_windows.specs.Workspace.{Page}
use Rattle.nv_model.specs.Stage.{Stage, least_of, ui_among}
use Rattle.nv_model.specs.declared.parts.Ui.{Ui}
use Rattle.nv_editor.specs.Uis.{AreOfRisingSessions, AreSoundUis, HasScreenSize, IsLeastSize, ui_fits}
use Rattle.nv_editor.specs.inside.Sizes.{least_size}
use Rattle.nv_editor.proofs.UiSizes.{fits_by}
use Rattle.nv_api_ui.specs.UiRows.{ui_of}
use Rattle.nv_api_ui.specs.inside.Putting.{HasSizeOf}

-- ---- numbers
same_number : (m n : ℕ) → (m == n) ≡ true → m ≡ n
same_number m n e = grind (arith, nat_tests)

turned_true : (m n : ℕ) → (m == n) ≡ true → (n == m) ≡ true
turned_true m n e = grind (arith, nat_tests)

turned_false : (m n : ℕ) → (m == n) ≡ false → (n == m) ≡ false
turned_false m n e = grind (arith, nat_tests)

not_below : (m n : ℕ) → suc n ≤ m → nat_lt m n ≡ false
not_below m n h = grind (arith, nat_tests)

-- ---- the UI of a session among others
-- its session isn't below those before it
found_above : (session n : ℕ) (us : List Ui) (u : Ui) → AreOfRisingSessions n us → ui_of session us ≡ Some u → n ≤ session
found_above session n [] u r e = absurd (cc)
found_above session n (v ∷ us) u r e = by_case (v.session == session) refl (found_above session (suc v.session) us u r.1) e
  where
    by_case : (b : Bool) → (v.session == session) ≡ b → (ui_of session us ≡ Some u → suc v.session ≤ session) → cond b (Some v) (ui_of session us) ≡ Some u → n ≤ session
    by_case true is rest found = omega (arith, r.0, same_number v.session session is)
    by_case false is rest found = omega (arith, r.0, rest found)

-- what holds of all holds of it
found_holds : (P : Ui → Type 0) (session : ℕ) (us : List Ui) (u : Ui) → All P us → ui_of session us ≡ Some u → P u
found_holds P session [] u all e = absurd (cc)
found_holds P session (v ∷ us) u all e = by_case (found_holds P session us u (All-tail P v us all)) (v.session == session) e
  where
    by_case : (ui_of session us ≡ Some u → P u) → (b : Bool) → cond b (Some v) (ui_of session us) ≡ Some u → P u
    by_case rest true found = let at : v ≡ u = cc in subst P at (All-head P v us all)
    by_case rest false found = rest found

-- another one of its session and its size leaves all sizes as they are
same_sizes : (size : Ui → ℕ) (ui u : Ui) (n : ℕ) (us : List Ui) → AreOfRisingSessions n us → ui_of ui.session us ≡ Some u → size ui ≡ size u
    → map size (ui_among ui us) ≡ map size us
same_sizes size ui u n [] r e same = absurd (cc)
same_sizes size ui u n (v ∷ us) r e same =
    by_case (v.session == ui.session) refl (λ found. same_sizes size ui u (suc v.session) us r.1 found same) (found_above ui.session (suc v.session) us u r.1) e
  where
    by_case : (b : Bool) → (v.session == ui.session) ≡ b → (ui_of ui.session us ≡ Some u → map size (ui_among ui us) ≡ map size us)
        → (ui_of ui.session us ≡ Some u → suc v.session ≤ ui.session) → cond b (Some v) (ui_of ui.session us) ≡ Some u
        → map size (cond (ui.session == v.session) (ui ∷ us) (cond (nat_lt ui.session v.session) (ui ∷ v ∷ us) (v ∷ ui_among ui us))) ≡ size v ∷ map size us
    by_case true is rest above found =
        let at : v ≡ u = cc in
        ap (λ (t : Bool). map size (cond t (ui ∷ us) (cond (nat_lt ui.session v.session) (ui ∷ v ∷ us) (v ∷ ui_among ui us)))) (turned_true v.session ui.session is)
        ∙ ap (λ (k : ℕ). k ∷ map size us) (same ∙ ap size (sym at))
    by_case false is rest above found =
        ap (λ (t : Bool). map size (cond t (ui ∷ us) (cond (nat_lt ui.session v.session) (ui ∷ v ∷ us) (v ∷ ui_among ui us)))) (turned_false v.session ui.session is)
        ∙ ap (λ (t : Bool). map size (cond t (ui ∷ v ∷ us) (v ∷ ui_among ui us))) (not_below ui.session v.session (above found))
        ∙ ap (λ (l : List ℕ). size v ∷ l) (rest found)

-- ---- the screen
-- the least of some numbers, 0 where there is none
abbrev least_number : List ℕ → ℕ
least_number [] = 0
least_number (n ∷ ns) = least_of n ns

least_is : (size : Ui → ℕ) (us : List Ui) → least_size size us ≡ least_number (map size us)
least_is size [] = refl
least_is size (u ∷ us) = refl

same_least : (size : Ui → ℕ) (us vs : List Ui) → map size us ≡ map size vs → least_size size us ≡ least_size size vs
same_least size us vs e = least_is size us ∙ ap least_number e ∙ sym (least_is size vs)

screen_is : (session width height : ℕ) (us : List Ui) (u : Ui) → IsLeastSize us width height → ui_of session us ≡ Some u
    → (width ≡ least_size (λ v. v.width) us) × (height ≡ least_size (λ v. v.height) us)
screen_is session width height [] u is e = absurd (cc)
screen_is session width height (v ∷ us) u is e = is

tree_fits : (wide high width height : ℕ) → wide ≤ width → high ≤ height - 1 → (nat_le wide width && nat_le high (height - 1)) ≡ true
tree_fits wide high width height a b = grind (arith, nat_tests)

pages_fit : (width height : ℕ) (ts : List Page) → All (IsSoundPage width height) ts → list_all (λ (t : Page). fits_screen width height t.tree) ts ≡ true
pages_fit width height [] all = refl
pages_fit width height (t ∷ ts) all =
    let p = All-head (IsSoundPage width height) t ts all in
    ap (λ (b : Bool). b && list_all (λ (u : Page). fits_screen width height u.tree) ts)
    (tree_fits (least Across t.tree) (least Down t.tree) width height p.roomy.wide p.roomy.high)
    ∙ pages_fit width height ts (All-tail (IsSoundPage width height) t ts all)

pub fits_again : (ui there : Ui) (stage : Stage) → AreSoundUis stage.uis stage.workspace.width stage.workspace.height → IsSoundWorkspace stage.workspace
    → ui_of ui.session stage.uis ≡ Some there → HasSizeOf ui there → ui_fits ui stage ≡ true
fits_again ui there stage uis sound found same =
    let us = stage.uis in
    let ws = stage.workspace in
    let screen = screen_is ui.session ws.width ws.height us there uis.least found in
    let wide : ws.width ≡ least_size (λ v. v.width) (ui_among ui us) =
    screen.0 ∙ same_least (λ v. v.width) us (ui_among ui us) (sym (same_sizes (λ v. v.width) ui there 0 us uis.rising found same.width)) in
    let high : ws.height ≡ least_size (λ v. v.height) (ui_among ui us) =
    screen.1 ∙ same_least (λ v. v.height) us (ui_among ui us) (sym (same_sizes (λ v. v.height) ui there 0 us uis.rising found same.height)) in
    sym (fits_by ui stage true ws.width ws.height wide high (sym (pages_fit ws.width ws.height ws.tabpages sound.pages)))

-- and is as narrow as it was
pub narrow_again : (ui there : Ui) (stage : Stage) → AreSoundUis stage.uis stage.workspace.width stage.workspace.height → ui_of ui.session stage.uis ≡ Some there
    → HasSizeOf ui there → HasScreenSize ui
narrow_again ui there stage uis found same =
    let narrow = found_holds HasScreenSize ui.session stage.uis there uis.narrow found in
    (omega (arith, narrow.0, same.width), omega (arith, narrow.1, same.height))
