-- The UIs of an editor stand by rising sessions, and the screen has their least size.
use Rattle.std.proofs.Common.{◌≡◌, ℤ, ℕ, suc, ◌≤◌, List, [], ◌∷◌, map, refl, ap, sym, ◌∙◌, subst, arith, Bool, true, false, not, cond, nat_lt, Option, Some, None}
use Rattle.std.specs.Prelude.{◌==◌}
use Rattle.std.specs.List.{list_any}
use Rattle.std.proofs.lemmas.Option.{none-some, same_Some}
use Rattle.std.proofs.lemmas.Bool.Decides.{nat_tests}
use Rattle.nv_model.specs.Buffers.{Splice, ModelBuffer}
use Rattle.nv_model.specs.Editors.{ModelEditor, at_handle}
use Rattle.nv_model.specs.Operations.{Operation, spliced, spliced_back, ui_put, uis_dropped, stage_spliced, after_operation}
use Rattle.nv_model.specs.Stage.{Stage, least_of, with_uis, ui_among, other_uis}
use Rattle.nv_model.specs.declared.parts.Ui.{Ui}
use Rattle.nv_editor.specs.Uis.{AreOfRisingSessions}
use Rattle.nv_api_ui.specs.UiRows.{ui_of}

-- ---- rising sessions
rising_from : (n k : ℕ) (us : List Ui) → n ≤ k → AreOfRisingSessions k us → AreOfRisingSessions n us
rising_from n k [] low h = tt
rising_from n k (u ∷ us) low h = let first = h.0 in (omega (arith, low, first), h.1)

put_step : (n : ℕ) (ui u : Ui) (us : List Ui) (b c : Bool) → n ≤ ui.session → (ui.session == u.session) ≡ b → nat_lt ui.session u.session ≡ c
    → AreOfRisingSessions n (u ∷ us) → (suc u.session ≤ ui.session → AreOfRisingSessions (suc u.session) (ui_among ui us))
    → AreOfRisingSessions n (cond b (ui ∷ us) (cond c (ui ∷ u ∷ us) (u ∷ ui_among ui us)))
put_step n ui u us true c low same before h rest =
    let is : u.session ≡ ui.session = grind (arith, nat_tests) in (low, subst (λ (k : ℕ). AreOfRisingSessions (suc k) us) is h.1)
put_step n ui u us false true low same before h rest = let is : suc ui.session ≤ u.session = grind (arith, nat_tests) in (low, (is, h.1))
put_step n ui u us false false low same before h rest = let is : suc u.session ≤ ui.session = grind (arith, nat_tests) in (h.0, rest is)

rising_put : (n : ℕ) (ui : Ui) (us : List Ui) → n ≤ ui.session → AreOfRisingSessions n us → AreOfRisingSessions n (ui_among ui us)
rising_put n ui [] low h = (low, tt)
rising_put n ui (u ∷ us) low h =
    put_step n ui u us (ui.session == u.session) (nat_lt ui.session u.session) low refl refl h (λ is. rising_put (suc u.session) ui us is h.1)

others_step : (n : ℕ) (u : Ui) (us : List Ui) (b : Bool) → n ≤ u.session → AreOfRisingSessions (suc u.session) us → AreOfRisingSessions n (cond (not b) (u ∷ us) us)
others_step n u us true low h = rising_from n (suc u.session) us (omega (arith, low)) h
others_step n u us false low h = (low, h)

rising_others : (n : ℕ) (ss : List ℕ) (us : List Ui) → AreOfRisingSessions n us → AreOfRisingSessions n (other_uis ss us)
rising_others n ss [] h = tt
rising_others n ss (u ∷ us) h =
    others_step n u (other_uis ss us) (list_any (λ s. s == u.session) ss) h.0 (rising_others (suc u.session) ss us h.1)

-- ---- the size of the screen
abbrev pub IsLeastOf : List ℕ → ℕ → Type 0
IsLeastOf [] n = Unit {0}
IsLeastOf (x ∷ xs) n = n ≡ least_of x xs

abbrev pub AreStanding : Stage → Type 0
AreStanding stage =
    AreOfRisingSessions 0 stage.uis
    × IsLeastOf (map (λ u. u.width) stage.uis) stage.workspace.width
    × IsLeastOf (map (λ u. u.height) stage.uis) stage.workspace.height

put_stand : (us : List Ui) (stage : Stage) → AreOfRisingSessions 0 us → AreStanding (with_uis us stage)
put_stand [] stage h = (tt, tt, tt)
put_stand (u ∷ us) stage h = (h, refl, refl)

spliced_stand : (n : ℤ) (s : Splice) (o : Option ModelBuffer) (stage : Stage) → AreStanding stage → AreStanding (stage_spliced n s o stage)
spliced_stand n s None stage h = h
spliced_stand n s (Some b) stage h = h

pub operation_stands : (c : Operation) (m : ModelEditor) → AreStanding m.stage → AreStanding (after_operation c m).stage
operation_stands (spliced n s) m h = spliced_stand n s (at_handle m.buffers n) m.stage h
operation_stands (spliced_back n s) m h = spliced_stand n s (at_handle m.buffers n) m.stage h
operation_stands (ui_put ui) m h = put_stand (ui_among ui m.stage.uis) m.stage (rising_put 0 ui m.stage.uis (omega arith) h.0)
operation_stands (uis_dropped sessions) m h = put_stand (other_uis sessions m.stage.uis) m.stage (rising_others 0 sessions m.stage.uis h.0)
operation_stands c m h = h

-- ---- a UI put with the size that it has
above_step : (n s : ℕ) (u : Ui) (us : List Ui) (old : Ui) (b : Bool) → (u.session == s) ≡ b → n ≤ u.session → (ui_of s us ≡ Some old → suc u.session ≤ s)
    → cond b (Some u) (ui_of s us) ≡ Some old → n ≤ s
above_step n s u us old true same low rest e = let here : u.session ≡ s = grind (arith, nat_tests) in omega (arith, low, here)
above_step n s u us old false same low rest e = let past = rest e in omega (arith, low, past)

above : (n s : ℕ) (us : List Ui) (old : Ui) → AreOfRisingSessions n us → ui_of s us ≡ Some old → n ≤ s
above n s [] old h is = absurd (none-some old is)
above n s (u ∷ us) old h is = above_step n s u us old (u.session == s) refl h.0 (λ e. above (suc u.session) s us old h.1 e) is

sizes_step : (size : Ui → ℕ) (ui old u : Ui) (us : List Ui) (b : Bool) → (u.session == ui.session) ≡ b → size ui ≡ size old
    → cond b (Some u) (ui_of ui.session us) ≡ Some old → (ui_of ui.session us ≡ Some old → suc u.session ≤ ui.session)
    → (ui_of ui.session us ≡ Some old → map size (ui_among ui us) ≡ map size us)
    → map size (cond (ui.session == u.session) (ui ∷ us) (cond (nat_lt ui.session u.session) (ui ∷ u ∷ us) (u ∷ ui_among ui us))) ≡ size u ∷ map size us
sizes_step size ui old u us true same even is past rest =
    let here : (ui.session == u.session) ≡ true = grind (arith, nat_tests) in
    ap (λ (t : Bool). map size (cond t (ui ∷ us) (cond (nat_lt ui.session u.session) (ui ∷ u ∷ us) (u ∷ ui_among ui us)))) here
    ∙ ap (λ (k : ℕ). k ∷ map size us) (even ∙ ap size (sym (same_Some u old is)))
sizes_step size ui old u us false same even is past rest =
    let low = past is in
    let apart : (ui.session == u.session) ≡ false = grind (arith, nat_tests) in
    let behind : nat_lt ui.session u.session ≡ false = grind (arith, nat_tests, low) in
    ap (λ (t : Bool). map size (cond t (ui ∷ us) (cond (nat_lt ui.session u.session) (ui ∷ u ∷ us) (u ∷ ui_among ui us)))) apart
    ∙ ap (λ (t : Bool). map size (cond t (ui ∷ u ∷ us) (u ∷ ui_among ui us))) behind
    ∙ ap (λ (l : List ℕ). size u ∷ l) (rest is)

same_sizes : (size : Ui → ℕ) (n : ℕ) (ui old : Ui) (us : List Ui) → AreOfRisingSessions n us → ui_of ui.session us ≡ Some old → size ui ≡ size old
    → map size (ui_among ui us) ≡ map size us
same_sizes size n ui old [] h is even = absurd (none-some old is)
same_sizes size n ui old (u ∷ us) h is even =
    sizes_step size ui old u us (u.session == ui.session) refl even is (λ e. above (suc u.session) ui.session us old h.1 e)
    (λ e. same_sizes size (suc u.session) ui old us h.1 e even)

kept_size : (us : List Ui) (stage : Stage) → IsLeastOf (map (λ (u : Ui). u.width) us) stage.workspace.width → IsLeastOf (map (λ (u : Ui). u.height) us) stage.workspace.height
    → (with_uis us stage).workspace ≡ stage.workspace
kept_size [] stage w h = refl
kept_size (u ∷ us) stage w h = let wide = sym w in let high = sym h in λ i. record stage.workspace { width = wide i; height = high i }

pub put_keeps_size : (ui old : Ui) (stage : Stage) → AreStanding stage → ui_of ui.session stage.uis ≡ Some old → ui.width ≡ old.width → ui.height ≡ old.height
    → (with_uis (ui_among ui stage.uis) stage).workspace ≡ stage.workspace
put_keeps_size ui old stage h is wide high =
    kept_size (ui_among ui stage.uis) stage
    (subst (λ (l : List ℕ). IsLeastOf l stage.workspace.width) (sym (same_sizes (λ u. u.width) 0 ui old stage.uis h.0 is wide)) h.1)
    (subst (λ (l : List ℕ). IsLeastOf l stage.workspace.height) (sym (same_sizes (λ u. u.height) 0 ui old stage.uis h.0 is high)) h.2)

pub put_groups : (us : List Ui) (stage : Stage) → (with_uis us stage).groups ≡ stage.groups
put_groups [] stage = refl
put_groups (u ∷ us) stage = refl
