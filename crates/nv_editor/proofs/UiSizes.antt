-- The least size of UIs, and the screen that has it.
use Rattle.std.proofs.Common.{◌≡◌, ℕ, suc, ◌+◌, ◌-◌, ◌<◌, ◌≤◌, ◌==◌, ◌&&◌, ◌||◌, Bool, true, false, cond, not, List, [], ◌∷◌, ◌++◌, length, map, min, fold, filter, take, get_or, nat_lt, nat_le, All, refl, sym, ap, subst, ◌∙◌, arith}
use Rattle.std.specs.List.{list_any, list_all}
use Rattle.std.proofs.lemmas.Bool.Decides.{nat_tests}
use Rattle.std.proofs.lemmas.List.Elements.{All-nil, All-cons, All-head, All-tail, All-filter}
use Rattle.nv_layout.specs.Content.{Shape}
use Rattle.nv_layout.specs.Least.{least}
use Rattle.nv_layout.specs.declared.nodes.Axis.TheVariants.{Across, Down}
use Rattle.nv_windows.specs.Rooms.{all_fit, fits_screen}
use Rattle.nv_windows.specs.Sound.{IsSoundPage, IsSoundWorkspace}
use Rattle.nv_windows.specs.Workspace.{Page, Workspace}
use Rattle.nv_model.specs.Stage.{Stage, least_of, other_uis, ui_among, with_uis}
use Rattle.nv_model.specs.declared.parts.Ui.{Ui}
use Rattle.nv_editor.specs.Uis.{AreOfRisingSessions, AreSoundUis, HasScreenSize, IsLeastSize, has_ui, ui_fits}
use Rattle.nv_editor.specs.inside.Sizes.{least_size}

-- ---- numbers
least_apart : (a b c : ℕ) → min (min a b) c ≡ min a (min b c)
least_apart a b c = grind (arith, nat_tests)

least_taken : (a b : ℕ) (l : List ℕ) → fold min (min a b) l ≡ min a (fold min b l)
least_taken a b [] = refl
least_taken a b (c ∷ l) = ap (λ (n : ℕ). fold min n l) (least_apart a b c) ∙ least_taken a (min b c) l

least_turned : (a b : ℕ) → min a b ≡ min b a
least_turned a b = grind (arith, nat_tests)

both_above : (k a b : ℕ) → k ≤ a → k ≤ b → k ≤ min a b
both_above k a b h i = grind (arith, nat_tests)

first_above : (a b : ℕ) → min a b ≤ a
first_above a b = grind (arith, nat_tests)

second_above : (a b : ℕ) → min a b ≤ b
second_above a b = grind (arith, nat_tests)

-- what is at most each of some numbers is at most the least
least_above : (size : Ui → ℕ) (k n : ℕ) (us : List Ui) → k ≤ n → All (λ (u : Ui). k ≤ size u) us → k ≤ least_of n (map size us)
least_above size k n [] h all = h
least_above size k n (u ∷ us) h all =
    least_above size k (min n (size u)) us (both_above k n (size u) h (All-head (λ (v : Ui). k ≤ size v) u us all)) (All-tail (λ (v : Ui). k ≤ size v) u us all)

-- the least is at most the first
pub least_first : (n : ℕ) (l : List ℕ) → least_of n l ≤ n
least_first n [] = omega arith
least_first n (m ∷ l) = omega (arith, least_first (min n m) l, first_above n m)

-- and at most each
least_each : (size : Ui → ℕ) (n : ℕ) (us : List Ui) → All (λ (u : Ui). least_of n (map size us) ≤ size u) us
least_each size n [] = All-nil (λ (u : Ui). n ≤ size u)
least_each size n (u ∷ us) =
    All-cons (λ (v : Ui). least_of (min n (size u)) (map size us) ≤ size v) u us
    (omega (arith, least_first (min n (size u)) (map size us), second_above n (size u)))
    (least_each size (min n (size u)) us)

-- ---- sessions
abbrev Others : ℕ → List Ui → List Ui
Others session us = other_uis (session ∷ []) us

later_too : (m n : ℕ) (us : List Ui) → n ≤ m → AreOfRisingSessions m us → AreOfRisingSessions n us
later_too m n [] h r = tt
later_too m n (u ∷ us) h r = (omega (arith, r.0), r.1)

kept_apart : (s n : ℕ) → s < n → not ((s == n) || false) ≡ true
kept_apart s n h = grind (arith, nat_tests)

none_other : (s n : ℕ) (us : List Ui) → s < n → AreOfRisingSessions n us → Others s us ≡ us
none_other s n [] h r = refl
none_other s n (u ∷ us) h r =
    ap (λ (t : Bool). cond t (u ∷ Others s us) (Others s us)) (kept_apart s u.session (omega (arith, r.0)))
    ∙ ap (λ (vs : List Ui). u ∷ vs) (none_other s (suc u.session) us (omega (arith, r.0)) r.1)

same_session : (s n : ℕ) → (s == n) ≡ true → s ≡ n
same_session s n e = grind (arith, nat_tests)

lower_session : (s n : ℕ) → nat_lt s n ≡ true → s < n
lower_session s n e = grind (arith, nat_tests)

higher_session : (s n : ℕ) → (s == n) ≡ false → nat_lt s n ≡ false → suc n ≤ s
higher_session s n e f = grind (arith, nat_tests)

-- ---- a UI in place of its session's
among_some : (ui : Ui) (us : List Ui) (n : ℕ) (size : Ui → ℕ)
    → least_of n (map size (ui_among ui us)) ≡ min n (least_size size (ui_among ui us))
among_some ui [] n size = refl
among_some ui (u ∷ us) n size = by (ui.session == u.session) (nat_lt ui.session u.session)
  where
    by : (a b : Bool) → least_of n (map size (cond a (ui ∷ us) (cond b (ui ∷ u ∷ us) (u ∷ ui_among ui us))))
        ≡ min n (least_size size (cond a (ui ∷ us) (cond b (ui ∷ u ∷ us) (u ∷ ui_among ui us))))
    by true b = least_taken n (size ui) (map size us)
    by false true = least_taken n (size ui) (map size (u ∷ us))
    by false false = least_taken n (size u) (map size (ui_among ui us))

-- the least of all sizes is that of the UI and those of other sessions
pub least_among : (size : Ui → ℕ) (ui : Ui) (n : ℕ) (us : List Ui) → AreOfRisingSessions n us
    → least_of (size ui) (map size (Others ui.session us)) ≡ least_size size (ui_among ui us)
least_among size ui n [] r = refl
least_among size ui n (u ∷ us) r =
    by (ui.session == u.session) refl (nat_lt ui.session u.session) refl (least_among size ui (suc u.session) us r.1)
  where
    by : (a : Bool) → (ui.session == u.session) ≡ a → (b : Bool) → nat_lt ui.session u.session ≡ b
        → least_of (size ui) (map size (Others ui.session us)) ≡ least_size size (ui_among ui us)
        → least_of (size ui) (map size (cond (not (a || false)) (u ∷ Others ui.session us) (Others ui.session us)))
        ≡ least_size size (cond a (ui ∷ us) (cond b (ui ∷ u ∷ us) (u ∷ ui_among ui us)))
    by true same b e rest =
        ap (λ (vs : List Ui). least_of (size ui) (map size vs))
        (none_other ui.session (suc u.session) us (omega (arith, same_session ui.session u.session same)) r.1)
    by false other true before rest =
        ap (λ (vs : List Ui). least_of (size ui) (map size (u ∷ vs)))
        (none_other ui.session (suc u.session) us (omega (arith, lower_session ui.session u.session before)) r.1)
    by false other false behind rest =
        ap (λ (n : ℕ). fold min n (map size (Others ui.session us))) (least_turned (size ui) (size u))
        ∙ least_taken (size u) (size ui) (map size (Others ui.session us))
        ∙ ap (min (size u)) rest
        ∙ sym (among_some ui us (size u) size)

-- ---- what UIs keep to
put_rises : (ui : Ui) (n : ℕ) (us : List Ui) → n ≤ ui.session → AreOfRisingSessions n us → AreOfRisingSessions n (ui_among ui us)
put_rises ui n [] h r = (h, tt)
put_rises ui n (u ∷ us) h r = by (ui.session == u.session) refl (nat_lt ui.session u.session) refl (λ i. put_rises ui (suc u.session) us i r.1)
  where
    by : (a : Bool) → (ui.session == u.session) ≡ a → (b : Bool) → nat_lt ui.session u.session ≡ b
        → (suc u.session ≤ ui.session → AreOfRisingSessions (suc u.session) (ui_among ui us))
        → AreOfRisingSessions n (cond a (ui ∷ us) (cond b (ui ∷ u ∷ us) (u ∷ ui_among ui us)))
    by true same b e rest = (h, later_too (suc u.session) (suc ui.session) us (omega (arith, same_session ui.session u.session same)) r.1)
    by false other true before rest = (h, (omega (arith, lower_session ui.session u.session before), r.1))
    by false other false behind rest = (r.0, rest (higher_session ui.session u.session other behind))

put_narrow : (ui : Ui) (us : List Ui) → HasScreenSize ui → All HasScreenSize us → All HasScreenSize (ui_among ui us)
put_narrow ui [] h all = All-cons HasScreenSize ui [] h (All-nil HasScreenSize)
put_narrow ui (u ∷ us) h all = by (ui.session == u.session) (nat_lt ui.session u.session) (put_narrow ui us h (All-tail HasScreenSize u us all))
  where
    by : (a b : Bool) → All HasScreenSize (ui_among ui us) → All HasScreenSize (cond a (ui ∷ us) (cond b (ui ∷ u ∷ us) (u ∷ ui_among ui us)))
    by true b rest = All-cons HasScreenSize ui us h (All-tail HasScreenSize u us all)
    by false true rest = All-cons HasScreenSize ui (u ∷ us) h all
    by false false rest = All-cons HasScreenSize u (ui_among ui us) (All-head HasScreenSize u us all) rest

left_rises : (p : Ui → Bool) (n : ℕ) (us : List Ui) → AreOfRisingSessions n us → AreOfRisingSessions n (filter p us)
left_rises p n [] r = tt
left_rises p n (u ∷ us) r = by (p u) (left_rises p (suc u.session) us r.1)
  where
    by : (t : Bool) → AreOfRisingSessions (suc u.session) (filter p us) → AreOfRisingSessions n (cond t (u ∷ filter p us) (filter p us))
    by true rest = (r.0, rest)
    by false rest = later_too (suc u.session) n (filter p us) (omega (arith, r.0)) rest

-- the stage with UIs keeps to it
sized : (us : List Ui) (stage : Stage) → AreOfRisingSessions 0 us → All HasScreenSize us
    → AreSoundUis (with_uis us stage).uis (with_uis us stage).workspace.width (with_uis us stage).workspace.height
sized [] stage rising narrow = record { rising = rising; narrow = narrow; least = tt }
sized (u ∷ us) stage rising narrow = record { rising = rising; narrow = narrow; least = (refl, refl) }

-- those with one in place of its session's, and those that are left
pub put_are : (ui : Ui) (us : List Ui) (width height : ℕ) → HasScreenSize ui → AreSoundUis us width height
    → AreOfRisingSessions 0 (ui_among ui us) × All HasScreenSize (ui_among ui us)
put_are ui us width height narrow sound = (put_rises ui 0 us (omega arith) sound.rising, put_narrow ui us narrow sound.narrow)

pub left_are : (sessions : List ℕ) (us : List Ui) (width height : ℕ) → AreSoundUis us width height
    → AreOfRisingSessions 0 (other_uis sessions us) × All HasScreenSize (other_uis sessions us)
left_are sessions us width height sound =
    let stays : Ui → Bool = λ (u : Ui). not (list_any (λ s. s == u.session) sessions) in
    (left_rises stays 0 us sound.rising, All-filter stays HasScreenSize us sound.narrow)

pub put_sound : (ui : Ui) (stage : Stage) → HasScreenSize ui → AreSoundUis stage.uis stage.workspace.width stage.workspace.height
    → AreSoundUis (with_uis (ui_among ui stage.uis) stage).uis (with_uis (ui_among ui stage.uis) stage).workspace.width (with_uis (ui_among ui stage.uis) stage).workspace.height
put_sound ui stage narrow sound =
    let are = put_are ui stage.uis stage.workspace.width stage.workspace.height narrow sound in sized (ui_among ui stage.uis) stage are.0 are.1

pub drop_sound : (sessions : List ℕ) (stage : Stage) → AreSoundUis stage.uis stage.workspace.width stage.workspace.height
    → AreSoundUis (with_uis (other_uis sessions stage.uis) stage).uis (with_uis (other_uis sessions stage.uis) stage).workspace.width (with_uis (other_uis sessions stage.uis) stage).workspace.height
drop_sound sessions stage sound =
    let are = left_are sessions stage.uis stage.workspace.width stage.workspace.height sound in sized (other_uis sessions stage.uis) stage are.0 are.1

-- ---- the screen that UIs give
-- a UI fits where the trees do on the least size
pub fits_by : (ui : Ui) (stage : Stage) (b : Bool) (width height : ℕ) → width ≡ least_size (λ v. v.width) (ui_among ui stage.uis)
    → height ≡ least_size (λ v. v.height) (ui_among ui stage.uis) → b ≡ all_fit width height stage.workspace → b ≡ ui_fits ui stage
fits_by ui stage b width height wide high is =
    is ∙ (λ i. all_fit (wide i) (high i) stage.workspace) ∙ from stage.uis
  where
    some : (u : Ui) (us : List Ui) → all_fit (least_size (λ v. v.width) (u ∷ us)) (least_size (λ v. v.height) (u ∷ us)) stage.workspace
        ≡ all_fit (with_uis (u ∷ us) stage).workspace.width (with_uis (u ∷ us) stage).workspace.height (with_uis (u ∷ us) stage).workspace
    some u us = refl

    from : (us : List Ui) → all_fit (least_size (λ v. v.width) (ui_among ui us)) (least_size (λ v. v.height) (ui_among ui us)) stage.workspace
        ≡ all_fit (with_uis (ui_among ui us) stage).workspace.width (with_uis (ui_among ui us) stage).workspace.height (with_uis (ui_among ui us) stage).workspace
    from [] = refl
    from (u ∷ us) = by (ui.session == u.session) (nat_lt ui.session u.session)
      where
        by : (a b : Bool) → all_fit (least_size (λ v. v.width) (cond a (ui ∷ us) (cond b (ui ∷ u ∷ us) (u ∷ ui_among ui us)))) (least_size (λ v. v.height) (cond a (ui ∷ us) (cond b (ui ∷ u ∷ us) (u ∷ ui_among ui us)))) stage.workspace
            ≡ all_fit (with_uis (cond a (ui ∷ us) (cond b (ui ∷ u ∷ us) (u ∷ ui_among ui us))) stage).workspace.width (with_uis (cond a (ui ∷ us) (cond b (ui ∷ u ∷ us) (u ∷ ui_among ui us))) stage).workspace.height (with_uis (cond a (ui ∷ us) (cond b (ui ∷ u ∷ us) (u ∷ ui_among ui us))) stage).workspace
        by true b = some ui us
        by false true = some ui (u ∷ us)
        by false false = some u (ui_among ui us)

-- trees that have their least size on a screen have it on a greater one
tree_fits : (wide high w h width height : ℕ) → wide ≤ w → high ≤ h - 1 → w ≤ width → h ≤ height → (nat_le wide width && nat_le high (height - 1)) ≡ true
tree_fits wide high w h width height a b c d = grind (arith, nat_tests)

pages_fit : (w h width height : ℕ) (ts : List Page) → w ≤ width → h ≤ height → All (IsSoundPage w h) ts
    → list_all (λ (t : Page). fits_screen width height t.tree) ts ≡ true
pages_fit w h width height [] c d all = refl
pages_fit w h width height (t ∷ ts) c d all =
    let p = All-head (IsSoundPage w h) t ts all in
    ap (λ (b : Bool). b && list_all (λ (u : Page). fits_screen width height u.tree) ts)
    (tree_fits (least Across t.tree) (least Down t.tree) w h width height p.roomy.wide p.roomy.high c d)
    ∙ pages_fit w h width height ts c d (All-tail (IsSoundPage w h) t ts all)

-- the UIs that are left have the screen's size or a greater one
left_size : (size : Ui → ℕ) (k : ℕ) (us : List Ui) → All (λ (u : Ui). k ≤ size u) us → 0 < length us → k ≤ least_size size us
left_size size k [] all some = absurd (omega arith)
left_size size k (u ∷ us) all some =
    least_above size k (size u) us (All-head (λ (v : Ui). k ≤ size v) u us all) (All-tail (λ (v : Ui). k ≤ size v) u us all)

each_size : (size : Ui → ℕ) (k : ℕ) (u : Ui) (us : List Ui) → k ≡ least_of (size u) (map size us) → All (λ (v : Ui). k ≤ size v) (u ∷ us)
each_size size k u us e =
    All-cons (λ (v : Ui). k ≤ size v) u us (omega (arith, e, least_first (size u) (map size us)))
    (subst (λ (n : ℕ). All (λ (v : Ui). n ≤ size v) us) (sym e) (least_each size (size u) us))

pub left_fit : (sessions : List ℕ) (uis : List Ui) (ws : Workspace) → IsLeastSize uis ws.width ws.height → IsSoundWorkspace ws
    → 0 < length (other_uis sessions uis)
    → all_fit (least_size (λ v. v.width) (other_uis sessions uis)) (least_size (λ v. v.height) (other_uis sessions uis)) ws ≡ true
left_fit sessions [] ws is sound some = absurd (omega arith)
left_fit sessions (u ∷ us) ws is sound some =
    let stays : Ui → Bool = λ (v : Ui). not (list_any (λ s. s == v.session) sessions) in
    pages_fit ws.width ws.height (least_size (λ v. v.width) (other_uis sessions (u ∷ us))) (least_size (λ v. v.height) (other_uis sessions (u ∷ us))) ws.tabpages
    (left_size (λ v. v.width) ws.width (other_uis sessions (u ∷ us))
    (All-filter stays (λ (v : Ui). ws.width ≤ v.width) (u ∷ us) (each_size (λ v. v.width) ws.width u us is.0)) some)
    (left_size (λ v. v.height) ws.height (other_uis sessions (u ∷ us))
    (All-filter stays (λ (v : Ui). ws.height ≤ v.height) (u ∷ us) (each_size (λ v. v.height) ws.height u us is.1)) some)
    sound.pages

-- ---- a session that has none
none_has : (session : ℕ) (us : List Ui) → has_ui session us ≡ false → other_uis (session ∷ []) us ≡ us
none_has session [] none = refl
none_has session (u ∷ us) none = by (u.session == session) refl (λ e. none_has session us e) none
  where
    apart : (m n : ℕ) → (m == n) ≡ false → not ((n == m) || false) ≡ true
    apart m n e = grind (arith, nat_tests)

    by : (t : Bool) → (u.session == session) ≡ t → (has_ui session us ≡ false → other_uis (session ∷ []) us ≡ us) → (t || has_ui session us) ≡ false
        → other_uis (session ∷ []) (u ∷ us) ≡ u ∷ us
    by true is rest e = cc
    by false is rest e =
        ap (λ (b : Bool). cond b (u ∷ other_uis (session ∷ []) us) (other_uis (session ∷ []) us)) (apart u.session session is)
        ∙ ap (λ (l : List Ui). u ∷ l) (rest e)

same_uis : (stage : Stage) (us : List Ui) → us ≡ stage.uis → IsLeastSize us stage.workspace.width stage.workspace.height → with_uis us stage ≡ stage
same_uis stage [] e is = λ i. record stage { uis = e i }
same_uis stage (u ∷ us) e is =
    λ i. record stage { uis = e i; workspace = record stage.workspace { width = sym is.0 i; height = sym is.1 i } }

pub none_dropped : (session : ℕ) (stage : Stage) → AreSoundUis stage.uis stage.workspace.width stage.workspace.height → has_ui session stage.uis ≡ false
    → with_uis (other_uis (session ∷ []) stage.uis) stage ≡ stage
none_dropped session stage sound none =
    ap (λ (us : List Ui). with_uis us stage) (none_has session stage.uis none) ∙ same_uis stage stage.uis refl sound.least
