-- Operations that leave tabpages, trees and UIs keep windows sound.
use Rattle.std.proofs.Common.{◌≡◌, ℕ, ℤ, ◌<◌, ◌^◌, List, [], ◌∷◌, ◌++◌, length, map, refl, sym, ◌∙◌, subst, arith, Bool, true, false, All, Option, Some, None}
use Rattle.std.specs.Prelude.{if◌then◌else◌}
use Rattle.std.specs.List.{AllByRecursion}
use Rattle.std.specs.Ordering.{int_eq}
use Rattle.std.proofs.lemmas.List.Elements.{All-head}
use Rattle.nv_windows.specs.Rooms.{all_fit}
use Rattle.nv_windows.specs.Sound.{IsSoundWorkspace}
use Rattle.nv_windows.specs.Workspace.{window_on}
use Rattle.nv_windows.specs.declared.window.Window.{Window}
use Rattle.nv_windows.proofs.SoundLaws.{views_sound}
use Rattle.nv_windows.proofs.Soundness.{wish_sound}
use Rattle.nv_windows.proofs.SoundTabs.{with_size_sound}
use Rattle.nv_model.specs.Buffers.{Splice, ModelBuffer, text_of}
use Rattle.nv_model.specs.Editors.{ModelEditor, at_handle}
use Rattle.nv_model.specs.Operations.{Operation, spliced, spliced_back, window_opened, window_closed, tab_made, tab_closed, went_to_window, went_to_tab, cursor_put, top_put, shown, wish_put, ui_put, uis_dropped, stage_spliced, after_operation, after_operations}
use Rattle.nv_model.specs.Stage.{Stage, least_of, with_uis, ui_among, other_uis, view_moved}
use Rattle.nv_model.specs.declared.parts.Ui.{Ui}
use Rattle.nv_editor.specs.Uis.{HasScreenSize, AreSoundUis, IsLeastSize, ui_fits}
use Rattle.nv_editor.specs.inside.Sizes.{least_size}
use Rattle.nv_editor.proofs.UiSizes.{put_sound, drop_sound, left_fit, least_first}

-- windows are sound, and the screen has the least size of the UIs
abbrev pub IsSafeStage : Stage → Type 0
IsSafeStage stage = IsSoundWorkspace stage.workspace × AreSoundUis stage.uis stage.workspace.width stage.workspace.height

-- ---- operations that leave tabpages, trees and UIs
abbrev pub IsHarmless : Operation → Type 0
IsHarmless (window_opened beside side buffer width height) = ⊥
IsHarmless (window_closed w) = ⊥
IsHarmless (tab_made buffer) = ⊥
IsHarmless (tab_closed t) = ⊥
IsHarmless (went_to_window w) = ⊥
IsHarmless (went_to_tab t) = ⊥
IsHarmless (ui_put ui) = ⊥
IsHarmless (uis_dropped sessions) = ⊥
IsHarmless _ = Unit {0}

abbrev pub AllHarmless : List Operation → Type 0
AllHarmless operations = AllByRecursion IsHarmless operations

pub harmless-append : (cs ds : List Operation) → AllHarmless cs → AllHarmless ds → AllHarmless (cs ++ ds)
harmless-append [] ds are more = more
harmless-append (c ∷ cs) ds are more = (are.0, harmless-append cs ds are.1 more)

keeps_name : (b : Bool) (v w : Window) → v.handle ≡ w.handle → (if b then v else w).handle ≡ w.handle
keeps_name true v w e = e
keeps_name false v w e = refl

spliced_safe : (n : ℤ) (s : Splice) (o : Option ModelBuffer) (stage : Stage) → IsSafeStage stage → IsSafeStage (stage_spliced n s o stage)
spliced_safe n s None stage h = h
spliced_safe n s (Some b) stage h =
    (views_sound stage.workspace (λ w. if int_eq w.buffer n then view_moved (text_of b) s w else w) (λ w. keeps_name (int_eq w.buffer n) (view_moved (text_of b) s w) w refl) h.0, h.1)

pub harmless_safe : (c : Operation) → IsHarmless c → (m : ModelEditor) → IsSafeStage m.stage → IsSafeStage (after_operation c m).stage
harmless_safe (window_opened beside side buffer width height) is m h = absurd is
harmless_safe (window_closed w) is m h = absurd is
harmless_safe (tab_made buffer) is m h = absurd is
harmless_safe (tab_closed t) is m h = absurd is
harmless_safe (went_to_window w) is m h = absurd is
harmless_safe (went_to_tab t) is m h = absurd is
harmless_safe (ui_put ui) is m h = absurd is
harmless_safe (uis_dropped sessions) is m h = absurd is
harmless_safe (spliced n s) is m h = spliced_safe n s (at_handle m.buffers n) m.stage h
harmless_safe (spliced_back n s) is m h = spliced_safe n s (at_handle m.buffers n) m.stage h
harmless_safe (cursor_put n p) is m h =
    (views_sound m.stage.workspace (λ w. if int_eq w.handle n then record w { cursor = p } else w) (λ w. keeps_name (int_eq w.handle n) (record w { cursor = p }) w refl) h.0, h.1)
harmless_safe (top_put n row) is m h =
    (views_sound m.stage.workspace (λ w. if int_eq w.handle n then record w { top = row } else w) (λ w. keeps_name (int_eq w.handle n) (record w { top = row }) w refl) h.0, h.1)
harmless_safe (shown n buffer) is m h =
    (views_sound m.stage.workspace (λ w. if int_eq w.handle n then window_on w.handle buffer else w) (λ w. keeps_name (int_eq w.handle n) (window_on w.handle buffer) w refl) h.0, h.1)
harmless_safe (wish_put n axis size) is m h = (wish_sound m.stage.workspace n axis size h.0, h.1)
harmless_safe c is m h = h

pub all_harmless_safe : (cs : List Operation) → AllHarmless cs → (m : ModelEditor) → IsSafeStage m.stage → IsSafeStage (after_operations cs m).stage
all_harmless_safe [] are m h = h
all_harmless_safe (c ∷ cs) are m h = all_harmless_safe cs are.1 (after_operation c m) (harmless_safe c are.0 m h)

-- ---- UIs
sized : (us : List Ui) (stage : Stage) → IsSoundWorkspace stage.workspace → All HasScreenSize us
    → (0 < length us → all_fit (with_uis us stage).workspace.width (with_uis us stage).workspace.height stage.workspace ≡ true) → IsSoundWorkspace (with_uis us stage).workspace
sized [] stage sound narrow fits = sound
sized (u ∷ us) stage sound narrow fits =
    let first = All-head HasScreenSize u us narrow in
    let wide : least_of u.width (map (λ (v : Ui). v.width) us) < 2 ^ 16 = let low = least_first u.width (map (λ (v : Ui). v.width) us) in let top = first.0 in omega (arith, low, top) in
    let high : least_of u.height (map (λ (v : Ui). v.height) us) < 2 ^ 16 = let low = least_first u.height (map (λ (v : Ui). v.height) us) in let top = first.1 in omega (arith, low, top) in
    with_size_sound stage.workspace (least_of u.width (map (λ (v : Ui). v.width) us)) (least_of u.height (map (λ (v : Ui). v.height) us)) wide high (fits (omega arith)) sound

same_fit : (us : List Ui) (stage : Stage) → all_fit (with_uis us stage).workspace.width (with_uis us stage).workspace.height (with_uis us stage).workspace
    ≡ all_fit (with_uis us stage).workspace.width (with_uis us stage).workspace.height stage.workspace
same_fit [] stage = refl
same_fit (u ∷ us) stage = refl

uis_narrow : (us : List Ui) (stage : Stage) → AreSoundUis (with_uis us stage).uis (with_uis us stage).workspace.width (with_uis us stage).workspace.height → All HasScreenSize us
uis_narrow [] stage h = h.narrow
uis_narrow (u ∷ us) stage h = h.narrow

pub ui_put_safe : (ui : Ui) (m : ModelEditor) → HasScreenSize ui → ui_fits ui m.stage ≡ true → IsSafeStage m.stage → IsSafeStage (after_operation (ui_put ui) m).stage
ui_put_safe ui m narrow fits h =
    let uis = put_sound ui m.stage narrow h.1 in
    (sized (ui_among ui m.stage.uis) m.stage h.0 (uis_narrow (ui_among ui m.stage.uis) m.stage uis) (λ some. sym (same_fit (ui_among ui m.stage.uis) m.stage) ∙ fits), uis)

left_size : (ss : List ℕ) (us : List Ui) (stage : Stage) → us ≡ other_uis ss stage.uis → IsLeastSize stage.uis stage.workspace.width stage.workspace.height → IsSoundWorkspace stage.workspace
    → 0 < length us → all_fit (with_uis us stage).workspace.width (with_uis us stage).workspace.height stage.workspace ≡ true
left_size ss [] stage is least sound some = absurd (omega (arith, some))
left_size ss (u ∷ us) stage is least sound some =
    subst (λ (l : List Ui). 0 < length l → all_fit (least_size (λ v. v.width) l) (least_size (λ v. v.height) l) stage.workspace ≡ true) (sym is)
    (λ few. left_fit ss stage.uis stage.workspace least sound few) some

pub uis_dropped_safe : (ss : List ℕ) (m : ModelEditor) → IsSafeStage m.stage → IsSafeStage (after_operation (uis_dropped ss) m).stage
uis_dropped_safe ss m h =
    let uis = drop_sound ss m.stage h.1 in
    (sized (other_uis ss m.stage.uis) m.stage h.0 (uis_narrow (other_uis ss m.stage.uis) m.stage uis) (left_size ss (other_uis ss m.stage.uis) m.stage refl h.1.least h.0), uis)
