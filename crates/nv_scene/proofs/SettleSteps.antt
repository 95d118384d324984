-- An editor whose windows are settled one after another.
use Rattle.std.proofs.Common.{ℕ, ◌+◌, ◌<◌, ◌≤◌, List, length, take, sym, ap, subst, ◌∙◌}
use Rattle.std.specs.Prelude.{flat_map}
use Rattle.std.proofs.lemmas.List.{take_all}
use Rattle.nv_windows.specs.Sound.{IsSoundWorkspace}
use Rattle.nv_windows.specs.declared.window.Window.{Window}
use Rattle.nv_model.specs.Editors.{ModelEditor}
use Rattle.nv_model.specs.Operations.{Operation, after_operations}
use Rattle.nv_model.specs.Seen.{Seen, seen_of}
use Rattle.nv_model.specs.Stage.{Stage}
use Rattle.nv_model.specs.Standing.{PresentEditor, Stands, seen_now}
use Rattle.nv_model.proofs.Seeing.{seen_is_same}
use Rattle.nv_editor.specs.Doing.{Does}
use Rattle.nv_scene.specs.Settling.{settle_operations, window_settling}
use Rattle.nv_scene.specs.inside.Settled.{settling_at}
use Rattle.nv_scene.proofs.Settled.{settled_more}

-- the first n windows of a model editor are settled
abbrev pub first_operations : ModelEditor → ℕ → List Operation
first_operations m n = flat_map (window_settling (seen_of m)) (take n m.stage.workspace.windows)

-- and of each that an editor stood for
abbrev pub AreSettled : ℕ → PresentEditor → PresentEditor → Type 0
AreSettled n old now = (m : ModelEditor) → Stands old m → Stands now (after_operations (first_operations m n) m)

pub settle_start : (old : PresentEditor) → AreSettled 0 old old
settle_start old m stands = stands

pub settle_step : (old now later : PresentEditor) (n : ℕ) → IsSoundWorkspace old.stage.workspace → n < length old.stage.workspace.windows
    → AreSettled n old now → Does (settling_at (seen_now now) n) now later → AreSettled (n + 1) old later
settle_step old now later n sound within are does m stands =
    let reached : ModelEditor = after_operations (first_operations m n) m in
    let here : Stands now reached = are m stands in
    let same : IsSoundWorkspace m.stage.workspace = subst (λ (s : Stage). IsSoundWorkspace s.workspace) stands.stage sound in
    let less : n < length m.stage.workspace.windows = subst (λ (s : Stage). n < length s.workspace.windows) stands.stage within in
    subst (λ (e : ModelEditor). Stands later e) (settled_more m n same less)
    (subst (λ (s : Seen). Stands later (after_operations (settling_at s n) reached)) (seen_is_same now reached here) (does reached here))

pub settle_end : (old now : PresentEditor) (n : ℕ) → length old.stage.workspace.windows ≤ n → AreSettled n old now → Does (settle_operations (seen_now old)) old now
settle_end old now n all are m stands =
    let ws : List Window = m.stage.workspace.windows in
    let most : length ws ≤ n = subst (λ (s : Stage). length s.workspace.windows ≤ n) stands.stage all in
    subst (λ (os : List Operation). Stands now (after_operations os m))
    (ap (flat_map (window_settling (seen_of m))) (take_all n ws most) ∙ ap settle_operations (sym (seen_is_same old m stands)))
    (are m stands)
