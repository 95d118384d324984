-- The UIs of sessions, and the screen that they share (help: ui, nvim_ui_attach()).
use Rattle.std.specs.Prelude.{ℕ, suc, ◌≡◌, ◌≤◌, ◌<◌, ◌^◌, ◌==◌, Bool, List, [], ◌∷◌, map, All}
use Rattle.std.specs.List.{list_any}
use Rattle.nv_windows.specs.Rooms.{all_fit}
use Rattle.nv_windows.specs.Workspace.{Workspace}
use Rattle.nv_model.specs.Stage.{Stage, least_of, with_uis, ui_among}
use Rattle.nv_model.specs.declared.parts.Ui.{Ui}

-- whether a session has a UI
abbrev pub has_ui : ℕ → List Ui → Bool
has_ui session uis = list_any (λ u. u.session == session) uis

-- whether each tabpage's tree has its least size on the screen that windows have
abbrev pub screen_fits : Workspace → Bool
screen_fits ws = all_fit ws.width ws.height ws

-- whether it would have that with this UI in place of its session's
abbrev pub ui_fits : Ui → Stage → Bool
ui_fits ui stage = screen_fits (with_uis (ui_among ui stage.uis) stage).workspace

-- UIs of sessions that rise, none below this one
abbrev pub AreOfRisingSessions : ℕ → List Ui → Type 0
AreOfRisingSessions session [] = Unit {0}
AreOfRisingSessions session (u ∷ us) =
    (session ≤ u.session) × AreOfRisingSessions (suc u.session) us

-- a UI has a size that a screen can have
abbrev pub HasScreenSize : Ui → Type 0
HasScreenSize ui = (ui.width < 2 ^ 16) × (ui.height < 2 ^ 16)

-- the screen has the least width of the UIs by their least height, where there is one (own rule)
abbrev pub IsLeastSize : List Ui → ℕ → ℕ → Type 0
IsLeastSize [] width height = Unit {0}
IsLeastSize (u ∷ us) width height =
    (width ≡ least_of u.width (map (λ v. v.width) us))
    × (height ≡ least_of u.height (map (λ v. v.height) us))

-- what the UIs of a screen keep to
pub record AreSoundUis (uis : List Ui) (width height : ℕ) : Type 0 where
  pub rising : AreOfRisingSessions 0 uis
  pub narrow : All HasScreenSize uis
  pub least : IsLeastSize uis width height
