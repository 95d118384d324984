-- inside: UIs, by the sessions as they are kept.
use Rattle.std.specs.Prelude.{ℕ, ◌*◌, ◌≤◌, Option, IfSome, zero, suc, Bool, true, false, not, List, [], ◌∷◌, map, filter, is_some, slice_get}
use Rattle.std.specs.Option.{option_map_or}
use Rattle.nv_model.specs.Editors.{ModelEditor}
use Rattle.nv_model.specs.Operations.{uis_dropped, after_operation}
use Rattle.nv_model.specs.Standing.{PresentEditor, Stands}
use Rattle.nv_model.specs.declared.parts.Ui.{Ui}
use Rattle.nv_editor.specs.Sound.{AllSealed}
use Rattle.nv_screen.specs.declared.scene.Scene.{Scene}
use Rattle.nv_world.specs.declared.session.Session.{Session}

-- whether the session of a number is there and isn't closed
abbrev pub is_live_at : List Session → ℕ → Bool
is_live_at xs zero = false
is_live_at xs (suc place) =
    option_map_or (λ x. not (is_some x.closed)) (slice_get xs place) false

-- the sessions that lose their UIs: those that aren't live
abbrev pub losing_sessions : List Session → List Ui → List ℕ
losing_sessions xs uis =
    map (λ ui. ui.session) (filter (λ ui. not (is_live_at xs ui.session)) uis)

-- whether there are any
abbrev pub has_any : List ℕ → Bool
has_any [] = false
has_any (s ∷ ss) = true

-- a scene, where there is one, has at most 2,000,000 cells (own rule)
abbrev pub HasFewCells : Option Scene → Type 0
HasFewCells given = IfSome given (λ scene. scene.width * scene.height ≤ 2000000)

-- an editor of the model once the UIs of these sessions are gone, all together
abbrev pub editor_without_uis : List ℕ → ModelEditor → ModelEditor
editor_without_uis [] m = m
editor_without_uis (s ∷ ss) m = after_operation (uis_dropped (s ∷ ss)) m

-- an editor stands for one of the model, and no buffer of it has an open change
pub record StandsSealed (e : PresentEditor) (m : ModelEditor) : Type 0 where
  pub stands : Stands e m
  pub sealed : AllSealed e
