-- inside: one window after another is settled. Only private contracts cite this.
use Rattle.std.specs.Prelude.{ℕ, ◌+◌, ◌^◌, ◌<◌, List, [], slice_get}
use Rattle.std.specs.Option.{option_map_or}
use Rattle.nv_layout.specs.declared.nodes.Rect.{Rect}
use Rattle.nv_model.specs.Operations.{Operation}
use Rattle.nv_model.specs.Seen.{Seen}
use Rattle.nv_scene.specs.Settling.{window_settling}

-- the window at a place is settled, where one is there
abbrev pub settling_at : Seen → ℕ → List Operation
settling_at s place =
    option_map_or (window_settling s) (slice_get s.stage.workspace.windows place) []

-- the size of the text cells of a window
pub record IsTextArea (area : Rect) : Type 0 where
  pub wide : 0 < area.width
  pub high : 0 < area.height
  pub low : area.height < 2 ^ 16
  pub rows : area.row + area.height < 2 ^ 16
  pub cols : area.col + area.width < 2 ^ 16
