-- What a painter stands for.
use Rattle.std.specs.Prelude.{◌≡◌, List, [], Some}
use Rattle.nv_linegrid.specs.declared.event.Redraw.{Redraw}
use Rattle.nv_linegrid.specs.Client.{client_after_all, ShowsScreen}
use Rattle.nv_linegrid.specs.Told.{Told, client_of, nothing_told}
use Rattle.nv_screen.specs.declared.scene.Scene.{Scene}
use Rattle.nv_screen.specs.Cursor.{cursor_of_scene}
use Rattle.nv_screen.specs.Drawing.{screen_of_scene}
use Rattle.nv_painter.specs.Keys.{LineKey}

-- what its client was told, and the keys of the lines whose cells it keeps
pub record Painting : Type 0 where
  pub told : Told
  pub keys : List LineKey

abbrev pub first_painting : Painting
first_painting = record { told = nothing_told; keys = [] }

-- folding events takes a client from what was told before to what was told after, and it then shows
-- the scene as it is drawn, with no cell unknown
pub record ShowsScene (before after : Told) (events : List Redraw) (s : Scene) : Type 0 where
  pub folds : client_after_all (client_of before) events ≡ Some (client_of after)
  pub shows : ShowsScreen (client_of after) (screen_of_scene s) s.colours (cursor_of_scene s)
