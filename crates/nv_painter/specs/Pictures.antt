-- What a client is to show of a scene (own rule).
use Rattle.std.specs.Prelude.{ℕ, min, List, [], ◌∷◌, map, if◌then◌else◌, int_lt}
use Rattle.nv_linedraw.specs.LineCells.{rows_of_line}
use Rattle.nv_screen.specs.declared.scene.Pane.{Pane}
use Rattle.nv_screen.specs.declared.scene.Scene.{Scene}
use Rattle.nv_screen.specs.declared.scene.SceneLine.{SceneLine}
use Rattle.nv_screen.specs.Cursor.{cursor_of_scene}
use Rattle.nv_screen.specs.Drawing.{screen_of_scene}
use Rattle.nv_linegrid.specs.Told.{View, Wanted}

-- the rows of a line in a window, at most as many as the window has
abbrev pub rows_in_pane : Pane → SceneLine → ℕ
rows_in_pane p line = min p.rect.height (rows_of_line p.rect.width p.tabstop line.bytes)

-- a window with the rows of each of its lines from the first on
abbrev pub view_of : Pane → View
view_of p = record {
  window = p.window;
  row = p.rect.row;
  col = p.rect.col;
  width = p.rect.width;
  height = p.rect.height;
  buffer = p.buffer;
  tick = p.tick;
  tabstop = p.tabstop;
  first = p.top;
  heights = map (rows_in_pane p) p.lines.items;
}

-- a window among others that stand by rising handles
abbrev pub with_view : View → List View → List View
with_view v [] = v ∷ []
with_view v (w ∷ ws) = if int_lt v.window w.window then v ∷ w ∷ ws else w ∷ with_view v ws

-- windows by rising handles, with these
abbrev pub views_with : List View → List View → List View
views_with sorted [] = sorted
views_with sorted (v ∷ vs) = views_with (with_view v sorted) vs

abbrev pub views_of : List Pane → List View
views_of panes = views_with [] (map view_of panes)

-- the screen that the scene is drawn as, the cell of its cursor, and its windows by rising handles
abbrev pub picture_of : Scene → Wanted
picture_of s = record {
  screen = screen_of_scene s;
  colours = s.colours;
  cursor = cursor_of_scene s;
  views = views_of s.panes.items;
}
