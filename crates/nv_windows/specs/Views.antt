-- How a splice of a buffer's text moves what its windows show (help: gravity; own rules).
use Rattle.std.specs.Prelude.{ℕ, ℤ, ◌-◌, false, if◌then◌else◌, List, map, min, true, ◌≡◌}
use Rattle.std.specs.Ordering.{int_eq}
use Rattle.nv_places.specs.Places.{IsNarrow}
use Rattle.nv_places.specs.Moves.{moved_place}
use Rattle.nv_places.specs.declared.place.Extent.{Extent}
use Rattle.nv_places.specs.declared.place.Pos.{Pos}
use Rattle.nv_windows.specs.Workspace.{Workspace}
use Rattle.nv_windows.specs.declared.window.Window.{Window}

-- a splice in rows and columns: the extent `old` from `start` on became the extent `new`, and the
-- text has so many lines afterwards
pub record Move : Type 0 where
  pub start : Pos
  pub old : Extent
  pub new : Extent
  pub count : ℕ

-- a place moved by it, with left gravity
abbrev pub place_after : Move → Pos → Pos
place_after m p = moved_place false m.start m.old m.new p

-- a row kept in a text of so many lines: at most the last one
abbrev pub row_within : ℕ → ℕ → ℕ
row_within count row = min row (count - 1)

-- a cursor's row kept in the text; its column is left to whoever knows the line
abbrev pub cursor_within : ℕ → Pos → Pos
cursor_within count p = record p { row = row_within count p.row }

-- the start of a row
abbrev pub row_begin : ℕ → Pos
row_begin row = record { row = row; col = 0 }

-- a window that shows the text: its cursor and the start of its first row move, and stay in the
-- text
abbrev pub view_after : Move → Window → Window
view_after m w = record w {
  cursor = cursor_within m.count (place_after m w.cursor);
  top = row_within m.count (place_after m (row_begin w.top)).row;
}

-- the windows after a splice of the text of a buffer: those that show it move
abbrev pub view_showing : ℤ → Move → Window → Window
view_showing n m w = if int_eq w.buffer n then view_after m w else w

abbrev pub views_after : ℤ → Move → List Window → List Window
views_after n m windows = map (view_showing n m) windows

abbrev pub after_splice : ℤ → Move → Workspace → Workspace
after_splice n m ws = record ws { windows = views_after n m ws.windows }

-- the moved places of a window stay numbers of 32 bits, where it shows the buffer
pub record MovesNarrowlyIn (n : ℤ) (m : Move) (w : Window) : Type 0 where
  pub cursor : int_eq w.buffer n ≡ true → IsNarrow (place_after m w.cursor)
  pub top : int_eq w.buffer n ≡ true → IsNarrow (place_after m (row_begin w.top))
