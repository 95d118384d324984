-- The room that windows have on the screen, and the handles that are left (own rules).
use Rattle.std.specs.Prelude.{ℕ, ℤ, pos, ◌-◌, ◌^◌, ◌==◌, false, Bool, ◌&&◌, nat_le, int_le, List, flat_map, length, Option, option_map, option_and_then}
use Rattle.std.specs.Option.{option_map_or}
use Rattle.std.specs.List.{list_all}
use Rattle.nv_layout.specs.Content.{Shape}
use Rattle.nv_layout.specs.Changes.{split}
use Rattle.nv_layout.specs.Least.{least, leaves_of}
use Rattle.nv_layout.specs.Places.{rects, rect_among}
use Rattle.nv_layout.specs.Tiling.{windows}
use Rattle.nv_layout.specs.declared.nodes.Axis.TheVariants.{Across, Down}
use Rattle.nv_layout.specs.declared.nodes.Leaf.{Leaf}
use Rattle.nv_layout.specs.declared.nodes.Rect.{Rect}
use Rattle.nv_layout.specs.declared.nodes.Side.{Side}
use Rattle.nv_windows.specs.Workspace.{Page, Workspace, tabpage_of}

-- the windows of a tabpage in tree order, and those of all tabpages
-- (help: nvim_tabpage_list_wins(), nvim_list_wins())
abbrev pub windows_in : Page → List ℤ
windows_in t = windows (leaves_of t.tree)

abbrev pub all_windows : Workspace → List ℤ
all_windows ws = flat_map windows_in ws.tabpages

-- whether a tabpage has one window alone
abbrev pub has_one_window : Page → Bool
has_one_window t = length (windows_in t) == 1

-- the rows and columns that windows have: all of the screen but its last row
abbrev pub screen_area : ℕ → ℕ → Rect
screen_area width height = record { row = 0; col = 0; width = width; height = height - 1 }

abbrev pub windows_area : Workspace → Rect
windows_area ws = screen_area ws.width ws.height

-- whether a tree has its least size on a screen
abbrev pub fits_screen : ℕ → ℕ → Shape → Bool
fits_screen width height tree =
    nat_le (least Across tree) width && nat_le (least Down tree) (height - 1)

abbrev pub has_room : Workspace → Shape → Bool
has_room ws tree = fits_screen ws.width ws.height tree

-- the rectangle of a window on the screen: its text with, as the last row, its status line
abbrev pub rect_in : Workspace → ℤ → Page → Option Rect
rect_in ws w t = rect_among w (rects t.tree (windows_area ws))

abbrev pub window_rect : Workspace → ℤ → Option Rect
window_rect ws w = option_and_then (rect_in ws w) (tabpage_of ws w)

-- its text cells (help: api-window)
abbrev pub without_status : Rect → Rect
without_status area = record area { height = area.height - 1 }

abbrev pub text_area : Workspace → ℤ → Option Rect
text_area ws w = option_map without_status (window_rect ws w)

-- a leaf without wishes for the next window
abbrev pub next_leaf : Workspace → Leaf
next_leaf ws = record { window = ws.next_window; width = 0; height = 0 }

-- whether there is room for a further window on a side of one
abbrev pub has_room_beside : Workspace → ℤ → Side → Bool
has_room_beside ws beside side =
    option_map_or (λ t. has_room ws (split side beside (next_leaf ws) t.tree))
    (tabpage_of ws beside) false

-- whether each tabpage's tree has its least size on a screen
abbrev pub all_fit : ℕ → ℕ → Workspace → Bool
all_fit width height ws = list_all (λ (t : Page). fits_screen width height t.tree) ws.tabpages

-- the greatest handle
abbrev pub last_handle : ℤ
last_handle = pos (2 ^ 62)

-- whether a handle is left for a window, and for a tabpage
abbrev pub has_window_left : Workspace → Bool
has_window_left ws = int_le ws.next_window last_handle

abbrev pub has_tabpage_left : Workspace → Bool
has_tabpage_left ws = int_le ws.next_tabpage last_handle

-- a further tabpage takes a handle of each kind
abbrev pub has_handles_left : Workspace → Bool
has_handles_left ws = has_window_left ws && has_tabpage_left ws
