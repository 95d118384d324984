-- Windows and tabpages, and the size of the screen (help: windows, tabpage).
use Rattle.std.specs.Prelude.{ℕ, ℤ, pos, Bool, List, [], ◌∷◌, map, filter, find, Option, is_some}
use Rattle.std.specs.Option.{option_map_or}
use Rattle.std.specs.Ordering.{int_eq}
use Rattle.nv_layout.specs.Content.{Shape, leaf, shape_of}
use Rattle.nv_layout.specs.Changes.{holds}
use Rattle.nv_windows.specs.declared.window.Window.{Window}
use Rattle.nv_windows.specs.declared.window.Tabpage.{Tabpage}

-- a tabpage: its tree of windows, and the handle of the current one of them (help: tabpage)
pub record Page : Type 0 where
  pub handle : ℤ
  pub tree : Shape
  pub current : ℤ

-- a tabpage as it is kept, without capacities and allocators
abbrev pub page_of : Tabpage → Page
page_of t = record { handle = t.handle; tree = shape_of t.tree; current = t.current }

-- all windows in their tabpages. Windows stand by rising handles, tabpages in their order;
-- `tabpage` is the handle of the current one, and width and height are those of the screen
pub record Workspace : Type 0 where
  pub windows : List Window
  pub tabpages : List Page
  pub tabpage : ℤ
  pub width : ℕ
  pub height : ℕ
  -- the handles that the next window and the next tabpage get
  pub next_window : ℤ
  pub next_tabpage : ℤ

-- the window, and the tabpage, of a handle
abbrev pub window_at : Workspace → ℤ → Option Window
window_at ws n = find (λ w. int_eq w.handle n) ws.windows

abbrev pub tabpage_at : Workspace → ℤ → Option Page
tabpage_at ws n = find (λ t. int_eq t.handle n) ws.tabpages

-- whether a window, and a tabpage, of a handle is there
abbrev pub is_live_window : Workspace → ℤ → Bool
is_live_window ws n = is_some (window_at ws n)

abbrev pub is_live_tabpage : Workspace → ℤ → Bool
is_live_tabpage ws n = is_some (tabpage_at ws n)

-- the tabpage that a window is in
abbrev pub tabpage_of : Workspace → ℤ → Option Page
tabpage_of ws w = find (λ t. holds w t.tree) ws.tabpages

-- the handle of the current window, that of the current tabpage, and 0 where there is none
-- (help: nvim_get_current_win())
abbrev pub current_window : Workspace → ℤ
current_window ws = option_map_or (λ t. t.current) (tabpage_at ws ws.tabpage) (pos 0)

-- the handle of the current buffer, that of the current window, and 0 where there is none
-- (help: nvim_get_current_buf())
abbrev pub current_buffer : Workspace → ℤ
current_buffer ws = option_map_or (λ w. w.buffer) (window_at ws (current_window ws)) (pos 0)

-- the handles of windows
abbrev pub handles_of_windows : List Window → List ℤ
handles_of_windows ws = map (λ w. w.handle) ws

-- the windows that show a buffer
abbrev pub showing : ℤ → List Window → List Window
showing n windows = filter (λ w. int_eq w.buffer n) windows

-- a window that shows a buffer from row 0 on
abbrev pub window_on : ℤ → ℤ → Window
window_on handle buffer =
    record { handle = handle; buffer = buffer; cursor = record { row = 0; col = 0 }; top = 0 }

-- a leaf that wishes nothing
abbrev pub plain_leaf : ℤ → Shape
plain_leaf window = leaf (record { window = window; width = 0; height = 0 })

-- at first window 1000 on a buffer in tabpage 1, and a screen of 80 by 24 (own rule)
abbrev pub fresh_workspace : ℤ → Workspace
fresh_workspace buffer = record {
  windows = window_on (pos 1000) buffer ∷ [];
  tabpages = record { handle = pos 1; tree = plain_leaf (pos 1000); current = pos 1000 } ∷ [];
  tabpage = pos 1;
  width = 80;
  height = 24;
  next_window = pos 1001;
  next_tabpage = pos 2;
}
