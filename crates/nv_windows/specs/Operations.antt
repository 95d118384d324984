-- What the operations on windows and tabpages do.
use Rattle.std.specs.Prelude.{ℕ, ℤ, pos, ◌-◌, ◌+ℤ◌, ◌==◌, ◌&&◌, if◌then◌else◌, Bool, not, List, [], ◌∷◌, ◌++◌, length, map, filter, fold, min, take_while, drop, slice_index_or, true, Option, Some, None}
use Rattle.std.specs.Option.{option_map_or}
use Rattle.std.specs.List.{list_any}
use Rattle.std.specs.Ordering.{int_eq}
use Rattle.nv_places.specs.declared.place.Pos.{Pos}
use Rattle.nv_layout.specs.Content.{Shape}
use Rattle.nv_layout.specs.Changes.{holds, split, close, with_wish}
use Rattle.nv_layout.specs.declared.nodes.Axis.{Axis}
use Rattle.nv_layout.specs.declared.nodes.Axis.TheVariants.{Across, Down}
use Rattle.nv_layout.specs.declared.nodes.Side.{Side}
use Rattle.nv_windows.specs.Workspace.{Page, Workspace, plain_leaf, tabpage_of, window_on}
use Rattle.nv_windows.specs.Rooms.{windows_in, has_one_window, next_leaf, has_room_beside, has_window_left, has_handles_left, all_fit}
use Rattle.nv_windows.specs.declared.window.Window.{Window}
use Rattle.nv_windows.specs.declared.window.Opened.{Opened}
use Rattle.nv_windows.specs.declared.window.Opened.TheVariants.{Window as OpenedWindow, NoId, NoRoom}

-- the windows, changed where they are of this handle
abbrev pub windows_with : ℤ → (Window → Window) → List Window → List Window
windows_with n change windows = map (λ w. if int_eq w.handle n then change w else w) windows

-- a tabpage, changed where it has a window; and tabpages
abbrev pub page_with : ℤ → (Page → Page) → Page → Page
page_with w change t = if holds w t.tree then change t else t

abbrev pub tabpages_with : ℤ → (Page → Page) → List Page → List Page
tabpages_with w change tabpages = map (page_with w change) tabpages

-- a tree in which a window wishes a width and a height, which counts the status line; 0 for none
abbrev pub with_wishes : ℤ → ℕ → ℕ → Shape → Shape
with_wishes w width height t = with_wish Down height w (with_wish Across width w t)

-- a tree with the next window on a side of another one, and its wishes
abbrev pub tree_opened : Workspace → ℤ → Side → ℕ → ℕ → Shape → Shape
tree_opened ws beside side width height t =
    with_wishes ws.next_window width height (split side beside (next_leaf ws) t)

-- the next window, with its wishes, opened on a side of another one: it shows a buffer at row 0
-- (help: nvim_open_win())
abbrev pub with_window : ℤ → Side → ℤ → ℕ → ℕ → Workspace → Workspace
with_window beside side buffer width height ws = record ws {
  windows = ws.windows ++ window_on ws.next_window buffer ∷ [];
  tabpages =
      tabpages_with beside
      (λ t. record t { tree = tree_opened ws beside side width height t.tree })
      ws.tabpages;
  next_window = ws.next_window +ℤ pos 1;
}

-- a window becomes the current one, and its tabpage the current one (help: nvim_set_current_win())
abbrev pub at_window : ℤ → Workspace → Workspace
at_window w ws = record ws {
  tabpages = tabpages_with w (λ t. record t { current = w }) ws.tabpages;
  tabpage = option_map_or (λ t. t.handle) (tabpage_of ws w) ws.tabpage;
}

-- a tabpage becomes the current one (help: nvim_set_current_tabpage())
abbrev pub at_tabpage : ℤ → Workspace → Workspace
at_tabpage n ws = record ws { tabpage = n }

-- what is answered where a window is to be opened: no handle is left, there is no room, or its
-- handle
abbrev pub opening : Workspace → ℤ → Side → Opened
opening ws beside side =
    if has_window_left ws
    then (if has_room_beside ws beside side then OpenedWindow ws.next_window else NoRoom)
    else NoId

-- the windows after that: with `enter` the new one becomes the current one
abbrev pub entered_where : Bool → ℤ → Workspace → Workspace
entered_where enter w ws = if enter then at_window w ws else ws

abbrev pub after_opening : ℤ → Side → ℤ → ℕ → ℕ → Bool → Workspace → Workspace
after_opening beside side buffer width height enter ws =
    if has_window_left ws && has_room_beside ws beside side
    then entered_where enter ws.next_window (with_window beside side buffer width height ws)
    else ws

-- the last of some handles, and another one where there are none
abbrev pub last_or : ℤ → List ℤ → ℤ
last_or other handles = fold (λ before n. n) other handles

-- the handle in front of one among others, or the first of the others (own rule)
abbrev pub neighbour : ℤ → List ℤ → ℤ
neighbour n handles =
    last_or (slice_index_or (drop 1 handles) 0 n) (take_while (λ k. not (int_eq k n)) handles)

-- a tabpage of which this is left without one of its windows: where that was the current one, the
-- one before it in tree order, or the first, becomes that (help: nvim_win_close(); own rule)
abbrev pub page_left : ℤ → Page → Option Shape → Page
page_left w t None = t
page_left w t (Some tree) = record t {
  tree = tree;
  current = if int_eq t.current w then neighbour w (windows_in t) else t.current;
}

abbrev pub page_without : ℤ → Page → Page
page_without w t = page_left w t (close w t.tree)

-- the windows but that of a handle
abbrev pub other_windows : ℤ → List Window → List Window
other_windows n windows = filter (λ w. not (int_eq w.handle n)) windows

-- a window closed that isn't the only one of its tabpage
abbrev pub without_window : ℤ → Workspace → Workspace
without_window w ws = record ws {
  windows = other_windows w ws.windows;
  tabpages = tabpages_with w (page_without w) ws.tabpages;
}

-- the tabpages but that of a handle
abbrev pub other_tabpages : ℤ → List Page → List Page
other_tabpages n tabpages = filter (λ t. not (int_eq t.handle n)) tabpages

-- how many tabpages stand before that of a handle
abbrev pub place_among : ℤ → List Page → ℕ
place_among n tabpages = length (take_while (λ t. not (int_eq t.handle n)) tabpages)

-- the handle of the tabpage at a place, or of the last one (own rule)
abbrev pub handle_at : ℕ → List Page → ℤ
handle_at place tabpages =
    slice_index_or (map (λ t. t.handle) tabpages) (min place (length tabpages - 1)) (pos 0)

-- whether a window is in the tabpage of a handle
abbrev pub is_in : List Page → ℤ → ℤ → Bool
is_in tabpages n w = list_any (λ t. int_eq t.handle n && holds w t.tree) tabpages

-- the tabpage that is current once that of a handle is closed: where that was the current one, the
-- one at its place, or the last (help: :tabclose; own rule)
abbrev pub current_without : ℤ → Workspace → ℤ
current_without n ws =
    if int_eq ws.tabpage n
    then handle_at (place_among n ws.tabpages) (other_tabpages n ws.tabpages)
    else ws.tabpage

-- a tabpage closed with all its windows
abbrev pub without_tabpage : ℤ → Workspace → Workspace
without_tabpage n ws = record ws {
  windows = filter (λ w. not (is_in ws.tabpages n w.handle)) ws.windows;
  tabpages = other_tabpages n ws.tabpages;
  tabpage = current_without n ws;
}

-- whether there is one tabpage alone
abbrev pub has_one_tabpage : Workspace → Bool
has_one_tabpage ws = length ws.tabpages == 1

-- whether a window is the only one of the only tabpage
abbrev pub is_only_window : Workspace → ℤ → Bool
is_only_window ws w =
    option_map_or (λ t. has_one_tabpage ws && has_one_window t) (tabpage_of ws w) true

-- a window closed, with its tabpage where it is the only one of it (help: nvim_win_close())
abbrev pub closed_in : ℤ → Workspace → Page → Workspace
closed_in w ws t = if has_one_window t then without_tabpage t.handle ws else without_window w ws

abbrev pub after_close : ℤ → Workspace → Workspace
after_close w ws =
    if is_only_window ws w then ws else option_map_or (closed_in w ws) (tabpage_of ws w) ws

-- the current tabpage closed, where it isn't the only one (help: :tabclose)
abbrev pub after_tab_close : Workspace → Workspace
after_tab_close ws = if has_one_tabpage ws then ws else without_tabpage ws.tabpage ws

-- a tabpage put behind that of a handle, or behind all
abbrev pub put_behind : ℤ → Page → List Page → List Page
put_behind n new [] = new ∷ []
put_behind n new (t ∷ ts) = if int_eq t.handle n then t ∷ new ∷ ts else t ∷ put_behind n new ts

-- the next tabpage behind the current one, with the next window on a buffer: it becomes current
-- (help: :tabnew)
abbrev pub with_tabpage : ℤ → Workspace → Workspace
with_tabpage buffer ws = record ws {
  windows = ws.windows ++ window_on ws.next_window buffer ∷ [];
  tabpages =
      put_behind ws.tabpage
      (record {
        handle = ws.next_tabpage;
        tree = plain_leaf ws.next_window;
        current = ws.next_window;
      })
      ws.tabpages;
  tabpage = ws.next_tabpage;
  next_window = ws.next_window +ℤ pos 1;
  next_tabpage = ws.next_tabpage +ℤ pos 1;
}

-- what is answered where a tabpage is to be made, and the windows after that
abbrev pub tabpage_opening : Workspace → Option ℤ
tabpage_opening ws = if has_handles_left ws then Some ws.next_tabpage else None

abbrev pub after_tab_new : ℤ → Workspace → Workspace
after_tab_new buffer ws = if has_handles_left ws then with_tabpage buffer ws else ws

-- a window's leaf wishes a width, at Across, or a height, at Down, which counts the status line
-- (help: nvim_win_set_width(), nvim_win_set_height())
abbrev pub with_wish_of : ℤ → Axis → ℕ → Workspace → Workspace
with_wish_of w axis n ws = record ws {
  tabpages = tabpages_with w (λ t. record t { tree = with_wish axis n w t.tree }) ws.tabpages;
}

-- a window's cursor, and its first row
abbrev pub with_cursor : ℤ → Pos → Workspace → Workspace
with_cursor w p ws =
    record ws { windows = windows_with w (λ v. record v { cursor = p }) ws.windows }

abbrev pub with_top : ℤ → ℕ → Workspace → Workspace
with_top w row ws = record ws { windows = windows_with w (λ v. record v { top = row }) ws.windows }

-- a window shows a buffer, at row 0 (help: nvim_win_set_buf())
abbrev pub with_buffer_in : ℤ → ℤ → Workspace → Workspace
with_buffer_in w buffer ws =
    record ws { windows = windows_with w (λ v. window_on v.handle buffer) ws.windows }

-- the windows that show a buffer show another one, at row 0
abbrev pub window_instead : ℤ → ℤ → Window → Window
window_instead old new v = if int_eq v.buffer old then window_on v.handle new else v

abbrev pub with_buffer_instead : ℤ → ℤ → Workspace → Workspace
with_buffer_instead old new ws = record ws { windows = map (window_instead old new) ws.windows }

-- the screen has another size
abbrev pub with_size : ℕ → ℕ → Workspace → Workspace
with_size width height ws = record ws { width = width; height = height }

-- where each tree has its least size on it
abbrev pub after_sizing : ℕ → ℕ → Workspace → Workspace
after_sizing width height ws = if all_fit width height ws then with_size width height ws else ws
