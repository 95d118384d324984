-- What the operations on windows and tabpages keep, whatever their number and order.
use Rattle.std.specs.Prelude.{◌≡◌, ◌≢◌, ℕ, ℤ, pos, ◌+ℤ◌, ◌<◌, ◌≤ℤ◌, ◌^◌, Bool, true, Some}
use Rattle.nv_places.specs.Places.{is_before}
use Rattle.nv_places.specs.declared.place.Pos.{Pos}
use Rattle.nv_layout.specs.declared.nodes.Axis.{Axis}
use Rattle.nv_layout.specs.declared.nodes.Side.{Side}
use Rattle.nv_windows.specs.Workspace.{Workspace, fresh_workspace, is_live_window, is_live_tabpage}
use Rattle.nv_windows.specs.Operations.{after_opening, after_close, after_tab_close, after_tab_new, after_sizing, with_wish_of, at_window, at_tabpage, with_cursor, with_top, with_buffer_in, with_buffer_instead, opening, tabpage_opening}
use Rattle.nv_windows.specs.Views.{Move, place_after, view_after, after_splice}
use Rattle.nv_windows.specs.Sound.{IsSoundWorkspace}
use Rattle.nv_windows.specs.declared.window.Opened.TheVariants.{Window as OpenedWindow}
use Rattle.nv_windows.specs.declared.window.Window.{Window}

-- Each operation keeps it that each window is in one tabpage, that each tree has its least size on
-- the screen, and all else that windows and tabpages keep to.
pub record SoundnessStays : Type 0 where
  pub fresh : (buffer : ℤ) → IsSoundWorkspace (fresh_workspace buffer)
  pub opening :
      (ws : Workspace) (beside : ℤ) (side : Side) (buffer : ℤ) (width height : ℕ) (enter : Bool)
      → IsSoundWorkspace ws
      → IsSoundWorkspace (after_opening beside side buffer width height enter ws)
  pub close : (ws : Workspace) (w : ℤ) → IsSoundWorkspace ws → IsSoundWorkspace (after_close w ws)
  pub tab_close : (ws : Workspace) → IsSoundWorkspace ws → IsSoundWorkspace (after_tab_close ws)
  pub tab_new : (ws : Workspace) (buffer : ℤ) → IsSoundWorkspace ws
      → IsSoundWorkspace (after_tab_new buffer ws)
  pub sizing :
      (ws : Workspace) (width height : ℕ) → width < 2 ^ 16 → height < 2 ^ 16 → IsSoundWorkspace ws
      → IsSoundWorkspace (after_sizing width height ws)
  pub wish : (ws : Workspace) (w : ℤ) (axis : Axis) (n : ℕ) → IsSoundWorkspace ws
      → IsSoundWorkspace (with_wish_of w axis n ws)
  pub entering : (ws : Workspace) (w : ℤ) → is_live_window ws w ≡ true → IsSoundWorkspace ws
      → IsSoundWorkspace (at_window w ws)
  pub tab_entering :
      (ws : Workspace) (n : ℤ) → is_live_tabpage ws n ≡ true → IsSoundWorkspace ws
      → IsSoundWorkspace (at_tabpage n ws)
  pub cursor : (ws : Workspace) (w : ℤ) (p : Pos) → IsSoundWorkspace ws
      → IsSoundWorkspace (with_cursor w p ws)
  pub top : (ws : Workspace) (w : ℤ) (row : ℕ) → IsSoundWorkspace ws
      → IsSoundWorkspace (with_top w row ws)
  pub showing : (ws : Workspace) (w buffer : ℤ) → IsSoundWorkspace ws
      → IsSoundWorkspace (with_buffer_in w buffer ws)
  pub showing_instead : (ws : Workspace) (old new : ℤ) → IsSoundWorkspace ws
      → IsSoundWorkspace (with_buffer_instead old new ws)
  pub splice : (ws : Workspace) (n : ℤ) (m : Move) → IsSoundWorkspace ws
      → IsSoundWorkspace (after_splice n m ws)

-- No handle is given twice: what is given is the next handle, which is above all that are there,
-- and the next one is above it; no other operation lowers it.
pub record HandlesRise : Type 0 where
  pub window :
      (ws : Workspace) (beside : ℤ) (side : Side) (buffer : ℤ) (width height : ℕ) (enter : Bool)
      (n : ℤ)
      → opening ws beside side ≡ OpenedWindow n
      → (n ≡ ws.next_window)
      × ((after_opening beside side buffer width height enter ws).next_window ≡ n +ℤ pos 1)
  pub tabpage :
      (ws : Workspace) (buffer n : ℤ) → tabpage_opening ws ≡ Some n
      → (n ≡ ws.next_tabpage)
      × ((after_tab_new buffer ws).next_tabpage ≡ n +ℤ pos 1)
      × ((after_tab_new buffer ws).next_window ≡ ws.next_window +ℤ pos 1)
  pub opening :
      (ws : Workspace) (beside : ℤ) (side : Side) (buffer : ℤ) (width height : ℕ) (enter : Bool)
      → ws.next_window ≤ℤ (after_opening beside side buffer width height enter ws).next_window
      × ((after_opening beside side buffer width height enter ws).next_tabpage ≡ ws.next_tabpage)
  pub close :
      (ws : Workspace) (w : ℤ)
      → ((after_close w ws).next_window ≡ ws.next_window)
      × ((after_close w ws).next_tabpage ≡ ws.next_tabpage)
  pub tab_close :
      (ws : Workspace)
      → ((after_tab_close ws).next_window ≡ ws.next_window)
      × ((after_tab_close ws).next_tabpage ≡ ws.next_tabpage)

-- A splice leaves cursors and first rows in the text, and moves them as left gravity says: what
-- stands before the changed part or at its start stays there.
pub record ViewsStay : Type 0 where
  pub cursor : (m : Move) (w : Window) → m.count ≢ 0 → (view_after m w).cursor.row < m.count
  pub top : (m : Move) (w : Window) → m.count ≢ 0 → (view_after m w).top < m.count
  pub before : (m : Move) (p : Pos) → is_before p m.start ≡ true → place_after m p ≡ p
  pub start : (m : Move) → place_after m m.start ≡ m.start
