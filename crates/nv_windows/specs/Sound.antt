-- What all windows and tabpages keep to, at every moment.
use Rattle.std.specs.Prelude.{◌≡◌, ℕ, ℤ, pos, ◌+◌, ◌+ℤ◌, ◌<◌, ◌≤◌, ◌≤ℤ◌, ◌<ℤ◌, ◌^◌, true, if◌then◌else◌, List, [], ◌∷◌, map, All}
use Rattle.std.specs.Ordering.{int_eq}
use Rattle.nv_layout.specs.Changes.{holds}
use Rattle.nv_layout.specs.Least.{NoneEmpty}
use Rattle.nv_layout.specs.Places.{IsRoomy}
use Rattle.nv_windows.specs.Workspace.{Page, Workspace, handles_of_windows}
use Rattle.nv_windows.specs.Rooms.{screen_area, all_windows, last_handle}

-- each handle is above all before it, and none below this number
abbrev pub IsRisingFrom : ℤ → List ℤ → Type 0
IsRisingFrom n [] = Unit {0}
IsRisingFrom n (k ∷ ks) = (n ≤ℤ k) × IsRisingFrom (k +ℤ pos 1) ks

-- how often a handle is among others
abbrev pub times_among : ℤ → List ℤ → ℕ
times_among n [] = 0
times_among n (k ∷ ks) = (if int_eq k n then 1 else 0) + times_among n ks

-- a tabpage on the screen: no row or column of it is empty, it has its least size, and its current
-- window is one of its own
pub record IsSoundPage (width height : ℕ) (t : Page) : Type 0 where
  pub filled : NoneEmpty t.tree
  pub roomy : IsRoomy t.tree (screen_area width height)
  pub current : holds t.current t.tree ≡ true

-- the handles of tabpages
abbrev pub handles_of_tabpages : List Page → List ℤ
handles_of_tabpages ts = map (λ t. t.handle) ts

-- Windows stand by rising handles below the next one, and each is in one tabpage, once. The
-- tabpages have different handles below the next one, and one of them is current.
pub record IsSoundWorkspace (ws : Workspace) : Type 0 where
  pub rising : IsRisingFrom (pos 1000) (handles_of_windows ws.windows)
  pub below : All (λ k. k <ℤ ws.next_window) (handles_of_windows ws.windows)
  pub homes :
      (n : ℤ) → times_among n (all_windows ws) ≡ times_among n (handles_of_windows ws.windows)
  pub pages : All (IsSoundPage ws.width ws.height) ws.tabpages
  pub apart : (n : ℤ) → times_among n (handles_of_tabpages ws.tabpages) ≤ 1
  pub tabpages :
      All (λ n. (pos 1 ≤ℤ n) × (n <ℤ ws.next_tabpage)) (handles_of_tabpages ws.tabpages)
  pub current : times_among ws.tabpage (handles_of_tabpages ws.tabpages) ≡ 1
  pub width : ws.width < 2 ^ 16
  pub height : ws.height < 2 ^ 16
  pub next_window : (pos 1000 ≤ℤ ws.next_window) × (ws.next_window ≤ℤ (last_handle +ℤ pos 1))
  pub next_tabpage : (pos 1 ≤ℤ ws.next_tabpage) × (ws.next_tabpage ≤ℤ (last_handle +ℤ pos 1))
