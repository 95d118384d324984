-- inside: where windows are known to stand.
use Rattle.std.specs.Prelude.{◌≡◌, ℤ, List, All, IfSome, Some, option_map}
use Rattle.nv_layout.specs.declared.nodes.Placed.{Placed}
use Rattle.nv_windows.specs.Rooms.{window_rect}
use Rattle.nv_windows.specs.Sound.{IsSoundWorkspace}
use Rattle.nv_windows.specs.Workspace.{Workspace, tabpage_of}
use Rattle.nv_windows.specs.declared.seats.Seat.{Seat}
use Rattle.nv_windows.specs.declared.seats.Spot.{Spot}

-- where a window stands: in which tabpage, and its rectangle
abbrev pub IsSpot : Workspace → ℤ → Spot → Type 0
IsSpot ws w s =
    (option_map (λ t. t.handle) (tabpage_of ws w) ≡ Some s.tabpage)
    × (window_rect ws w ≡ Some s.rect)

-- a rectangle that is that of its window, in the tabpage of a handle
abbrev pub IsPlacedIn : Workspace → ℤ → Placed → Type 0
IsPlacedIn ws n p = IsSpot ws p.window (record { tabpage = n; rect = p.rect })

-- seats that are right where they say where a window stands
abbrev pub AreSeats : Workspace → List Seat → Type 0
AreSeats ws seats = All (λ s. IfSome s.spot (IsSpot ws s.window)) seats

-- windows and tabpages that are sound, and seats that are right about them
pub record IsSoundSeating (ws : Workspace) (all : List Seat) : Type 0 where
  pub sound : IsSoundWorkspace ws
  pub seats : AreSeats ws all
