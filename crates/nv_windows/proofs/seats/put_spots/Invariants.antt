use Rattle.std.proofs.Common.{All}
use Rattle.nv_windows.specs.Workspace.{Workspace}
use Rattle.nv_windows.specs.inside.Seats.{AreSeats, IsPlacedIn}
use Rattle.nv_windows.proofs.seats.put_spots.Given as goal

abbrev pub invariant-loop-window : goal.invariant-loop-window
invariant-loop-window l = (ws : Workspace) → All (IsPlacedIn ws l.tabpage.handle) l.placed → AreSeats ws l.initial.seats.items → AreSeats ws l.seats.items
