use Rattle.nv_windows.specs.Workspace.{Workspace}
use Rattle.nv_windows.specs.inside.Seats.{AreSeats}
use Rattle.nv_windows.proofs.seats.push_unknown.Given as goal

abbrev pub invariant-loop-window : goal.invariant-loop-window
invariant-loop-window l = (ws : Workspace) → AreSeats ws l.initial.seats.items → AreSeats ws l.seats.items
