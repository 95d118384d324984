use Rattle.nv_windows.specs.Kept.{workspace_of}
use Rattle.nv_windows.specs.inside.Seats.{AreSeats}
use Rattle.nv_windows.proofs.seats.seat_all.Given as goal

abbrev pub invariant-loop-tabpage : goal.invariant-loop-tabpage
invariant-loop-tabpage l = AreSeats (workspace_of l.parts) l.seats.items
