use Rattle.std.proofs.Common.{sym, subst}
use Rattle.nv_windows.specs.inside.Seats.{AreSeats}
use Rattle.nv_windows.proofs.Seating.{seats_more}
use Rattle.nv_windows.proofs.seats.push_unknown.Goals as goal

pub loop-window-preserved : goal.loop-window-preserved
loop-window-preserved c =
    λ ws all. subst (AreSeats ws) (sym c.in_ok-push.ensures.items) (seats_more ws c.loop-window.seats.items _ (c.loop-window.invariant ws all))
