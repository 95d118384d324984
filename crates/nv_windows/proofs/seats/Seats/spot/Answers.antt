use Rattle.std.proofs.Common.{sym, subst, w64}
use Rattle.std.specs.Prelude.{IfSome}
use Rattle.std.proofs.lemmas.Int.{to_z-of_z}
use Rattle.nv_windows.specs.inside.Seats.{AreSeats, IsSpot}
use Rattle.nv_windows.proofs.seats.Seats.spot.Goals as goal

pub returns : goal.returns
returns c =
    λ ws all. subst (λ w. IfSome c.spot_among.result (IsSpot ws w)) (to_z-of_z w64 c.args.window c.ranges.window)
    (c.spot_among.ensures ws (subst (AreSeats ws) (sym c.as_slice.ensures.value) all))
