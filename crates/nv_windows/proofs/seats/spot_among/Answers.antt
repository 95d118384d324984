use Rattle.std.proofs.Common.{rules}
use Rattle.std.proofs.lemmas.Bool.Decides.{nat_tests}
use Rattle.nv_windows.proofs.Seating.{seat_tells}
use Rattle.nv_windows.proofs.seats.spot_among.Goals as goal

pub returns-in-Some : goal.returns-in-Some
returns-in-Some c =
    λ ws all.
    seat_tells ws c.args.seats.now c.partition_point-place.result c.in-Some.seat.now c.args.window all (search (rules, nat_tests)) (search rules) (search rules)
