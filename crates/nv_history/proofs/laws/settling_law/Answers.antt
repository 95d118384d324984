use Rattle.nv_history.proofs.Leaving.{openings_and_takes_leave, requests_and_closes_settle}
use Rattle.nv_history.proofs.SettledRuns.{editors_are_settled, windows_are_sound}
use Rattle.nv_history.proofs.laws.settling_law.Goals as goal

pub returns : goal.returns
returns c = record { sound = windows_are_sound; settled = editors_are_settled; leave = openings_and_takes_leave; settle = requests_and_closes_settle }
