use Rattle.nv_mirror.proofs.Told as told
use Rattle.nv_mirror.proofs.Standings
use Rattle.nv_mirror.proofs.laws.stops_for_good.Goals as goal

pub returns : goal.returns
returns c = told.stops_for_good
