use Rattle.nv_places.proofs.MoveLemmas.{moves-agree, moves_stay}
use Rattle.nv_places.proofs.laws.move_laws.Goals as goal

pub returns : goal.returns
returns c = record { agree = moves-agree; stay = moves_stay }
