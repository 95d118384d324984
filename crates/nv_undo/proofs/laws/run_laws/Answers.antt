use Rattle.nv_undo.proofs.RunLemmas.{runs_stay, nothing_is_lost, last_is_last}
use Rattle.nv_undo.proofs.laws.run_laws.Goals as goal

pub returns : goal.returns
returns g c = record { stays = runs_stay; kept = nothing_is_lost; last = last_is_last }
