use Rattle.nv_model.proofs.Telling.{events_count_up, inverses_take_back}
use Rattle.nv_model.proofs.Gone.{leg_leads_to_kept}
use Rattle.nv_model.proofs.laws.splice_laws.Goals as goal

pub returns : goal.returns
returns c = record { told = events_count_up; back = inverses_take_back; kept = leg_leads_to_kept }
