use Rattle.nv_dispatch.proofs.CallsKeep.{soundness_is_kept, facts_tell_pasts}
use Rattle.nv_dispatch.proofs.laws.telling_laws.Goals as goal

pub returns : goal.returns
returns c = record { sound = soundness_is_kept; told = facts_tell_pasts }
