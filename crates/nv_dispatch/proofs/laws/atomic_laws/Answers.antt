use Rattle.nv_dispatch.proofs.CallLaws.{atomic_is_one_by_one, atomic_stops}
use Rattle.nv_dispatch.proofs.laws.atomic_laws.Goals as goal

pub returns : goal.returns
returns c = record { all = atomic_is_one_by_one; stops = atomic_stops }
