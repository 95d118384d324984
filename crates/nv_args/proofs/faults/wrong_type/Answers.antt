use Rattle.std.proofs.Common.{ℕ, List, subst}
use Rattle.nv_args.specs.Refusals.{Refuses}
use Rattle.nv_args.proofs.faults.wrong_type.Goals as goal

pub returns-in-Ok : goal.returns-in-Ok
returns-in-Ok c = subst (λ (ws : List ℕ). Refuses c.fault.result (record { kind = 1; code = 3; words = ws })) c.in-Ok.ensures.ok c.fault.ensures
