use Rattle.nv_mirror_laws.proofs.Refusals as refusals
use Rattle.nv_mirror_laws.proofs.laws.refusals_are_told.Goals as goal

pub returns-clause-only : goal.returns-clause-only
returns-clause-only c = refusals.refusals_are_of_the_call c.fold_law.ensures.folds

pub returns-clause-told : goal.returns-clause-told
returns-clause-told c = refusals.refused_calls_are_told
