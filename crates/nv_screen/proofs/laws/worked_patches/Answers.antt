use Rattle.std.proofs.Common.{refl}
use Rattle.nv_screen.proofs.laws.worked_patches.Goals as goal

pub returns-clause-letter : goal.returns-clause-letter
returns-clause-letter c = refl

pub returns-clause-right : goal.returns-clause-right
returns-clause-right c = refl

pub returns-clause-left : goal.returns-clause-left
returns-clause-left c = refl
