-- inside: a step of a call that decides what it answers.
use Rattle.std.specs.Prelude.{◌≡◌, ⊤, Result, Ok, Err}
use Rattle.nv_args.specs.Refusals.{CanBeTold}
use Rattle.nv_args.specs.declared.faults.Fail.{Fail}
use Rattle.nv_args.specs.declared.faults.Fail.TheVariants.{Api, NoMemory}
use Rattle.nv_model.specs.Answers.{Answer, refused}

-- the step found what the answer goes on with, or refused as is answered, or memory was wanting
abbrev pub Decides : {A : Type 0} → Answer → (A → Answer) → Result A Fail → Type 0
Decides answer rest (Ok found) = answer ≡ rest found
Decides answer rest (Err (Api fault)) = (answer ≡ refused fault) × CanBeTold fault
Decides answer rest (Err NoMemory) = ⊤
