-- What rows give, step by step.
use Rattle.std.proofs.Common.{◌≡◌, ap, Option, Some, None}
use Rattle.nv_value.specs.declared.fault.ApiFault.{ApiFault}
use Rattle.nv_model.specs.Answers.{Answer, or_refused}
use Rattle.nv_model.specs.Answering.{fault_or}

-- a look for a fault found none
pub no_fault : (wanted : Option ApiFault) (rest : Answer) → wanted ≡ None → fault_or wanted rest ≡ rest
no_fault wanted rest none = ap (λ (w : Option ApiFault). fault_or w rest) none

-- what is found
pub found_is : {A : Type 0} (o : Option A) (a : A) (fault : ApiFault) (next : A → Answer) → o ≡ Some a → or_refused o fault next ≡ next a
found_is {A} o a fault next is = ap (λ (p : Option A). or_refused p fault next) is
