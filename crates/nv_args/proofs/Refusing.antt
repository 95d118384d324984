-- What a step gives that refuses.
use Rattle.std.proofs.Common.{◌≡◌, sym, ap, ◌∙◌, Result, Err}
use Rattle.nv_value.specs.declared.fault.ApiFault.{ApiFault}
use Rattle.nv_args.specs.declared.faults.Fail.{Fail}
use Rattle.nv_args.specs.declared.faults.Fail.TheVariants.{Api, NoMemory}
use Rattle.nv_args.specs.Refusals.{Refuses, Meets}

-- a step that refuses with a fault gives what is wanted where that is the fault
pub meets_refused : {A B : Type 0} (seen : A → B) (fail : Fail) (fault : ApiFault) (wanted : Result B ApiFault) → Refuses fail fault → wanted ≡ Err fault
    → Meets seen (Err fail) wanted
meets_refused seen (Api found) fault wanted refuses e = (e ∙ ap Err (sym refuses.0), refuses.1)
meets_refused seen NoMemory fault wanted refuses e = tt
