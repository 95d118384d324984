-- What a step of a call gives, beside the answer that is wanted of it. Want of memory may always
-- come in its place.
use Rattle.std.specs.Prelude.{◌≡◌, ◌^◌, ◌<◌, length, ⊤, Option, Some, None, Result, Ok, Err}
use Rattle.nv_value.specs.declared.fault.ApiFault.{ApiFault}
use Rattle.nv_args.specs.declared.faults.Fail.{Fail}
use Rattle.nv_args.specs.declared.faults.Fail.TheVariants.{Api, NoMemory}

-- the fault can be told: its words are shorter than a length can count
abbrev pub CanBeTold : ApiFault → Type 0
CanBeTold fault = length fault.words < 2 ^ 32

-- the call is refused with this fault, or memory was wanting
abbrev pub Refuses : Fail → ApiFault → Type 0
Refuses (Api fault) wanted = (fault ≡ wanted) × CanBeTold fault
Refuses NoMemory wanted = ⊤

-- the step gives what is wanted, seen in this way, or refuses as is wanted, or memory was wanting
abbrev pub Meets : {A B : Type 0} → (A → B) → Result A Fail → Result B ApiFault → Type 0
Meets seen (Ok a) wanted = wanted ≡ Ok (seen a)
Meets seen (Err (Api fault)) wanted = (wanted ≡ Err fault) × CanBeTold fault
Meets seen (Err NoMemory) wanted = ⊤

-- a refused step leaves what it would have changed as it was; where memory was wanting nothing is
-- said
abbrev pub RefusedKeeps : {A B : Type 0} → Result A Fail → B → B → Type 0
RefusedKeeps (Ok a) after before = ⊤
RefusedKeeps (Err (Api fault)) after before = after ≡ before
RefusedKeeps (Err NoMemory) after before = ⊤

-- a look for a fault finds this one, or none where there is none, or memory was wanting
abbrev pub Finds : {A : Type 0} → Result A Fail → Option ApiFault → Type 0
Finds (Ok a) wanted = wanted ≡ None
Finds (Err (Api fault)) wanted = (wanted ≡ Some fault) × CanBeTold fault
Finds (Err NoMemory) wanted = ⊤
