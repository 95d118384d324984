-- What a call that reads lines gives.
use Rattle.std.specs.Prelude.{◌≡◌, ⊤, ℕ, List, Result, Ok, Err}
use Rattle.nv_value.specs.Content.{list}
use Rattle.nv_args.specs.Refusals.{CanBeTold}
use Rattle.nv_args.specs.Texts.{strings}
use Rattle.nv_args.specs.declared.faults.Fail.{Fail}
use Rattle.nv_args.specs.declared.faults.Fail.TheVariants.{Api, NoMemory}
use Rattle.nv_model.specs.Answers.{Answer, refused}
use Rattle.nv_model.specs.Answering.{reply_of}

-- a call that only reads gave the lines that are answered; want of memory may always come in their
-- place
abbrev pub ReadsLines : Answer → Result (List (List ℕ)) Fail → Type 0
ReadsLines answer (Ok lines) = answer ≡ reply_of (list (strings lines))
ReadsLines answer (Err (Api fault)) = (answer ≡ refused fault) × CanBeTold fault
ReadsLines answer (Err NoMemory) = ⊤
