-- What a call that lists marks answers.
use Rattle.std.specs.Prelude.{◌≡◌, ⊤, Result, Ok, Err}
use Rattle.nv_rpc.specs.Outcomes.{outcome_content}
use Rattle.nv_rpc.specs.declared.outcome.Outcome.{Outcome}
use Rattle.nv_args.specs.Refusals.{CanBeTold}
use Rattle.nv_args.specs.declared.faults.Fail.{Fail}
use Rattle.nv_args.specs.declared.faults.Fail.TheVariants.{Api, NoMemory}
use Rattle.nv_model.specs.Answers.{Answer, refused}
use Rattle.nv_model.specs.Answering.{reply_of}

-- a call that only reads gave what is answered; want of memory may always come in its place
abbrev pub ReadsOutcome : Answer → Result Outcome Fail → Type 0
ReadsOutcome answer (Ok outcome) = answer ≡ reply_of (outcome_content outcome)
ReadsOutcome answer (Err (Api fault)) = (answer ≡ refused fault) × CanBeTold fault
ReadsOutcome answer (Err NoMemory) = ⊤
