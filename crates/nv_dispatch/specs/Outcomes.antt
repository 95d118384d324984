-- What a call gave, beside what it comes to by the definitions.
use Rattle.std.specs.Prelude.{◌≡◌, ◌++◌, Bool, false, ⊤, List, Result, Ok, Err}
use Rattle.nv_value.specs.Content.{Tree}
use Rattle.nv_value.specs.declared.fault.ApiFault.{ApiFault}
use Rattle.nv_msgpack.specs.Shortest.{HasSpelling}
use Rattle.nv_rpc.specs.Outcomes.{outcome_content}
use Rattle.nv_args.specs.Refusals.{CanBeTold}
use Rattle.nv_args.specs.declared.faults.Fail.{Fail}
use Rattle.nv_args.specs.declared.faults.Fail.TheVariants.{Api, NoMemory}
use Rattle.nv_model.specs.Editors.{ModelEditor}
use Rattle.nv_model.specs.Answers.{Fact}
use Rattle.nv_model.specs.Standing.{PresentEditor, Stands}
use Rattle.nv_dispatch.specs.Calls.{CallOutcome, editor_after}
use Rattle.nv_dispatch.specs.declared.done.Done.{Done}

-- a call came to this: the result is the one wanted, and so is whether it may have changed what is
-- seen; the editor stands for the one that the call leaves, and its facts were told
pub record IsOutcome (wanted : CallOutcome) (m : ModelEditor) (result : Result Tree ApiFault)
    (is_seen : Bool) (after : PresentEditor) (told now : List Fact) : Type 0 where
  pub result_is : wanted.result ≡ result
  pub seen_is : wanted.is_seen ≡ is_seen
  pub stands : Stands after (editor_after m wanted)
  pub facts : now ≡ told ++ wanted.facts

-- the result or the fault that was given is such an outcome; want of memory may always come in its
-- place, and then nothing is said
abbrev pub GaveOutcome : CallOutcome → ModelEditor → Result Done Fail → PresentEditor → List Fact
    → List Fact → Type 0
GaveOutcome wanted m (Ok done) after told now =
    IsOutcome wanted m (Ok (outcome_content done.result)) done.is_seen after told now
GaveOutcome wanted m (Err (Api fault)) after told now =
    IsOutcome wanted m (Err fault) false after told now
GaveOutcome wanted m (Err NoMemory) after told now = ⊤

-- a call gave the outcome that is wanted in each model editor that the editor stood for
abbrev pub GivesOutcome : (ModelEditor → CallOutcome) → Result Done Fail → PresentEditor
    → PresentEditor → List Fact → List Fact → Type 0
GivesOutcome wanted result before after told now =
    (m : ModelEditor) → Stands before m → GaveOutcome (wanted m) m result after told now

-- the result or the fault can be spelled in a message
abbrev pub CanBeSent : Result Done Fail → Type 0
CanBeSent (Ok done) = HasSpelling (outcome_content done.result)
CanBeSent (Err (Api fault)) = CanBeTold fault
CanBeSent (Err NoMemory) = ⊤

-- this holds unless memory was wanting
abbrev pub IfAnswered : Result Done Fail → Type 0 → Type 0
IfAnswered (Ok done) P = P
IfAnswered (Err (Api fault)) P = P
IfAnswered (Err NoMemory) P = ⊤
