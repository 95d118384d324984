-- What a method of the API does to an editor as it is kept, by what its row answers.
use Rattle.std.specs.Prelude.{◌≡◌, ◌++◌, ℕ, ⊤, List, Result, Ok, Err}
use Rattle.nv_value.specs.Content.{Tree}
use Rattle.nv_value.specs.View.{content}
use Rattle.nv_value.specs.declared.value.Value.{Value}
use Rattle.nv_rpc.specs.Outcomes.{outcome_content}
use Rattle.nv_rpc.specs.declared.outcome.Outcome.{Outcome}
use Rattle.nv_args.specs.Reading.{Arg}
use Rattle.nv_args.specs.Refusals.{CanBeTold}
use Rattle.nv_args.specs.declared.faults.Fail.{Fail}
use Rattle.nv_args.specs.declared.faults.Fail.TheVariants.{Api, NoMemory}
use Rattle.nv_model.specs.Editors.{ModelEditor}
use Rattle.nv_model.specs.Operations.{Operation, after_operations}
use Rattle.nv_model.specs.Answers.{Answer, Fact, refused, replied}
use Rattle.nv_model.specs.Answering.{reply_of}
use Rattle.nv_model.specs.Rows.{Row}
use Rattle.nv_model.specs.Standing.{PresentEditor, Stands, seen_now}

-- these operations were made: for each model editor that the editor stood for it stands for that
-- one with the operations afterwards
abbrev pub Does : List Operation → PresentEditor → PresentEditor → Type 0
Does operations before after =
    (m : ModelEditor) → Stands before m → Stands after (after_operations operations m)

-- an answer that is no refusal was given: its reply, its operations and its facts
abbrev pub Replies : Answer → Tree → PresentEditor → PresentEditor → List Fact → List Fact → Type 0
Replies (refused fault) reply before after told now = ⊥
Replies (replied t operations facts) reply before after told now =
    (reply ≡ t) × Does operations before after × (now ≡ told ++ facts)

-- a call gave what is answered: its reply, operations and facts, or its fault, and then nothing
-- changed; want of memory may always come in its place
abbrev pub GivesAnswer : Answer → Result Value Fail → PresentEditor → PresentEditor → List Fact
    → List Fact → Type 0
GivesAnswer answer (Ok value) before after told now =
    Replies answer (content value) before after told now
GivesAnswer answer (Err (Api fault)) before after told now =
    (answer ≡ refused fault) × CanBeTold fault × (after ≡ before) × (now ≡ told)
GivesAnswer answer (Err NoMemory) before after told now = ⊤

-- a call that only reads gave what is answered
abbrev pub ReadsAnswer : Answer → Result Value Fail → Type 0
ReadsAnswer answer (Ok value) = answer ≡ reply_of (content value)
ReadsAnswer answer (Err (Api fault)) = (answer ≡ refused fault) × CanBeTold fault
ReadsAnswer answer (Err NoMemory) = ⊤

-- a call gave so much of what is answered, its result as it is sent
abbrev pub GivesResult : Answer → Result Outcome Fail → PresentEditor → PresentEditor → List Fact
    → List Fact → Type 0
GivesResult answer (Ok outcome) before after told now =
    Replies answer (outcome_content outcome) before after told now
GivesResult answer (Err (Api fault)) before after told now =
    (answer ≡ refused fault) × CanBeTold fault × (after ≡ before) × (now ≡ told)
GivesResult answer (Err NoMemory) before after told now = ⊤

-- a call that tells nothing gave what is answered, whatever was told before
pub record GivesQuietly (answer : Answer) (result : Result Value Fail)
    (before after : PresentEditor) : Type 0 where
  pub given : (told : List Fact) → GivesAnswer answer result before after told told

-- and it gave what its row answers, whichever session it is for
pub record GivesAlone (row : Row) (args : List Arg) (result : Result Value Fail)
    (before after : PresentEditor) : Type 0 where
  pub given : (session : ℕ) (told : List Fact)
      → GivesAnswer (row (seen_now before) session args) result before after told told
