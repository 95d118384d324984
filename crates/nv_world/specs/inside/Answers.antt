-- inside: what the call of a request came to.
use Rattle.std.specs.Prelude.{◌≡◌, ◌^◌, ◌<◌, ℕ, Bool, List, length, Option, Result, Ok, Err}
use Rattle.nv_value.specs.Content.{Tree, Trees}
use Rattle.nv_value.specs.declared.fault.ApiFault.{ApiFault}
use Rattle.nv_msgpack.specs.Shortest.{HasSpelling}
use Rattle.nv_rpc.specs.Calls.{Call}
use Rattle.nv_rpc.specs.Messages.{Sent}
use Rattle.nv_rpc.specs.Outcomes.{outcome_content}
use Rattle.nv_rpc.specs.declared.outcome.Outcome.{Outcome}
use Rattle.nv_args.specs.Arguments.{tree_list}
use Rattle.nv_model.specs.Answers.{Fact}
use Rattle.nv_model.specs.Editors.{ModelEditor}
use Rattle.nv_model.specs.Standing.{PresentEditor, Stands}
use Rattle.nv_dispatch.specs.Calls.{CallOutcome, editor_after, outcome_of_call}
use Rattle.nv_history.specs.Sessions.{reply_message}
use Rattle.nv_history.specs.Worlds.{outcome_of_frame}

-- a result, or a fault
abbrev pub result_content : Result Outcome ApiFault → Result Tree ApiFault
result_content (Ok outcome) = Ok (outcome_content outcome)
result_content (Err fault) = Err fault

-- it can be spelled in a message
abbrev pub CanBeReplied : Result Outcome ApiFault → Type 0
CanBeReplied (Ok outcome) = HasSpelling (outcome_content outcome)
CanBeReplied (Err fault) = length fault.words < 2 ^ 32

-- a call came to this: its result, whether it may have changed what is seen, what it tells, and the
-- editor that it leaves
pub record CameTo (o : CallOutcome) (m : ModelEditor) (result : Result Tree ApiFault)
    (is_seen : Bool) (facts : List Fact) (after : PresentEditor) : Type 0 where
  pub result_is : result ≡ o.result
  pub seen_is : is_seen ≡ o.is_seen
  pub facts_are : facts ≡ o.facts
  pub stands : Stands after (editor_after m o)

-- so it did in each model editor that the editor stood for
abbrev pub CallsMethod : ℕ → List ℕ → Trees → Result Tree ApiFault → Bool → List Fact
    → PresentEditor → PresentEditor → Type 0
CallsMethod session name args result is_seen facts before after =
    (m : ModelEditor) → Stands before m
    → CameTo (outcome_of_call m session name (tree_list args)) m result is_seen facts after

-- a request came to this: what answers it, whether it may have changed what is seen, what it tells,
-- and the editor that it leaves
pub record AnswersTo (o : CallOutcome) (call : Call) (m : ModelEditor) (answer : Option Sent)
    (is_seen : Bool) (facts : List Fact) (after : PresentEditor) : Type 0 where
  pub answer_is : answer ≡ reply_message call o.result
  pub seen_is : is_seen ≡ o.is_seen
  pub told : facts ≡ o.facts
  pub stands : Stands after (editor_after m o)

abbrev pub AnswersFrame : ℕ → Call → Option Sent → Bool → List Fact → PresentEditor
    → PresentEditor → Type 0
AnswersFrame session call answer is_seen facts before after =
    (m : ModelEditor) → Stands before m
    → AnswersTo (outcome_of_frame m session call) call m answer is_seen facts after
