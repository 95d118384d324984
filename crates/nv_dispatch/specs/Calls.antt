-- What a call comes to: one method by its row, and calls one after another (help: api,
-- nvim_call_atomic(); own rule: the splices of a call in a buffer are one change).
use Rattle.std.specs.Prelude.{ℕ, suc, pos, Bool, false, ◌||◌, List, [], ◌∷◌, ◌++◌, map, codes, bytes_eq, Option, Some, None, Result, Ok, Err, if◌then◌else◌}
use Rattle.nv_value.specs.Content.{Tree, nil, integer, text}
use Rattle.nv_value.specs.declared.fault.ApiFault.{ApiFault}
use Rattle.nv_args.specs.Faults.{unknown_method}
use Rattle.nv_args.specs.Arguments.{tree_list}
use Rattle.nv_args.specs.Table.{Signature, method_named}
use Rattle.nv_args.specs.declared.methods.Method.{Method}
use Rattle.nv_args.specs.declared.methods.Method.TheVariants.{Atomic, PassedOver, Buffer, Mark, Window, Ui}
use Rattle.nv_args.specs.Reading.{Arg, read, values_at, name_of_call, arguments_of_call}
use Rattle.nv_model.specs.Editors.{ModelEditor, handles_of}
use Rattle.nv_model.specs.Seen.{Seen, seen_of}
use Rattle.nv_model.specs.Operations.{Operation, sealed_in, after_operations}
use Rattle.nv_model.specs.Answers.{Answer, Fact, refused, replied}
use Rattle.nv_model.specs.Answering.{array_of, reply_of}
use Rattle.nv_model.specs.Rows.{Row}
use Rattle.nv_api_buf.specs.Rows.{buffer_row}
use Rattle.nv_api_mark.specs.Rows.{mark_row}
use Rattle.nv_api_win.specs.WindowRows.{window_row}
use Rattle.nv_api_ui.specs.UiRows.{ui_row}

-- the row of a method that is passed over
abbrev pub passed_over : Row
passed_over s session args = reply_of nil

-- the row of a method; calls in one have none
unfoldable pub row_of : Method → Option Row
row_of Atomic = None
row_of PassedOver = Some passed_over
row_of (Buffer method) = Some (buffer_row method)
row_of (Mark method) = Some (mark_row method)
row_of (Window method) = Some (window_row method)
row_of (Ui method) = Some (ui_row method)

-- what a call comes to: its result or its fault, the operations that it makes and the facts, both
-- in order, and whether it may have changed what is seen
pub record CallOutcome : Type 0 where
  pub result : Result Tree ApiFault
  pub operations : List Operation
  pub facts : List Fact
  pub is_seen : Bool

-- the editor that it leaves
abbrev pub editor_after : ModelEditor → CallOutcome → ModelEditor
editor_after m o = after_operations o.operations m

-- an answer: a refused call makes no operation and tells nothing
abbrev pub outcome_of_answer : Bool → Answer → CallOutcome
outcome_of_answer is_seen (refused fault) =
    record { result = Err fault; operations = []; facts = []; is_seen = false }
outcome_of_answer is_seen (replied result operations facts) =
    record { result = Ok result; operations = operations; facts = facts; is_seen = is_seen }

-- the arguments of a call as its method reads them; one that is passed over takes any
abbrev pub arguments_for : Method → Signature → List Tree → Result (List Arg) ApiFault
arguments_for PassedOver signature given = Ok []
arguments_for method signature given = read signature given

-- the answer of a row to arguments, where they could be read
abbrev pub answer_to_args : Seen → ℕ → Row → Result (List Arg) ApiFault → Answer
answer_to_args s session row (Ok args) = row s session args
answer_to_args s session row (Err fault) = refused fault

-- the answer to a call of a method that has a row: number and types of the arguments come before
-- all else
abbrev pub answer_by_row : Seen → ℕ → Signature → List Tree → Option Row → Answer
answer_by_row s session signature given (Some row) =
    answer_to_args s session row (arguments_for signature.method signature given)
answer_by_row s session signature given None = refused (unknown_method signature.name)

-- what a call of a method of the table answers, and what it comes to
abbrev pub answer_of_method : Seen → ℕ → Signature → List Tree → Answer
answer_of_method s session signature given =
    answer_by_row s session signature given (row_of signature.method)

abbrev pub outcome_of_method : ModelEditor → ℕ → Signature → List Tree → CallOutcome
outcome_of_method m session signature given =
    outcome_of_answer signature.is_seen (answer_of_method (seen_of m) session signature given)

-- a call by the name of its method
abbrev pub outcome_of_found : ModelEditor → ℕ → List ℕ → Option Signature → List Tree
    → CallOutcome
outcome_of_found m session name (Some signature) given = outcome_of_method m session signature given
outcome_of_found m session name None given =
    outcome_of_answer false (refused (unknown_method name))

abbrev pub outcome_of_name : ModelEditor → ℕ → List ℕ → List Tree → CallOutcome
outcome_of_name m session name given =
    outcome_of_found m session name (method_named name) given

-- calls one after another: the results up to the first fault, and that with the number of its call,
-- from 0
pub record Batch : Type 0 where
  pub results : List Tree
  pub stopped : Option (ℕ × ApiFault)
  pub operations : List Operation
  pub facts : List Fact
  pub is_seen : Bool

-- a call that succeeded in front of those that follow it
abbrev pub batch_with_first : Tree → CallOutcome → Batch → Batch
batch_with_first result o rest = record {
  results = result ∷ rest.results;
  stopped = rest.stopped;
  operations = o.operations ++ rest.operations;
  facts = o.facts ++ rest.facts;
  is_seen = o.is_seen || rest.is_seen;
}

-- no call, and a call that is refused: none is made behind it
abbrev pub no_calls : Batch
no_calls = record { results = []; stopped = None; operations = []; facts = []; is_seen = false }

abbrev pub batch_stopped_at : ℕ → ApiFault → Batch
batch_stopped_at number fault = record no_calls { stopped = Some (number, fault) }

-- a call, and then others in the editor that it leaves
abbrev pub batch_from_result : ℕ → ModelEditor → CallOutcome → (ModelEditor → Batch)
    → Result Tree ApiFault → Batch
batch_from_result number m o next (Ok result) = batch_with_first result o (next (editor_after m o))
batch_from_result number m o next (Err fault) = batch_stopped_at number fault

abbrev pub batch_from_call : ℕ → ModelEditor → CallOutcome → (ModelEditor → Batch) → Batch
batch_from_call number m o next = batch_from_result number m o next o.result

-- the call of a value `[name, arguments]`
abbrev pub outcome_of_value : ModelEditor → ℕ → Tree → CallOutcome
outcome_of_value m session value =
    outcome_of_name m session (name_of_call value) (arguments_of_call value)

-- calls one after another, the first of this number
abbrev pub batch_of_values : ℕ → ModelEditor → ℕ → List Tree → Batch
batch_of_values number m session [] = no_calls
batch_of_values number m session (value ∷ values) =
    batch_from_call number m (outcome_of_value m session value)
    (λ after. batch_of_values (suc number) after session values)

-- how a fault among calls is told: the number of its call, its kind and its words (help:
-- nvim_call_atomic())
abbrev pub stop_value : Option (ℕ × ApiFault) → Tree
stop_value None = nil
stop_value (Some stop) =
    array_of (integer (pos stop.0) ∷ integer (pos stop.1.kind) ∷ text stop.1.words ∷ [])

-- calls one after another as one call: what was done before a fault stays
abbrev pub outcome_of_batch : Batch → CallOutcome
outcome_of_batch b = record {
  result = Ok (array_of (array_of b.results ∷ stop_value b.stopped ∷ []));
  operations = b.operations;
  facts = b.facts;
  is_seen = b.is_seen;
}

abbrev pub atomic_outcome : ModelEditor → ℕ → Result (List Arg) ApiFault → CallOutcome
atomic_outcome m session (Ok args) =
    outcome_of_batch (batch_of_values 0 m session (tree_list (values_at args 0)))
atomic_outcome m session (Err fault) = outcome_of_answer false (refused fault)

-- the name of the method that makes calls one after another
abbrev pub atomic_name : List ℕ
atomic_name = codes "nvim_call_atomic"

-- nvim_call_atomic(calls): the calls one after another, up to the first fault; it has no row, so
-- that it is unknown inside itself (own rule)
abbrev pub nvim_call_atomic : ModelEditor → ℕ → List Tree → Option Signature → CallOutcome
nvim_call_atomic m session given (Some method) = atomic_outcome m session (read method given)
nvim_call_atomic m session given None =
    outcome_of_answer false (refused (unknown_method atomic_name))

-- a call of any method
abbrev pub outcome_before_seal : ModelEditor → ℕ → List ℕ → List Tree → CallOutcome
outcome_before_seal m session name given =
    if bytes_eq name atomic_name then nvim_call_atomic m session given (method_named name)
    else outcome_of_name m session name given

-- a call that is whole: where it succeeded, it ends by closing the open change of each buffer
abbrev pub seal_operations : ModelEditor → List Operation
seal_operations m = map sealed_in (handles_of m.buffers)

abbrev pub outcome_with_seal : ModelEditor → CallOutcome → Result Tree ApiFault → CallOutcome
outcome_with_seal m o (Ok result) =
    record o { operations = o.operations ++ seal_operations (editor_after m o) }
outcome_with_seal m o (Err fault) = o

abbrev pub sealed_outcome : ModelEditor → CallOutcome → CallOutcome
sealed_outcome m o = outcome_with_seal m o o.result

-- what a whole call comes to
abbrev pub outcome_of_call : ModelEditor → ℕ → List ℕ → List Tree → CallOutcome
outcome_of_call m session name given = sealed_outcome m (outcome_before_seal m session name given)
