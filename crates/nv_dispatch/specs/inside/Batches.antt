-- inside: calls one after another, as they are made.
use Rattle.std.specs.Prelude.{◌≡◌, ℕ, ◌^◌, ◌<◌, ◌++◌, ◌||◌, Bool, List, [], ◌∷◌, length, map, None, Some, option_map, IfSome, Result, Ok, Err}
use Rattle.nv_value.specs.Content.{Tree, trees_of}
use Rattle.nv_value.specs.declared.fault.ApiFault.{ApiFault}
use Rattle.nv_msgpack.specs.Shortest.{HaveSpellings}
use Rattle.nv_rpc.specs.Outcomes.{call_result_content, outcome_content}
use Rattle.nv_args.specs.Refusals.{CanBeTold}
use Rattle.nv_args.specs.declared.faults.Fail.{Fail}
use Rattle.nv_args.specs.declared.faults.Fail.TheVariants.{Api, NoMemory}
use Rattle.nv_model.specs.Editors.{ModelEditor}
use Rattle.nv_model.specs.Operations.{Operation, after_operations}
use Rattle.nv_model.specs.Answers.{Fact}
use Rattle.nv_model.specs.Standing.{PresentEditor, Stands}
use Rattle.nv_dispatch.specs.Calls.{Batch, batch_of_values}
use Rattle.nv_dispatch.specs.declared.batch.Results.{Results}
use Rattle.nv_dispatch.specs.declared.batch.Stop.{Stop}
use Rattle.nv_dispatch.specs.declared.done.Done.{Done}

-- where calls stopped: the number of the call, and its fault
abbrev pub stop_of : Stop → ℕ × ApiFault
stop_of stop = (stop.number, stop.fault)

-- calls one after another came to this
pub record IsBatch (wanted : Batch) (m : ModelEditor) (made : Results) (after : PresentEditor)
    (told now : List Fact) : Type 0 where
  pub results : wanted.results ≡ map call_result_content made.values.items
  pub stopped : wanted.stopped ≡ option_map stop_of made.stopped
  pub seen : wanted.is_seen ≡ made.is_seen
  pub stands : Stands after (after_operations wanted.operations m)
  pub facts : now ≡ told ++ wanted.facts

-- the results are few enough to be told, and each can be
pub record CanBeListed (made : Results) : Type 0 where
  pub few : length made.values.items < 2 ^ 31
  pub spelled : HaveSpellings (trees_of (map call_result_content made.values.items))
  pub fault : IfSome made.stopped (λ stop. CanBeTold stop.fault)
  pub number : IfSome made.stopped (λ stop. stop.number < 2 ^ 31)

-- what calls that succeeded came to, and then others
abbrev pub batch_behind : List Tree → List Operation → List Fact → Bool → Batch → Batch
batch_behind results operations facts is_seen rest = record {
  results = results ++ rest.results;
  stopped = rest.stopped;
  operations = operations ++ rest.operations;
  facts = facts ++ rest.facts;
  is_seen = is_seen || rest.is_seen;
}

-- calls were made up to those that are left, and succeeded: all of them come to what was done, and
-- then to what is left in the editor that was reached
pub record IsMadeSoFar (wanted : Batch) (m : ModelEditor) (session : ℕ) (results : List Tree)
    (is_seen : Bool) (left : List Tree) (after : PresentEditor)
    (told now : List Fact) : Type 0 where
  pub operations : List Operation
  pub facts : List Fact
  pub stands : Stands after (after_operations operations m)
  pub facts_are : now ≡ told ++ facts
  pub wanted_is : wanted ≡ batch_behind results operations facts is_seen
      (batch_of_values (length results) (after_operations operations m) session left)

-- what is known of calls after one more: its result is behind the others, or they stopped at it
abbrev pub TakesResult : Result Done Fail → Results → Results → Type 0
TakesResult (Ok done) made later =
    (map call_result_content later.values.items
    ≡ map call_result_content made.values.items ++ outcome_content done.result ∷ [])
    × (later.stopped ≡ None) × (later.is_seen ≡ (made.is_seen || done.is_seen))
TakesResult (Err (Api fault)) made later =
    (map call_result_content later.values.items ≡ map call_result_content made.values.items)
    × (option_map stop_of later.stopped ≡ Some (length made.values.items, fault))
    × (later.is_seen ≡ made.is_seen)
TakesResult (Err NoMemory) made later = ⊥
