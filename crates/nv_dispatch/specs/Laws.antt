-- Laws of calls.
use Rattle.std.specs.Prelude.{◌≡◌, ℕ, ℤ, List, [], ◌∷◌, ◌++◌, ◌+◌, length, map, bytes_eq, not, Some, is_some, IsTrue, Result, Ok, Err}
use Rattle.std.specs.List.{list_all, range_with_len}
use Rattle.nv_value.specs.Content.{Tree, nil, list, trees_of}
use Rattle.nv_value.specs.declared.fault.ApiFault.{ApiFault}
use Rattle.nv_args.specs.Table.{all_names, table, place_of_name}
use Rattle.nv_args.specs.Reading.{is_call}
use Rattle.nv_model.specs.Buffers.{tick_of}
use Rattle.nv_model.specs.Editors.{ModelEditor, fresh_editor}
use Rattle.nv_model.specs.Operations.{Operation, after_operations}
use Rattle.nv_model.specs.Answers.{Fact}
use Rattle.nv_model.specs.Laws.{IsNumbered, OfBuffer, splices_among}
use Rattle.nv_model.specs.Answering.{array_of}
use Rattle.nv_model.specs.Rows.{edits_among}
use Rattle.nv_model.specs.declared.parts.Limits.{Limits}
use Rattle.nv_dispatch.specs.Calls.{CallOutcome, row_of, editor_after, outcome_of_value, atomic_name, outcome_before_seal, outcome_of_call, stop_value}
use Rattle.nv_dispatch.specs.Telling.{IsSoundModel, FactsTell, past_at}

-- each name stands at one place of the tables
unfoldable pub NamesStandOnce : Type 0
NamesStandOnce =
    map (λ signature. place_of_name signature.name) all_names
    ≡ map Some (range_with_len 0 (length all_names))

-- each method of the table but that of calls in one has a row
unfoldable pub MethodsHaveRows : Type 0
MethodsHaveRows = map (λ signature. is_some (row_of signature.method)) table
    ≡ map (λ signature. not (bytes_eq signature.name atomic_name)) table

-- a refused call leaves the editor as it was, and tells nothing
unfoldable pub RefusedLeavesAll : Type 0
RefusedLeavesAll =
    (m : ModelEditor) (session : ℕ) (name : List ℕ) (given : List Tree) (fault : ApiFault)
    → (outcome_of_call m session name given).result ≡ Err fault
    → (editor_after m (outcome_of_call m session name given) ≡ m)
    × ((outcome_of_call m session name given).facts ≡ [])

-- whatever a call comes to, it tells of each buffer as many splices as it makes in it
unfoldable pub EachSpliceIsOneFact : Type 0
EachSpliceIsOneFact =
    (m : ModelEditor) (session : ℕ) (name : List ℕ) (given : List Tree) (n : ℤ)
    → length (edits_among n (outcome_of_call m session name given).facts)
    ≡ length (splices_among n (outcome_of_call m session name given).operations)

-- so the changedtick of a buffer that stays rises by the number of facts that tell of its splices
unfoldable pub TicksCountFacts : Type 0
TicksCountFacts =
    (m : ModelEditor) (session : ℕ) (name : List ℕ) (given : List Tree) (n : ℤ) → IsNumbered m
    → OfBuffer (λ b later. tick_of later
    ≡ tick_of b + length (edits_among n (outcome_of_call m session name given).facts)) n m
    (editor_after m (outcome_of_call m session name given))

-- a call that succeeds, and what follows it in the editor that it leaves
pub record IsFirst (o : CallOutcome) (others : List Tree → List Operation → List Fact → Type 0)
    (results : List Tree) (operations : List Operation) (facts : List Fact) : Type 0 where
  pub result : Tree
  pub later_results : List Tree
  pub later_operations : List Operation
  pub later_facts : List Fact
  pub succeeds : o.result ≡ Ok result
  pub all_results : results ≡ result ∷ later_results
  pub all_operations : operations ≡ o.operations ++ later_operations
  pub all_facts : facts ≡ o.facts ++ later_facts
  pub later : others later_results later_operations later_facts

-- calls one after another, none of which is refused: their results, and all that they do and tell
abbrev pub OneByOne : ModelEditor → ℕ → List Tree → List Tree → List Operation → List Fact → Type 0
OneByOne m session [] results operations facts = (results ≡ []) × (operations ≡ []) × (facts ≡ [])
OneByOne m session (value ∷ values) results operations facts =
    IsFirst (outcome_of_value m session value)
    (OneByOne
    (editor_after m (outcome_of_value m session value)) session values) results operations facts

-- the calls of one call
abbrev pub outcome_of_calls : ModelEditor → ℕ → List Tree → CallOutcome
outcome_of_calls m session values =
    outcome_before_seal m session atomic_name (list (trees_of values) ∷ [])

-- a call that comes to these results, operations and facts
pub record ComesTo (o : CallOutcome) (result : Result Tree ApiFault) (operations : List Operation)
    (facts : List Fact) : Type 0 where
  pub same_result : o.result ≡ result
  pub same_operations : o.operations ≡ operations
  pub same_facts : o.facts ≡ facts

-- calls of which none is refused are, as one call, those calls one after another
unfoldable pub AtomicIsOneByOne : Type 0
AtomicIsOneByOne =
    (m : ModelEditor) (session : ℕ) (values results : List Tree) (operations : List Operation)
    (facts : List Fact)
    → IsTrue (list_all is_call values) → OneByOne m session values results operations facts
    → ComesTo (outcome_of_calls m session values)
    (Ok (array_of (array_of results ∷ nil ∷ []))) operations facts

-- and where one is refused it is those before it, whose operations stay, and the fault with the
-- number of the refused one
unfoldable pub AtomicStops : Type 0
AtomicStops =
    (m : ModelEditor) (session : ℕ) (before : List Tree) (value : Tree) (behind results : List Tree)
    (operations : List Operation) (facts : List Fact)
    (fault : ApiFault)
    → IsTrue (list_all is_call (before ++ value ∷ behind))
    → OneByOne m session before results operations facts
    → (outcome_of_value (after_operations operations m) session value).result ≡ Err fault
    → ComesTo (outcome_of_calls m session (before ++ value ∷ behind))
    (Ok (array_of (array_of results ∷ stop_value (Some (length before, fault))
    ∷ []))) operations facts

-- a fresh editor is sound, and each call leaves it so
unfoldable pub SoundnessIsKept : Type 0
SoundnessIsKept =
    ((limits : Limits) → IsSoundModel (fresh_editor limits))
    × ((m : ModelEditor) (session : ℕ) (name : List ℕ) (given : List Tree) → IsSoundModel m
    → IsSoundModel (editor_after m (outcome_of_call m session name given)))

-- the facts of a call tell what becomes of each buffer: its splices and no other, each in the text
-- and at the changedtick of its moment, and its end (help: api-buffer-updates)
unfoldable pub FactsTellPasts : Type 0
FactsTellPasts =
    (m : ModelEditor) (session : ℕ) (name : List ℕ) (given : List Tree) (n : ℤ) → IsSoundModel m
    → FactsTell n (outcome_of_call m session name given).facts (past_at m n)
    (past_at (editor_after m (outcome_of_call m session name given)) n)
