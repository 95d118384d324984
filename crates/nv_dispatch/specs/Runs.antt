-- Whole calls one after another, as one session makes them: what each answers, and what they tell.
use Rattle.std.specs.Prelude.{ℕ, pos, ◌^◌, List, [], ◌∷◌, ◌++◌, Result}
use Rattle.nv_value.specs.Content.{Tree}
use Rattle.nv_value.specs.declared.fault.ApiFault.{ApiFault}
use Rattle.nv_model.specs.Editors.{ModelEditor, fresh_editor}
use Rattle.nv_model.specs.Answers.{Fact}
use Rattle.nv_model.specs.declared.parts.Limits.{Limits}
use Rattle.nv_dispatch.specs.Calls.{CallOutcome, editor_after, outcome_of_call}

-- a call: a method's name and its arguments
pub record NamedCall : Type 0 where
  pub name : List ℕ
  pub given : List Tree

-- the results of whole calls, each in the editor that those before it left
abbrev pub results_with_rest : ModelEditor → CallOutcome
    → (ModelEditor → List (Result Tree ApiFault)) → List (Result Tree ApiFault)
results_with_rest m o rest = o.result ∷ rest (editor_after m o)

abbrev pub results_from : ModelEditor → ℕ → List NamedCall → List (Result Tree ApiFault)
results_from m session [] = []
results_from m session (asked ∷ calls) =
    results_with_rest m (outcome_of_call m session asked.name asked.given)
    (λ after. results_from after session calls)

-- the facts of whole calls, each in the editor that those before it left
abbrev pub facts_with_rest : ModelEditor → CallOutcome → (ModelEditor → List Fact) → List Fact
facts_with_rest m o rest = o.facts ++ rest (editor_after m o)

abbrev pub facts_from : ModelEditor → ℕ → List NamedCall → List Fact
facts_from m session [] = []
facts_from m session (asked ∷ calls) =
    facts_with_rest m (outcome_of_call m session asked.name asked.given)
    (λ after. facts_from after session calls)

-- the limits of the server (own rule)
abbrev pub usual_limits : Limits
usual_limits = record {
  lines = 16777216;
  line_bytes = 16777216;
  marks = 16777216;
  buffers = 65536;
  windows = 1024;
  namespaces = 65536;
  groups = 65536;
  uis = 65536;
  ticks = pos (2 ^ 62);
  entries = 2 ^ 40;
}

-- the results of calls of session 1 to a fresh editor
abbrev pub results_of : List NamedCall → List (Result Tree ApiFault)
results_of calls = results_from (fresh_editor usual_limits) 1 calls

-- the facts that they tell
abbrev pub facts_told : List NamedCall → List Fact
facts_told calls = facts_from (fresh_editor usual_limits) 1 calls
