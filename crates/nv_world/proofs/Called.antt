-- What a call came to.
use Rattle.std.proofs.Common.{◌≡◌, ℕ, Bool, List, [], ◌++◌, map, sym, ap, ◌∙◌, subst, Result}
use Rattle.nv_value.specs.Content.{Tree, Trees}
use Rattle.nv_value.specs.View.{content, contents}
use Rattle.nv_value.specs.declared.value.Value.{Value}
use Rattle.nv_value.specs.declared.fault.ApiFault.{ApiFault}
use Rattle.nv_args.specs.Arguments.{tree_list}
use Rattle.nv_model.specs.Editors.{ModelEditor}
use Rattle.nv_model.specs.Answers.{Fact}
use Rattle.nv_model.specs.Standing.{PresentEditor}
use Rattle.nv_dispatch.specs.Calls.{CallOutcome, outcome_of_call}
use Rattle.nv_dispatch.specs.Outcomes.{IsOutcome}
use Rattle.nv_dispatch.proofs.CallValues.{tree_list-contents}
use Rattle.nv_world.specs.inside.Answers.{CameTo}

came_to_outcome : (o p : CallOutcome) (m : ModelEditor) (result : Result Tree ApiFault) (is_seen : Bool) (after : PresentEditor) (told now facts : List Fact)
    → o ≡ p → facts ≡ now → told ≡ [] → IsOutcome o m result is_seen after told now
    → CameTo p m result is_seen facts after
came_to_outcome o p m result is_seen after told now facts same facts_is none gave =
    subst (λ (q : CallOutcome). CameTo q m result is_seen facts after) same (record {
      result_is = sym gave.result_is;
      seen_is = sym gave.seen_is;
      facts_are = facts_is ∙ gave.facts ∙ ap (λ (l : List Fact). l ++ o.facts) none;
      stands = gave.stands;
    })

-- a call with these values
pub came_to : (m : ModelEditor) (session : ℕ) (name : List ℕ) (params : List Value) (result : Result Tree ApiFault) (is_seen : Bool)
    (after : PresentEditor) (told now facts : List Fact)
    → facts ≡ now → told ≡ []
    → IsOutcome (outcome_of_call m session name (map content params)) m result is_seen after told now
    → CameTo (outcome_of_call m session name (tree_list (contents params))) m result is_seen facts after
came_to m session name params result is_seen after told now facts facts_is none gave =
    came_to_outcome _ _ m result is_seen after told now facts
    (ap (λ (l : List Tree). outcome_of_call m session name l) (sym (tree_list-contents params)))
    facts_is none gave
