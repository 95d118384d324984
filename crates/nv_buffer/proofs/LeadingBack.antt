-- That each step has what its edit took, kept by an edit, by closing a change, and by a leg in the tree.
use Rattle.std.proofs.Common.{◌≡◌, ℕ, ℤ, pos, zero, suc, true, ◌-◌, ◌<◌, ◌≤◌, List, [], ◌∷◌, ◌++◌, length, take, fold, Option, Some, option_map, unwrap_or, slice_get, Result, Ok, Err, IfOk, inl, inr, refl, sym, ap, subst, ◌∙◌, arith}
use Rattle.std.proofs.lemmas.List.Elements.{All-nil}
use Rattle.std.proofs.lemmas.Option.{none-some}
use Rattle.nv_marks.specs.Marks.{Marks}
use Rattle.nv_undo.specs.Tree.{Undo, IsTree, no_changes, last, numbered, change_of, pushed, tree_after_leg}
use Rattle.nv_undo.specs.Ways.{origin, IsNext}
use Rattle.nv_undo.specs.declared.legs.Leg.{Leg}
use Rattle.nv_undo.specs.declared.legs.Leg.TheVariants.{Back}
use Rattle.nv_undo.proofs.NumberLemmas.{numbered_same}
use Rattle.nv_buffer.specs.Splices.{IsNarrowText}
use Rattle.nv_buffer.specs.Marks.{IsMarkIn, AreMarksIn}
use Rattle.nv_buffer.specs.Content.{fresh_content}
use Rattle.nv_buffer.specs.Changes.{lines_after, inverse_edits, AllFit, first_text, text_at, edits_of, leg_edits}
use Rattle.nv_buffer.specs.Steps.{edit_ahead, edit_back, edits_ahead, changes_ahead, tree_ahead, edits_since, IsKept, IsPutIn, IsBuffer, LeadBack, AllLeadBack}
use Rattle.nv_buffer.specs.declared.edit.Edit.{Edit}
use Rattle.nv_buffer.specs.declared.step.Step.{Step}
use Rattle.nv_buffer.proofs.KeptTexts.{text_at-change, text_at-stays, text_at-same}
use Rattle.nv_buffer.proofs.StepsAhead.{LeadBack-push, ahead_next, back_next}
use Rattle.nv_buffer.proofs.TreeAhead.{changed-ahead, count-ahead, edits-ahead, last-ahead, no_changes-ahead, origin-ahead, pushed-ahead, gone-ahead, tree-behind}
use Rattle.nv_buffer.proofs.Keeping.{first_is_text, new_buffer, seal_kept, leg_kept, pushed_cases, origin_below, gone_changes}

pub edit_leads : (text : List (List ℕ)) (tree : Undo (List Step)) (steps : List Step) (step : Step) → AllLeadBack tree steps
    → text ≡ fold lines_after (text_at (tree_ahead tree) tree.current) (edits_since tree steps) → IsKept text step
    → AllLeadBack tree (steps ++ step ∷ [])
edit_leads text tree steps step lead is kept = record {
  changes = lead.changes;
  since = LeadBack-push (text_at (tree_ahead tree) tree.current) text steps step lead.since is kept;
}

pub new_leads : AllLeadBack no_changes []
new_leads = record { changes = λ n steps is. absurd (none_there n steps is); since = tt }
  where
    none_there : (n : ℕ) (steps : List Step) → change_of no_changes n ≡ Some steps → ⊥
    none_there zero steps is = none-some steps is
    none_there (suc n) steps is = none-some steps is

-- the text at the origin of a change, once one more is made
origin_stays : (tree : Undo (List Step)) (steps : List Step) (n from : ℕ) → origin (pushed steps tree) n ≡ from → from ≤ last tree
    → text_at (tree_ahead (pushed steps tree)) (origin (pushed steps tree) n) ≡ text_at (tree_ahead tree) from
origin_stays tree steps n from is within =
    ap (text_at (tree_ahead (pushed steps tree))) is
    ∙ ap (λ (t : Undo (List Edit)). text_at t from) (pushed-ahead steps tree)
    ∙ text_at-stays (tree_ahead tree) (edits_since tree steps) from (subst (λ (n : ℕ). from ≤ n) (sym (last-ahead tree)) within)

pub seal_leads : (tree : Undo (List Step)) (steps : List Step) → IsTree tree → AllLeadBack tree steps → AllLeadBack (pushed steps tree) []
seal_leads tree steps is lead = record {
  changes = λ n found at. elim (pushed_cases tree steps found n at) [
    | inl old ↦ (
        let below : origin tree n < n = origin_below tree n found is old.1 in
        let same = origin_stays tree steps n (origin tree n) old.2 (omega (arith, old.0)) in
        subst (λ (t : List (List ℕ)). LeadBack t found) (sym same) (lead.changes n found old.1)
        )
    | inr new ↦ (
        let same = origin_stays tree steps n tree.current new.2 is.within in
        subst (λ (ss : List Step). LeadBack (text_at (tree_ahead (pushed steps tree)) (origin (pushed steps tree) n)) ss) new.1
        (subst (λ (t : List (List ℕ)). LeadBack t steps) (sym same) lead.since)
        )
  ];
  since = tt;
}

pub leg_leads : (tree : Undo (List Step)) (steps : List Step) (leg : Leg) → AllLeadBack tree steps → AllLeadBack (tree_after_leg leg tree) []
leg_leads tree steps leg lead = record {
  changes = λ n found at.
      let number : numbered (tree_after_leg leg tree) n ≡ numbered tree n = numbered_same (tree_after_leg leg tree) tree (changes_stay leg) n in
      let there : change_of tree n ≡ Some found = sym (ap (option_map (λ c. c.1)) number) ∙ at in
      let from : origin (tree_after_leg leg tree) n ≡ origin tree n =
      ap (λ (o : Option (ℕ × List Step)). unwrap_or (option_map (λ c. c.0) o) 0) number in
      let same : text_at (tree_ahead (tree_after_leg leg tree)) (origin (tree_after_leg leg tree) n) ≡ text_at (tree_ahead tree) (origin tree n) =
      ap (text_at (tree_ahead (tree_after_leg leg tree))) from
      ∙ text_at-same (tree_ahead (tree_after_leg leg tree)) (tree_ahead tree) (origin tree n) (ap changes_ahead (changes_stay leg)) in
      subst (λ (t : List (List ℕ)). LeadBack t found) (sym same) (lead.changes n found there);
  since = tt;
}
  where
    changes_stay : (leg : Leg) → (tree_after_leg leg tree).changes ≡ tree.changes
    changes_stay leg = gone_changes leg tree

-- ---- what is known of a new buffer
pub record Begins (text : List (List ℕ)) (tree : Undo (List Step)) (steps : List Step) (marks : Marks) : Type 0 where
  pub narrow : IsNarrowText text
  pub buffer : IsBuffer text (pos 2) (tree_ahead tree) (edits_since tree steps)
  pub lead : AllLeadBack tree steps
  pub places : AreMarksIn text marks

pub begins : (text : List (List ℕ)) (tree : Undo (List Step)) (steps : List Step) (marks : Marks) → text ≡ first_text → tree ≡ no_changes
    → steps ≡ [] → marks ≡ record { marks = []; greatest = []; settings = 0 } → Begins text tree steps marks
begins text tree steps marks text_is tree_is steps_is marks_is =
    rw (text_is, tree_is, steps_is, marks_is)
    (record {
      narrow = first_is_text.narrow;
      buffer = subst (λ (t : Undo (List Edit)). IsBuffer first_text (pos 2) t []) (sym no_changes-ahead) new_buffer;
      lead = new_leads;
      places = All-nil (IsMarkIn first_text);
    })

-- and how it is seen
pub fresh_seen : (handle : ℤ) (text : List (List ℕ)) (name : List ℕ) (tree : Undo (List Step)) (steps : List Step) (marks : Marks)
    → text ≡ first_text → name ≡ [] → tree ≡ no_changes → steps ≡ [] → marks ≡ record { marks = []; greatest = []; settings = 0 }
    → record (fresh_content handle true) { text = text; name = name; marks = marks; undo = tree_ahead tree; unsealed = edits_since tree steps }
    ≡ fresh_content handle true
fresh_seen handle text name tree steps marks text_is name_is tree_is steps_is marks_is =
    let undo : tree_ahead tree ≡ no_changes = ap tree_ahead tree_is ∙ no_changes-ahead in
    λ i. record (fresh_content handle true) { text = text_is i; name = name_is i; marks = marks_is i; undo = undo i; unsealed = edits_since tree (steps_is i) }

-- ---- an edit of a leg that is gone
pub ahead_there : (text : List (List ℕ)) (tick : ℤ) (tree : Undo (List Step)) (unsealed : List Step) (n place : ℕ) (steps : List Step) (step : Step)
    → IsBuffer text tick (tree_ahead tree) (edits_since tree unsealed) → AllLeadBack tree unsealed
    → change_of tree n ≡ Some steps → slice_get steps place ≡ Some step
    → text ≡ fold lines_after (text_at (tree_ahead tree) (origin (tree_ahead tree) n)) (take place (edits_of (tree_ahead tree) n))
    → (slice_get (edits_of (tree_ahead tree) n) place ≡ Some (edit_ahead text step)) × IsKept text step
ahead_there text tick tree unsealed n place steps step is lead there here along =
    let undo : Undo (List Edit) = tree_ahead tree in
    let tree_is : IsTree tree = tree-behind tree is.tree in
    let base : List (List ℕ) = text_at undo (origin tree n) in
    let from : text_at undo (origin undo n) ≡ base = ap (text_at undo) (origin-ahead tree n) in
    let edits : edits_of undo n ≡ edits_ahead base steps = edits-ahead tree n steps tree_is there in
    let found =
    ahead_next base text steps place step (lead.changes n steps there) here
    (along ∙ (λ i. fold lines_after (from i) (take place (edits i)))) in
    (ap (λ (es : List Edit). slice_get es place) edits ∙ found.0, found.1)

pub back_there : (text : List (List ℕ)) (tick : ℤ) (tree : Undo (List Step)) (unsealed : List Step) (n place : ℕ) (steps : List Step) (step : Step)
    → IsBuffer text tick (tree_ahead tree) (edits_since tree unsealed) → AllLeadBack tree unsealed
    → change_of tree n ≡ Some steps → place < length steps → slice_get steps (length steps - 1 - place) ≡ Some step
    → text ≡ fold lines_after (text_at (tree_ahead tree) n) (take place (leg_edits (tree_ahead tree) (Back n)))
    → (slice_get (leg_edits (tree_ahead tree) (Back n)) place ≡ Some (edit_back text step)) × IsPutIn text step
back_there text tick tree unsealed n place steps step is lead there within here along =
    let undo : Undo (List Edit) = tree_ahead tree in
    let tree_is : IsTree tree = tree-behind tree is.tree in
    let base : List (List ℕ) = text_at undo (origin tree n) in
    let changed : change_of undo n ≡ Some (edits_ahead base steps) = changed-ahead tree n steps tree_is there in
    let edits : edits_of undo n ≡ edits_ahead base steps = edits-ahead tree n steps tree_is there in
    let from : text_at undo (origin undo n) ≡ base = ap (text_at undo) (origin-ahead tree n) in
    let fit : AllFit base (edits_ahead base steps) =
    subst (λ (t : List (List ℕ)). AllFit t (edits_ahead base steps)) from (is.changes n (edits_ahead base steps) changed) in
    let now : text_at undo n ≡ fold lines_after base (edits_ahead base steps) =
    text_at-change undo n (edits_ahead base steps) is.tree changed
    ∙ ap (λ (t : List (List ℕ)). fold lines_after t (edits_ahead base steps)) from in
    let inverses : leg_edits undo (Back n) ≡ inverse_edits base (edits_ahead base steps) = λ i. inverse_edits (from i) (edits i) in
    let found =
    back_next base text steps place step (is.texts (origin tree n)) fit (lead.changes n steps there) within here
    (along ∙ (λ i. fold lines_after (now i) (take place (inverses i)))) in
    (ap (λ (es : List Edit). slice_get es place) inverses ∙ found.0, found.1)

-- how many steps there are at least
pub steps_within : (tree : Undo (List Step)) (n place : ℕ) (steps : List Step) → change_of tree n ≡ Some steps
    → place < length (edits_of (tree_ahead tree) n) → place < length steps
steps_within tree n place steps there within =
    let count : length (edits_of (tree_ahead tree) n) ≡ length steps =
    count-ahead tree n ∙ ap (λ (o : Option (List Step)). length (unwrap_or o [])) there in
    omega arith

-- the edit that was made
pub edit_told : {E : Type 0} (made : Result Edit E) (found edits : List Edit) (place : ℕ) (edit : Edit) → found ≡ edits
    → slice_get found place ≡ Some edit → IfOk made (λ e. e ≡ edit) → IfOk made (λ e. slice_get edits place ≡ Some e)
edit_told (Ok e) found edits place edit same here is =
    ap (λ (es : List Edit). slice_get es place) (sym same) ∙ here ∙ ap (λ (x : Edit). Some x) (sym is)
edit_told (Err e) found edits place edit same here is = is

-- ---- closing a change, and a leg in the tree, as they stand in a buffer
pub record Stands (text : List (List ℕ)) (tick : ℤ) (tree : Undo (List Step)) (unsealed : List Step) : Type 0 where
  pub buffer : IsBuffer text tick (tree_ahead tree) (edits_since tree unsealed)
  pub lead : AllLeadBack tree unsealed

pub sealed_stands : (text : List (List ℕ)) (tick : ℤ) (tree now : Undo (List Step)) (unsealed change left : List Step)
    → IsBuffer text tick (tree_ahead tree) (edits_since tree unsealed) → AllLeadBack tree unsealed → IsTree tree → change ≡ unsealed
    → now ≡ pushed change tree → left ≡ [] → Stands text tick now left
sealed_stands text tick tree now unsealed change left is lead here change_is now_is left_is =
    let same : now ≡ pushed unsealed tree = now_is ∙ ap (λ (ss : List Step). pushed ss tree) change_is in
    rw (same, left_is) (record {
      buffer =
          subst (λ (t : Undo (List Edit)). IsBuffer text tick t []) (sym (pushed-ahead unsealed tree))
          (seal_kept text tick (tree_ahead tree) (edits_since tree unsealed) is);
      lead = seal_leads tree unsealed here lead;
    })

pub leg_stands : (text : List (List ℕ)) (tick : ℤ) (tree now : Undo (List Step)) (unsealed left : List Step) (leg : Leg)
    → IsBuffer text tick (tree_ahead tree) (edits_since tree unsealed) → AllLeadBack tree unsealed → IsNext (tree_ahead tree) leg
    → text ≡ text_at (tree_ahead tree) (tree_after_leg leg (tree_ahead tree)).current → now ≡ tree_after_leg leg tree → left ≡ [] → Stands text tick now left
leg_stands text tick tree now unsealed left leg is lead next arrived now_is left_is = rw (now_is, left_is) (record {
  buffer =
      subst (λ (t : Undo (List Edit)). IsBuffer text tick t []) (sym (gone-ahead leg tree))
      (leg_kept text text tick (tree_ahead tree) (edits_since tree unsealed) leg is next arrived);
  lead = leg_leads tree unsealed leg lead;
})
