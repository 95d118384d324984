-- Lemmas on legs that are gone in the tree of changes, and on what is told of them.
use Rattle.std.proofs.Common.{◌≡◌, ℕ, ℤ, pos, suc, ◌+◌, ◌+ℤ◌, ◌<◌, ◌≤◌, ◌≤ℤ◌, ◌<ℤ◌, true, List, [], ◌∷◌, ◌++◌, length, take, drop, slice_get, flat_map, fold, Option, Some, Result, Ok, Err, OnOk, option_map, unwrap_or, refl, sym, ap, subst, ◌∙◌, arith, length-append, append_assoc}
use Rattle.std.proofs.lemmas.Int.{ints}
use Rattle.std.proofs.lemmas.List.{append-nil, drop_more, drop_all, take_more}
use Rattle.std.proofs.lemmas.Option.{get_or_from_slice_get, slice_get_within}
use Rattle.nv_undo.specs.Tree.{Undo, last, numbered, parent_of, change_of, path, tree_after_leg}
use Rattle.nv_undo.specs.Ways.{Leads, origin, IsNext}
use Rattle.nv_undo.specs.declared.legs.Leg.{Leg}
use Rattle.nv_undo.specs.declared.legs.Leg.TheVariants.{Back, Ahead}
use Rattle.nv_undo.proofs.NumberLemmas.{some_numbered, some_parent, numbered_same, parent_within, parent_same}
use Rattle.nv_buffer.specs.Changes.{lines_after, inverse_edits, Fits, AllFit, text_at, edits_of, leg_text, leg_edits}
use Rattle.nv_buffer.specs.Content.{Content, after_edit, event_at, events_from, event_fold, TellBytes, after_seal, after_seal_of, after_leg, undo_to_edits, IsAlong}
use Rattle.nv_marks.specs.Marks.{Marks}
use Rattle.nv_marks.specs.declared.keeping.Kept.{Kept}
use Rattle.nv_buffer.specs.Steps.{IsBuffer}
use Rattle.nv_buffer.specs.declared.edit.Edit.{Edit}
use Rattle.nv_buffer.specs.declared.buffer.Spliced.{Spliced}
use Rattle.nv_buffer.proofs.WayBack.{fold-append, AllFit-append, taken_back, TakenBack}
use Rattle.nv_buffer.proofs.KeptTexts.{text_at-change, text_at-same}
use Rattle.nv_buffer.proofs.Keeping.{gone_changes, leg_kept}

-- ---- what is told of edits
pub length-told_from : (tick : ℤ) (edits : List Edit) → length (events_from tick edits) ≡ length edits
length-told_from tick [] = refl
length-told_from tick (edit ∷ edits) = ap (λ n. suc n) (length-told_from (tick +ℤ pos 1) edits)

pub fold-told_from : (text : List (List ℕ)) (tick : ℤ) (edits : List Edit) → fold event_fold text (events_from tick edits) ≡ fold lines_after text edits
fold-told_from text tick [] = refl
fold-told_from text tick (edit ∷ edits) = fold-told_from (lines_after text edit) (tick +ℤ pos 1) edits

pub told_from-tell : (text : List (List ℕ)) (tick : ℤ) (edits : List Edit) → AllFit text edits → TellBytes text (events_from tick edits)
told_from-tell text tick [] fit = tt
told_from-tell text tick (edit ∷ edits) fit = (fit.0.bytes, told_from-tell (lines_after text edit) (tick +ℤ pos 1) edits fit.1)

tick_next : (tick : ℤ) (n : ℕ) → (tick +ℤ pos 1) +ℤ pos n ≡ tick +ℤ pos (suc n)
tick_next tick n = omega (arith, ints)

pub told_from-append : (tick : ℤ) (edits more : List Edit)
    → events_from tick (edits ++ more) ≡ events_from tick edits ++ events_from (tick +ℤ pos (length edits)) more
told_from-append tick [] more = ap (λ (t : ℤ). events_from t more) (none_more tick)
  where
    none_more : (tick : ℤ) → tick ≡ tick +ℤ pos 0
    none_more tick = omega (arith, ints)
told_from-append tick (edit ∷ edits) more =
    ap (λ (es : List Spliced). event_at (tick +ℤ pos 1) edit ∷ es) (
    told_from-append (tick +ℤ pos 1) edits more
    ∙ ap (λ (t : ℤ). events_from (tick +ℤ pos 1) edits ++ events_from t more) (tick_next tick (length edits))
    )

-- ---- edits made one after another
-- the fields of the buffer afterwards
pub made-text : (buffer : Content) (edits : List Edit) → (fold after_edit buffer edits).text ≡ fold lines_after buffer.text edits
made-text buffer [] = refl
made-text buffer (edit ∷ edits) = made-text (after_edit buffer edit) edits

pub made-tick : (buffer : Content) (edits : List Edit) → (fold after_edit buffer edits).tick ≡ buffer.tick +ℤ pos (length edits)
made-tick buffer [] = none_more buffer.tick
  where
    none_more : (tick : ℤ) → tick ≡ tick +ℤ pos 0
    none_more tick = omega (arith, ints)
made-tick buffer (edit ∷ edits) = made-tick (after_edit buffer edit) edits ∙ tick_next buffer.tick (length edits)

pub made-undo : (buffer : Content) (edits : List Edit) → (fold after_edit buffer edits).undo ≡ buffer.undo
made-undo buffer [] = refl
made-undo buffer (edit ∷ edits) = made-undo (after_edit buffer edit) edits

-- and all that edits leave as it was
pub made-rest : (buffer : Content) (edits : List Edit) (text : List (List ℕ)) (tick : ℤ) (marks : Marks) (kept : List ((ℕ × ℕ) × List Kept))
    (undo : Undo (List Edit)) (unsealed : List Edit)
    → record (fold after_edit buffer edits) { text = text; tick = tick; modified = true; marks = marks; kept = kept; undo = undo; unsealed = unsealed }
    ≡ record buffer { text = text; tick = tick; modified = true; marks = marks; kept = kept; undo = undo; unsealed = unsealed }
made-rest buffer [] text tick marks kept undo unsealed = refl
made-rest buffer (edit ∷ edits) text tick marks kept undo unsealed = made-rest (after_edit buffer edit) edits text tick marks kept undo unsealed

-- ---- a leg
-- what stands at a number
pub change_there : {E : Type 0} (undo : Undo E) (n : ℕ) → 0 < n → n ≤ last undo → (change : E) × (change_of undo n ≡ Some change)
change_there undo n some within = let c = some_numbered undo n some within in (c.0.1, ap (option_map (λ x. x.1)) c.1)

edits_there : (undo : Undo (List Edit)) (n : ℕ) → 0 < n → n ≤ last undo → change_of undo n ≡ Some (edits_of undo n)
edits_there undo n some within =
    let c = change_there undo n some within in c.1 ∙ ap (λ (es : List Edit). Some es) (sym (ap (λ (o : Option (List Edit)). unwrap_or o []) c.1))

-- the edits of a leg can be made of the text of the current number, and lead to that of the leg's number
pub record Runs (undo : Undo (List Edit)) (leg : Leg) : Type 0 where
  pub fit : AllFit (text_at undo undo.current) (leg_edits undo leg)
  pub leads : fold lines_after (text_at undo undo.current) (leg_edits undo leg) ≡ text_at undo (tree_after_leg leg undo).current

back_runs : (text : List (List ℕ)) (tick : ℤ) (undo : Undo (List Edit)) (unsealed : List Edit) → IsBuffer text tick undo unsealed
    → 0 < undo.current → Runs undo (Back undo.current)
back_runs text tick undo unsealed is some =
    let n : ℕ = undo.current in
    let edits : List Edit = edits_of undo n in
    let from : List (List ℕ) = text_at undo (origin undo n) in
    let there : change_of undo n ≡ Some edits = edits_there undo n some is.tree.within in
    let here : text_at undo n ≡ fold lines_after from edits = text_at-change undo n edits is.tree there in
    let back : TakenBack from edits = taken_back from edits (is.texts (origin undo n)) (is.changes n edits there) in
    let number : origin undo n ≡ unwrap_or (parent_of undo n) n = same_origin undo n some is.tree.within in record {
      fit = subst (λ (t : List (List ℕ)). AllFit t (inverse_edits from edits)) (sym here) back.fit;
      leads =
          ap (λ (t : List (List ℕ)). fold lines_after t (inverse_edits from edits)) here ∙ back.text_is ∙ ap (text_at undo) number;
    }
  where
    same_origin : (undo : Undo (List Edit)) (n : ℕ) → 0 < n → n ≤ last undo → origin undo n ≡ unwrap_or (parent_of undo n) n
    same_origin undo n some within =
        let c = some_numbered undo n some within in
        let parent : parent_of undo n ≡ Some c.0.0 = ap (option_map (λ x. x.0)) c.1 in
        ap (λ (o : Option ℕ). unwrap_or o 0) parent ∙ sym (ap (λ (o : Option ℕ). unwrap_or o n) parent)

pub leg_runs : (text : List (List ℕ)) (tick : ℤ) (undo : Undo (List Edit)) (unsealed : List Edit) (leg : Leg) → IsBuffer text tick undo unsealed
    → IsNext undo leg → Runs undo leg
leg_runs text tick undo unsealed (Back n) is next =
    subst (λ (k : ℕ). Runs undo (Back k)) (sym next.0) (back_runs text tick undo unsealed is (subst (λ (k : ℕ). 0 < k) next.0 next.1))
leg_runs text tick undo unsealed (Ahead n) is next =
    let within = parent_within undo n undo.current next in
    let edits : List Edit = edits_of undo n in
    let there : change_of undo n ≡ Some edits = edits_there undo n within.0 within.1 in
    let number : origin undo n ≡ undo.current = ap (λ (o : Option ℕ). unwrap_or o 0) next in record {
      fit = subst (λ (k : ℕ). AllFit (text_at undo k) edits) number (is.changes n edits there);
      leads = sym (text_at-change undo n edits is.tree there ∙ ap (λ (k : ℕ). fold lines_after (text_at undo k) edits) number);
    }

-- the edits of a leg are the same in each tree with these changes
pub leg_edits-same : (undo other : Undo (List Edit)) (leg : Leg) → undo.changes ≡ other.changes → leg_edits undo leg ≡ leg_edits other leg
leg_edits-same undo other (Back n) same =
    let number : numbered undo n ≡ numbered other n = numbered_same undo other same n in
    let edits : edits_of undo n ≡ edits_of other n = ap (λ (o : Option (ℕ × List Edit)). unwrap_or (option_map (λ c. c.1) o) []) number in
    let from : text_at undo (origin undo n) ≡ text_at other (origin other n) =
    ap (λ (o : Option (ℕ × List Edit)). text_at undo (unwrap_or (option_map (λ c. c.0) o) 0)) number
    ∙ text_at-same undo other (origin other n) same in
    λ i. inverse_edits (from i) (edits i)
leg_edits-same undo other (Ahead n) same =
    ap (λ (o : Option (ℕ × List Edit)). unwrap_or (option_map (λ c. c.1) o) []) (numbered_same undo other same n)

pub way_edits-same : (undo other : Undo (List Edit)) (legs : List Leg) → undo.changes ≡ other.changes
    → flat_map (leg_edits undo) legs ≡ flat_map (leg_edits other) legs
way_edits-same undo other [] same = refl
way_edits-same undo other (leg ∷ legs) same = λ i. leg_edits-same undo other leg same i ++ way_edits-same undo other legs same i

-- the buffer once the edits of a leg were made and it is gone in the tree
pub arrived-is : (buffer made now : Content) (leg : Leg) → buffer.unsealed ≡ [] → buffer.text ≡ text_at buffer.undo buffer.undo.current
    → Runs buffer.undo leg → made ≡ fold after_edit buffer (leg_edits buffer.undo leg)
    → now ≡ record made { modified = true; undo = tree_after_leg leg made.undo; unsealed = [] } → now ≡ after_leg buffer leg
arrived-is buffer made now leg sealed text_is runs made_is now_is =
    let edits : List Edit = leg_edits buffer.undo leg in
    let text : made.text ≡ text_at (tree_after_leg leg buffer.undo) (tree_after_leg leg buffer.undo).current =
    ap (λ (b : Content). b.text) made_is
    ∙ made-text buffer edits
    ∙ ap (λ (t : List (List ℕ)). fold lines_after t edits) text_is
    ∙ runs.leads
    ∙ sym (text_at-same (tree_after_leg leg buffer.undo) buffer.undo (tree_after_leg leg buffer.undo).current (gone_changes leg buffer.undo)) in
    let tick : made.tick ≡ buffer.tick +ℤ pos (length edits) = ap (λ (b : Content). b.tick) made_is ∙ made-tick buffer edits in
    let undo : made.undo ≡ buffer.undo = ap (λ (b : Content). b.undo) made_is ∙ made-undo buffer edits in
    let marks : made.marks ≡ (fold after_edit buffer edits).marks = ap (λ (b : Content). b.marks) made_is in
    let kept : made.kept ≡ (fold after_edit buffer edits).kept = ap (λ (b : Content). b.kept) made_is in
    now_is
    ∙ (λ i. record made { text = text i; tick = tick i; modified = true; marks = marks i; kept = kept i; undo = tree_after_leg leg (undo i); unsealed = sym sealed i })
    ∙ ap (λ (b : Content).
    record b {
      text = text_at (tree_after_leg leg buffer.undo) (tree_after_leg leg buffer.undo).current;
      tick = buffer.tick +ℤ pos (length edits);
      modified = true;
      marks = (fold after_edit buffer edits).marks;
      kept = (fold after_edit buffer edits).kept;
      undo = tree_after_leg leg buffer.undo;
      unsealed = buffer.unsealed;
    }) made_is
    ∙ made-rest buffer edits (text_at (tree_after_leg leg buffer.undo) (tree_after_leg leg buffer.undo).current) (buffer.tick +ℤ pos (length edits))
    (fold after_edit buffer edits).marks (fold after_edit buffer edits).kept (tree_after_leg leg buffer.undo) buffer.unsealed

-- ---- a way
-- what is known of a buffer whose edits are all in changes
abbrev pub IsSealed : Content → Type 0
IsSealed buffer = IsBuffer buffer.text buffer.tick buffer.undo buffer.unsealed × (buffer.unsealed ≡ [])

IsBuffer-later : (text : List (List ℕ)) (tick : ℤ) (n : ℕ) (undo : Undo (List Edit)) (unsealed : List Edit) → IsBuffer text tick undo unsealed
    → IsBuffer text (tick +ℤ pos n) undo unsealed
IsBuffer-later text tick n undo unsealed is = record {
  tree = is.tree;
  texts = is.texts;
  changes = is.changes;
  since = is.since;
  now = is.now;
  counted = let before = is.counted in omega (arith, ints);
}

sealed_text : (buffer : Content) → IsSealed buffer → buffer.text ≡ text_at buffer.undo buffer.undo.current
sealed_text buffer is = is.0.now ∙ ap (λ (es : List Edit). fold lines_after (text_at buffer.undo buffer.undo.current) es) is.1

pub leg_sealed : (buffer : Content) (leg : Leg) → IsSealed buffer → IsNext buffer.undo leg → IsSealed (after_leg buffer leg)
leg_sealed buffer leg is next =
    let arrived : text_at (tree_after_leg leg buffer.undo) (tree_after_leg leg buffer.undo).current ≡ text_at buffer.undo (tree_after_leg leg buffer.undo).current =
    text_at-same (tree_after_leg leg buffer.undo) buffer.undo (tree_after_leg leg buffer.undo).current (gone_changes leg buffer.undo) in
    let now : IsBuffer (text_at (tree_after_leg leg buffer.undo) (tree_after_leg leg buffer.undo).current) buffer.tick (tree_after_leg leg buffer.undo) [] =
    leg_kept buffer.text (text_at (tree_after_leg leg buffer.undo) (tree_after_leg leg buffer.undo).current) buffer.tick buffer.undo buffer.unsealed leg is.0 next arrived in
    let later =
    IsBuffer-later (text_at (tree_after_leg leg buffer.undo) (tree_after_leg leg buffer.undo).current) buffer.tick (length (leg_edits buffer.undo leg))
    (tree_after_leg leg buffer.undo) [] now in (
      subst (λ (es : List Edit). IsBuffer (text_at (tree_after_leg leg buffer.undo) (tree_after_leg leg buffer.undo).current)
          (buffer.tick +ℤ pos (length (leg_edits buffer.undo leg))) (tree_after_leg leg buffer.undo) es) (sym is.1) later,
      is.1,
    )

-- legs lead to the same in each tree with these changes
leads_on : {E : Type 0} (undo other : Undo E) (from to : ℕ) (legs : List Leg) → undo.changes ≡ other.changes → Leads undo from legs to
    → Leads other from legs to
leads_on undo other from to [] same way = way
leads_on undo other from to (Back n ∷ legs) same way =
    (way.0, way.1, sym (parent_same undo other same n) ∙ way.2, leads_on undo other way.0 to legs same way.3)
leads_on undo other from to (Ahead n ∷ legs) same way =
    (sym (parent_same undo other same n) ∙ way.0, leads_on undo other n to legs same way.1)

-- the first leg of a way, and the way from there
pub first_leg : {E : Type 0} (undo : Undo E) (leg : Leg) (legs : List Leg) (to : ℕ) → Leads undo undo.current (leg ∷ legs) to
    → IsNext undo leg × Leads (tree_after_leg leg undo) (tree_after_leg leg undo).current legs to
first_leg undo (Back n) legs to way =
    let parent : parent_of undo undo.current ≡ Some way.0 = ap (parent_of undo) (sym way.1) ∙ way.2 in
    let at : way.0 ≡ (tree_after_leg (Back n) undo).current = sym (ap (λ (o : Option ℕ). unwrap_or o undo.current) parent) in (
      (way.1, (parent_within undo n way.0 way.2).0),
      subst (λ (k : ℕ). Leads (tree_after_leg (Back n) undo) k legs to) at (leads_on undo (tree_after_leg (Back n) undo) way.0 to legs refl way.3),
    )
first_leg undo (Ahead n) legs to way = (way.0, leads_on undo (tree_after_leg (Ahead n) undo) n to legs refl way.1)

-- the edits of a way can be made of the text, and lead to the text at its end
pub record WayRuns (buffer : Content) (legs : List Leg) (to : ℕ) : Type 0 where
  pub fit : AllFit buffer.text (flat_map (leg_edits buffer.undo) legs)
  pub text : (fold after_leg buffer legs).text ≡ fold lines_after buffer.text (flat_map (leg_edits buffer.undo) legs)
  pub tick : (fold after_leg buffer legs).tick ≡ buffer.tick +ℤ pos (length (flat_map (leg_edits buffer.undo) legs))
  pub number : (fold after_leg buffer legs).undo.current ≡ to
  pub sealed : IsSealed (fold after_leg buffer legs)

tick_more : (tick : ℤ) (m n k : ℕ) → k ≡ m + n → (tick +ℤ pos m) +ℤ pos n ≡ tick +ℤ pos k
tick_more tick m n k sum = omega (arith, ints)

tick_none : (tick : ℤ) → tick ≡ tick +ℤ pos 0
tick_none tick = omega (arith, ints)

one_more_leg : (buffer : Content) (leg : Leg) (legs : List Leg) (to : ℕ) → IsSealed buffer → IsNext buffer.undo leg
    → WayRuns (after_leg buffer leg) legs to → WayRuns buffer (leg ∷ legs) to
one_more_leg buffer leg legs to is next rest =
    let runs : Runs buffer.undo leg = leg_runs buffer.text buffer.tick buffer.undo buffer.unsealed leg is.0 next in
    let first : List Edit = leg_edits buffer.undo leg in
    let more : List Edit = flat_map (leg_edits buffer.undo) legs in
    let text : buffer.text ≡ text_at buffer.undo buffer.undo.current = sealed_text buffer is in
    let leads : fold lines_after buffer.text first ≡ (after_leg buffer leg).text =
    ap (λ (t : List (List ℕ)). fold lines_after t first) text
    ∙ runs.leads
    ∙ sym (text_at-same (tree_after_leg leg buffer.undo) buffer.undo (tree_after_leg leg buffer.undo).current (gone_changes leg buffer.undo)) in
    let same : flat_map (leg_edits (after_leg buffer leg).undo) legs ≡ more =
    way_edits-same (after_leg buffer leg).undo buffer.undo legs (gone_changes leg buffer.undo) in
    let then : AllFit (fold lines_after buffer.text first) more =
    subst (λ (t : List (List ℕ)). AllFit t more) (sym leads)
    (subst (λ (es : List Edit). AllFit (after_leg buffer leg).text es) same rest.fit) in record {
      fit =
          AllFit-append buffer.text first more (subst (λ (t : List (List ℕ)). AllFit t first) (sym text) runs.fit) then;
      text =
          rest.text
          ∙ (λ i. fold lines_after (sym leads i) (same i))
          ∙ sym (fold-append lines_after buffer.text first more);
      tick =
          rest.tick
          ∙ ap (λ (es : List Edit). (buffer.tick +ℤ pos (length first)) +ℤ pos (length es)) same
          ∙ tick_more buffer.tick (length first) (length more) (length (first ++ more)) (length-append first more);
      number = rest.number;
      sealed = rest.sealed;
    }

pub way_runs : (buffer : Content) (legs : List Leg) (to : ℕ) → IsSealed buffer → Leads buffer.undo buffer.undo.current legs to
    → WayRuns buffer legs to
way_runs buffer [] to is way = record { fit = tt; text = refl; tick = tick_none buffer.tick; number = way; sealed = is }
way_runs buffer (leg ∷ legs) to is way =
    let first = first_leg buffer.undo leg legs to way in
    one_more_leg buffer leg legs to is first.0 (way_runs (after_leg buffer leg) legs to (leg_sealed buffer leg is first.0) first.1)

-- ---- a leg, one edit after another
-- how far the edits of a leg were made
pub record Going (first : Content) (before : List Spliced) (edits : List Edit) (now : Content) (events : List Spliced) (place : ℕ) : Type 0 where
  pub undo : now.undo ≡ first.undo
  pub made : fold after_edit now (drop place edits) ≡ fold after_edit first edits
  pub text : now.text ≡ fold lines_after first.text (take place edits)
  pub fit : AllFit now.text (drop place edits)
  pub tick : now.tick +ℤ pos (length (drop place edits)) ≡ first.tick +ℤ pos (length edits)
  pub told : events ++ events_from now.tick (drop place edits) ≡ before ++ events_from first.tick edits

pub going_first : (buffer : Content) (events : List Spliced) (leg : Leg) → IsSealed buffer → IsNext buffer.undo leg
    → Going buffer events (leg_edits buffer.undo leg) buffer events 0
going_first buffer events leg is next =
    let runs : Runs buffer.undo leg = leg_runs buffer.text buffer.tick buffer.undo buffer.unsealed leg is.0 next in record {
      undo = refl;
      made = refl;
      text = refl;
      fit = subst (λ (t : List (List ℕ)). AllFit t (leg_edits buffer.undo leg)) (sym (sealed_text buffer is)) runs.fit;
      tick = refl;
      told = refl;
    }

-- what is left at a place
left_at : (edits : List Edit) (place : ℕ) (edit : Edit) → slice_get edits place ≡ Some edit → drop place edits ≡ edit ∷ drop (place + 1) edits
left_at edits place edit here =
    let within : place < length edits = slice_get_within edits place edit here in
    drop_more edits place edit within
    ∙ ap (λ (e : Edit). e ∷ drop (place + 1) edits) (get_or_from_slice_get edits place edit edit here)

pub going_fits : (first now : Content) (before events : List Spliced) (edits : List Edit) (place : ℕ) (edit : Edit)
    → Going first before edits now events place → slice_get edits place ≡ Some edit → Fits now.text edit
going_fits first now before events edits place edit going here =
    (subst (λ (es : List Edit). AllFit now.text es) (left_at edits place edit here) going.fit).0

pub going_tick : (first now : Content) (before events : List Spliced) (edits : List Edit) (place : ℕ) (edit : Edit) (most : ℤ)
    → Going first before edits now events place → slice_get edits place ≡ Some edit → (first.tick +ℤ pos (length edits)) ≤ℤ most → now.tick <ℤ most
going_tick first now before events edits place edit most going here within =
    let left : length (drop place edits) ≡ suc (length (drop (place + 1) edits)) = ap length (left_at edits place edit here) in
    let tick = going.tick in
    omega (arith, ints)

pub going_on : (first now next : Content) (before events more : List Spliced) (edits : List Edit) (place : ℕ) (edit : Edit) (event : Spliced)
    → Going first before edits now events place → slice_get edits place ≡ Some edit → next ≡ after_edit now edit
    → event ≡ event_at (now.tick +ℤ pos 1) edit → more ≡ events ++ event ∷ [] → Going first before edits next more (place + 1)
going_on first now next before events more edits place edit event going here next_is event_is more_is =
    let rest : List Edit = drop (place + 1) edits in
    let left : drop place edits ≡ edit ∷ rest = left_at edits place edit here in
    let took : take (place + 1) edits ≡ take place edits ++ edit ∷ [] =
    take_more edits place edit (slice_get_within edits place edit here)
    ∙ ap (λ (e : Edit). take place edits ++ e ∷ []) (get_or_from_slice_get edits place edit edit here) in
    let all : Going first before edits (after_edit now edit) (events ++ event_at (now.tick +ℤ pos 1) edit ∷ []) (place + 1) = record {
      undo = going.undo;
      made = sym (ap (λ (es : List Edit). fold after_edit now es) left) ∙ going.made;
      text =
          ap (λ (t : List (List ℕ)). lines_after t edit) going.text
          ∙ sym (fold-append lines_after first.text (take place edits) (edit ∷ []))
          ∙ sym (ap (λ (es : List Edit). fold lines_after first.text es) took);
      fit = (subst (λ (es : List Edit). AllFit now.text es) left going.fit).1;
      tick = tick_next now.tick (length rest) ∙ sym (ap (λ (es : List Edit). now.tick +ℤ pos (length es)) left) ∙ going.tick;
      told =
          append_assoc events (event_at (now.tick +ℤ pos 1) edit ∷ []) (events_from (now.tick +ℤ pos 1) rest)
          ∙ sym (ap (λ (es : List Edit). events ++ events_from now.tick es) left)
          ∙ going.told;
    } in
    rw (next_is, more_is, event_is) all

-- the text of the current number is the one that a leg from there begins with
leg_begins : (undo : Undo (List Edit)) (leg : Leg) → IsNext undo leg → text_at undo undo.current ≡ leg_text undo leg
leg_begins undo (Back n) next = ap (text_at undo) (sym next.0)
leg_begins undo (Ahead n) next = sym (ap (λ (o : Option ℕ). text_at undo (unwrap_or o 0)) next)

-- so the text is this one with the first of the leg's edits
pub going_along : (first now : Content) (before events : List Spliced) (leg : Leg) (place : ℕ) → IsSealed first → IsNext first.undo leg
    → Going first before (leg_edits first.undo leg) now events place → IsAlong now leg place
going_along first now before events leg place is next going =
    going.text
    ∙ ap (λ (t : List (List ℕ)). fold lines_after t (take place (leg_edits first.undo leg)))
    (sealed_text first is ∙ leg_begins first.undo leg next)
    ∙ ap (λ (u : Undo (List Edit)). fold lines_after (leg_text u leg) (take place (leg_edits u leg))) (sym going.undo)

-- all of the edits were made
pub record Gone (first : Content) (before : List Spliced) (edits : List Edit) (now : Content) (events : List Spliced) : Type 0 where
  pub undo : now.undo ≡ first.undo
  pub made : now ≡ fold after_edit first edits
  pub told : events ≡ before ++ events_from first.tick edits

pub going_last : (first now : Content) (before events : List Spliced) (edits : List Edit) (place : ℕ) → Going first before edits now events place
    → length edits ≤ place → Gone first before edits now events
going_last first now before events edits place going end =
    let none : drop place edits ≡ [] = drop_all place edits end in record {
      undo = going.undo;
      made = sym (ap (λ (es : List Edit). fold after_edit now es) none) ∙ going.made;
      told =
          sym (append-nil events)
          ∙ sym (ap (λ (es : List Edit). events ++ events_from now.tick es) none)
          ∙ going.told;
    }

-- so the text is that of the leg's number
pub gone_text : (first now : Content) (before events : List Spliced) (leg : Leg) → IsSealed first → IsNext first.undo leg
    → Gone first before (leg_edits first.undo leg) now events → now.text ≡ text_at now.undo (tree_after_leg leg now.undo).current
gone_text first now before events leg is next all =
    let runs : Runs first.undo leg = leg_runs first.text first.tick first.undo first.unsealed leg is.0 next in
    ap (λ (b : Content). b.text) all.made
    ∙ made-text first (leg_edits first.undo leg)
    ∙ ap (λ (t : List (List ℕ)). fold lines_after t (leg_edits first.undo leg)) (sealed_text first is)
    ∙ runs.leads
    ∙ sym (ap (λ (u : Undo (List Edit)). text_at u (tree_after_leg leg u).current) all.undo)

-- and the buffer is the one after the leg, once it is gone in the tree
pub gone_state : (first made now : Content) (before events : List Spliced) (leg : Leg) → IsSealed first → IsNext first.undo leg
    → Gone first before (leg_edits first.undo leg) made events
    → now ≡ record made { modified = true; undo = tree_after_leg leg made.undo; unsealed = [] } → now ≡ after_leg first leg
gone_state first made now before events leg is next all now_is =
    arrived-is first made now leg is.1 (sealed_text first is) (leg_runs first.text first.tick first.undo first.unsealed leg is.0 next) all.made now_is

-- ---- a way, one leg after another
-- how far the legs of a way were gone
pub record Walking (first : Content) (legs : List Leg) (now : Content) (events : List Spliced) (place : ℕ) : Type 0 where
  pub gone : fold after_leg now (drop place legs) ≡ fold after_leg first legs
  pub sealed : IsSealed now
  pub way : (to : ℕ) × Leads now.undo now.undo.current (drop place legs) to
  pub tick :
      now.tick +ℤ pos (length (flat_map (leg_edits now.undo) (drop place legs)))
      ≡ first.tick +ℤ pos (length (flat_map (leg_edits first.undo) legs))
  pub told :
      events ++ events_from now.tick (flat_map (leg_edits now.undo) (drop place legs))
      ≡ events_from first.tick (flat_map (leg_edits first.undo) legs)

pub walking_first : (buffer : Content) (legs : List Leg) (events : List Spliced) → events ≡ [] → IsSealed buffer
    → ((to : ℕ) × Leads buffer.undo buffer.undo.current legs to) → Walking buffer legs buffer events 0
walking_first buffer legs events none is way = rw none (record { gone = refl; sealed = is; way = way; tick = refl; told = refl })

leg_left : (legs : List Leg) (place : ℕ) (leg : Leg) → slice_get legs place ≡ Some leg → drop place legs ≡ leg ∷ drop (place + 1) legs
leg_left legs place leg here =
    let within : place < length legs = slice_get_within legs place leg here in
    drop_more legs place leg within ∙ ap (λ (l : Leg). l ∷ drop (place + 1) legs) (get_or_from_slice_get legs place leg leg here)

-- the leg that comes next
pub walking_next : (first now : Content) (legs : List Leg) (events : List Spliced) (place : ℕ) (leg : Leg) → Walking first legs now events place
    → slice_get legs place ≡ Some leg → IsNext now.undo leg
walking_next first now legs events place leg walking here =
    let way = subst (λ (ls : List Leg). Leads now.undo now.undo.current ls walking.way.0) (leg_left legs place leg here) walking.way.1 in
    (first_leg now.undo leg (drop (place + 1) legs) walking.way.0 way).0

-- the edits that are left at a place
edits_left : (undo : Undo (List Edit)) (legs : List Leg) (place : ℕ) (leg : Leg) → slice_get legs place ≡ Some leg
    → flat_map (leg_edits undo) (drop place legs) ≡ leg_edits undo leg ++ flat_map (leg_edits undo) (drop (place + 1) legs)
edits_left undo legs place leg here = ap (λ (ls : List Leg). flat_map (leg_edits undo) ls) (leg_left legs place leg here)

pub walking_tick : (first now : Content) (legs : List Leg) (events : List Spliced) (place : ℕ) (leg : Leg) (most : ℤ)
    → Walking first legs now events place → slice_get legs place ≡ Some leg
    → (first.tick +ℤ pos (length (flat_map (leg_edits first.undo) legs))) ≤ℤ most → (now.tick +ℤ pos (length (leg_edits now.undo leg))) ≤ℤ most
walking_tick first now legs events place leg most walking here within =
    let rest : List Edit = flat_map (leg_edits now.undo) (drop (place + 1) legs) in
    let count : length (flat_map (leg_edits now.undo) (drop place legs)) ≡ length (leg_edits now.undo leg) + length rest =
    ap length (edits_left now.undo legs place leg here) ∙ length-append (leg_edits now.undo leg) rest in
    let tick = walking.tick in
    omega (arith, ints)

pub walking_on : (first now next : Content) (legs : List Leg) (events more : List Spliced) (place : ℕ) (leg : Leg)
    → Walking first legs now events place → slice_get legs place ≡ Some leg → next ≡ after_leg now leg
    → more ≡ events ++ events_from now.tick (leg_edits now.undo leg) → Walking first legs next more (place + 1)
walking_on first now next legs events more place leg walking here next_is more_is =
    let rest : List Leg = drop (place + 1) legs in
    let edits : List Edit = leg_edits now.undo leg in
    let left : List Edit = flat_map (leg_edits now.undo) rest in
    let parts : drop place legs ≡ leg ∷ rest = leg_left legs place leg here in
    let way = subst (λ (ls : List Leg). Leads now.undo now.undo.current ls walking.way.0) parts walking.way.1 in
    let then = first_leg now.undo leg rest walking.way.0 way in
    let same : flat_map (leg_edits (after_leg now leg).undo) rest ≡ left =
    way_edits-same (after_leg now leg).undo now.undo rest (gone_changes leg now.undo) in
    let all : flat_map (leg_edits now.undo) (drop place legs) ≡ edits ++ left = edits_left now.undo legs place leg here in
    let on : Walking first legs (after_leg now leg) (events ++ events_from now.tick edits) (place + 1) = record {
      gone = sym (ap (λ (ls : List Leg). fold after_leg now ls) parts) ∙ walking.gone;
      sealed = leg_sealed now leg walking.sealed then.0;
      way = (walking.way.0, then.1);
      tick =
          ap (λ (es : List Edit). (now.tick +ℤ pos (length edits)) +ℤ pos (length es)) same
          ∙ tick_more now.tick (length edits) (length left) (length (edits ++ left)) (length-append edits left)
          ∙ sym (ap (λ (es : List Edit). now.tick +ℤ pos (length es)) all)
          ∙ walking.tick;
      told =
          ap (λ (es : List Edit). (events ++ events_from now.tick edits) ++ events_from (now.tick +ℤ pos (length edits)) es) same
          ∙ append_assoc events (events_from now.tick edits) (events_from (now.tick +ℤ pos (length edits)) left)
          ∙ ap (λ (ts : List Spliced). events ++ ts) (sym (told_from-append now.tick edits left))
          ∙ sym (ap (λ (es : List Edit). events ++ events_from now.tick es) all)
          ∙ walking.told;
    } in
    rw (next_is, more_is) on

-- all legs were gone
pub record Walked (first : Content) (legs : List Leg) (now : Content) (events : List Spliced) : Type 0 where
  pub gone : now ≡ fold after_leg first legs
  pub sealed : IsSealed now
  pub told : events ≡ events_from first.tick (flat_map (leg_edits first.undo) legs)

pub walking_last : (first now : Content) (legs : List Leg) (events : List Spliced) (place : ℕ) → Walking first legs now events place
    → length legs ≤ place → Walked first legs now events
walking_last first now legs events place walking end =
    let none : drop place legs ≡ [] = drop_all place legs end in record {
      gone = sym (ap (λ (ls : List Leg). fold after_leg now ls) none) ∙ walking.gone;
      sealed = walking.sealed;
      told =
          sym (append-nil events)
          ∙ sym (ap (λ (ls : List Leg). events ++ events_from now.tick (flat_map (leg_edits now.undo) ls)) none)
          ∙ walking.told;
    }

-- what the splices of a way tell
pub record Tells (first now : Content) (events : List Spliced) : Type 0 where
  pub text : now.text ≡ text_at now.undo now.undo.current
  pub tick : now.tick ≡ first.tick +ℤ pos (length events)
  pub lines : now.text ≡ fold event_fold first.text events
  pub bytes : TellBytes first.text events

pub walked_tells : (first now : Content) (legs : List Leg) (events : List Spliced) → IsSealed first
    → ((to : ℕ) × Leads first.undo first.undo.current legs to) → Walked first legs now events → Tells first now events
walked_tells first now legs events is way walked =
    let edits : List Edit = flat_map (leg_edits first.undo) legs in
    let runs : WayRuns first legs way.0 = way_runs first legs way.0 is way.1 in record {
      text = sealed_text now walked.sealed;
      tick =
          ap (λ (b : Content). b.tick) walked.gone
          ∙ runs.tick
          ∙ ap (λ (n : ℕ). first.tick +ℤ pos n) (sym (ap length walked.told ∙ length-told_from first.tick edits));
      lines =
          ap (λ (b : Content). b.text) walked.gone
          ∙ runs.text
          ∙ sym (ap (λ (ts : List Spliced). fold event_fold first.text ts) walked.told ∙ fold-told_from first.text first.tick edits);
      bytes = subst (λ (ts : List Spliced). TellBytes first.text ts) (sym walked.told) (told_from-tell first.text first.tick edits runs.fit);
    }

pub walked_number : (first now : Content) (legs : List Leg) (events : List Spliced) → IsSealed first → Walked first legs now events → (to : ℕ)
    → Leads first.undo first.undo.current legs to → now.undo.current ≡ to
walked_number first now legs events is walked to way =
    ap (λ (b : Content). b.undo.current) walked.gone ∙ (way_runs first legs to is way).number

-- ---- ways of one leg or none
pub way_none : {E : Type 0} (undo : Undo E) (legs : List Leg) → legs ≡ [] → (to : ℕ) × Leads undo undo.current legs to
way_none undo legs is = subst (λ (ls : List Leg). (to : ℕ) × Leads undo undo.current ls to) (sym is) (undo.current, refl)

pub way_to_parent : {E : Type 0} (undo : Undo E) (n : ℕ) (legs : List Leg) → legs ≡ Back n ∷ [] → n ≡ undo.current → 0 < n → n ≤ last undo
    → (to : ℕ) × Leads undo undo.current legs to
way_to_parent undo n legs is here some within =
    let parent = some_parent undo n some within in
    subst (λ (ls : List Leg). (to : ℕ) × Leads undo undo.current ls to) (sym is) (parent.0, (parent.0, here, parent.1, refl))

pub way_to_child : {E : Type 0} (undo : Undo E) (n : ℕ) (legs : List Leg) → legs ≡ Ahead n ∷ [] → parent_of undo n ≡ Some undo.current
    → (to : ℕ) × Leads undo undo.current legs to
way_to_child undo n legs is child = subst (λ (ls : List Leg). (to : ℕ) × Leads undo undo.current ls to) (sym is) (n, (child, refl))

-- ---- from the buffer before it was sealed
sealed_tick : (buffer : Content) (edits : List Edit) → (after_seal_of buffer edits).tick ≡ buffer.tick
sealed_tick buffer [] = refl
sealed_tick buffer (edit ∷ edits) = refl

pub undo_to_told : (old mid : Content) (n : ℕ) (slice legs : List Leg) → mid ≡ after_seal old → slice ≡ legs
    → legs ≡ path mid.undo mid.undo.current n
    → events_from mid.tick (flat_map (leg_edits mid.undo) slice) ≡ events_from old.tick (undo_to_edits n old)
undo_to_told old mid n slice legs mid_is slice_is legs_is =
    ap (λ (ls : List Leg). events_from mid.tick (flat_map (leg_edits mid.undo) ls)) (slice_is ∙ legs_is)
    ∙ ap (λ (b : Content). events_from b.tick (flat_map (leg_edits b.undo) (path b.undo b.undo.current n))) mid_is
    ∙ ap (λ (t : ℤ). events_from t (undo_to_edits n old)) (sealed_tick old old.unsealed)

-- the text at the number that was come to
pub text_at_number : {T E : Type 0} (result : Result T E) (buffer : Content) (n : ℕ) → OnOk result (buffer.text ≡ text_at buffer.undo buffer.undo.current)
    → OnOk result (buffer.undo.current ≡ n) → OnOk result (buffer.text ≡ text_at buffer.undo n)
text_at_number (Ok value) buffer n text number = text ∙ ap (text_at buffer.undo) number
text_at_number (Err e) buffer n text number = tt
