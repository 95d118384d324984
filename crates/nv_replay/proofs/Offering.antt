-- Entries that are offered to a world.
use Rattle.std.proofs.Common.{◌≡◌, ◌∙◌, Result, Ok, Err, OnOk, List, [], ◌∷◌, ◌++◌, map, Option, Some, None, ap, refl, sym, subst, append_assoc}
use Rattle.std.specs.Prelude.{option_and_then, option_map}
use Rattle.std.proofs.lemmas.List.{map-append}
use Rattle.nv_history.specs.Events.{Entry, Effect}
use Rattle.nv_history.specs.Worlds.{World, Outcome, refuses, idles, becomes, fresh_world, step}
use Rattle.nv_history.specs.Runs.{run, run_from}
use Rattle.nv_history.proofs.GoingRuns.{run-append}
use Rattle.nv_core.specs.Contents.{plain_entries, plain_entry, plain_event}
use Rattle.nv_world.specs.Worlds.{AppliesErr, AppliesOk, WorldRecord, model_of, outcome_of_event, with_entry}
use Rattle.nv_core.specs.declared.effect.Effect.{Effect as HeldEffect}
use Rattle.nv_core.specs.declared.effect.Stop.{Stop}
use Rattle.nv_core.specs.declared.effect.Stop.TheVariants.{NoMemory, Stranger, Gone, Held}
use Rattle.nv_core.specs.declared.entry.Entry.{Entry as HeldEntry}
use Rattle.nv_replay.specs.Entering.{entered, entered_behind}
use Rattle.nv_replay.specs.inside.Offering.{HasOffered, Offers}

-- it left the world as it was
left_as_it_was : (e : Entry) (old new : WorldRecord) (w : World) (o : Outcome) → step w e.event ≡ o → ((others : World → List Entry) → entered_behind e w o others ≡ others w)
    → model_of old ≡ Some w → new ≡ old → HasOffered e old new w
left_as_it_was e old new w o comes none runs same = record {
  next = w;
  runs = ap model_of same ∙ runs;
  capacity_is = ap (λ (k : WorldRecord). k.capacity) same;
  limits_are = ap (λ (k : WorldRecord). k.limits) same;
  goes = λ more. ap (λ (es : List Entry). plain_entries old.history ++ es)
      (ap (λ (q : Outcome). entered_behind e w q (λ v. entered v more)) comes ∙ none (λ v. entered v more))
      ∙ ap (λ (k : WorldRecord). plain_entries k.history ++ entered w more) (sym same);
}

entry_runs : (old : WorldRecord) (e : HeldEntry) (w v : World) (effect : Effect) → step w (plain_event e.event) ≡ becomes v effect → model_of old ≡ Some w
    → model_of (with_entry old e) ≡ Some v
entry_runs old e w v effect comes runs =
    ap (λ (es : List Entry). run old.capacity old.limits es) (map-append plain_entry old.history (e ∷ []))
    ∙ run-append (fresh_world old.capacity old.limits) (plain_entries old.history) (plain_entry e ∷ [])
    ∙ ap (λ (o : Option World). option_and_then (λ u. run_from u (plain_entry e ∷ [])) o) runs
    ∙ ap (λ (o : Outcome). option_and_then (λ u. run_from u []) (Rattle.nv_history.specs.Worlds.world_made o)) comes

-- it entered
has_entered : (e : HeldEntry) (old new : WorldRecord) (w v : World) (effect : Effect) → step w (plain_event e.event) ≡ becomes v effect → model_of old ≡ Some w
    → new ≡ with_entry old e → HasOffered (plain_entry e) old new w
has_entered e old new w v effect comes runs same = record {
  next = v;
  runs = ap model_of same ∙ entry_runs old e w v effect comes runs;
  capacity_is = ap (λ (k : WorldRecord). k.capacity) same;
  limits_are = ap (λ (k : WorldRecord). k.limits) same;
  goes = λ more. ap (λ (o : Outcome). plain_entries old.history ++ entered_behind (plain_entry e) w o (λ u. entered u more)) comes
      ∙ sym (append_assoc (plain_entries old.history) (plain_entry e ∷ []) (entered v more))
      ∙ ap (λ (es : List Entry). es ++ entered v more) (sym (map-append plain_entry old.history (e ∷ [])))
      ∙ ap (λ (k : WorldRecord). plain_entries k.history ++ entered v more) (sym same);
}

comes_to : (old : WorldRecord) (e : HeldEntry) (w : World) → model_of old ≡ Some w → outcome_of_event old (plain_event e.event) ≡ Some (step w (plain_event e.event))
comes_to old e w runs = ap (λ (o : Option World). option_map (λ u. step u (plain_event e.event)) o) runs

applied : (e : HeldEntry) (old new : WorldRecord) (w : World) (effect : HeldEffect) (o : Outcome) → step w (plain_event e.event) ≡ o → model_of old ≡ Some w
    → AppliesOk old new e effect (Some o) → HasOffered (plain_entry e) old new w
applied e old new w effect (becomes v wanted) comes runs h = has_entered e old new w v wanted comes runs h.1
applied e old new w effect (idles wanted) comes runs h = left_as_it_was (plain_entry e) old new w (idles wanted) comes (λ others. refl) runs h.1
applied e old new w effect (refuses stop) comes runs h = absurd h

-- an event that a world applied was offered to it
pub offers_ok : (e : HeldEntry) (old new : WorldRecord) (effect : HeldEffect) → AppliesOk old new e effect (outcome_of_event old (plain_event e.event)) → Offers (plain_entry e) old new
offers_ok e old new effect h = λ w runs.
    applied e old new w effect (step w (plain_event e.event)) refl runs (subst (λ (o : Option Outcome). AppliesOk old new e effect o) (comes_to old e w runs) h)

refused : (e : HeldEntry) (old new : WorldRecord) (w : World) (stop : Stop) (o : Outcome) → (stop ≡ NoMemory → ⊥) → step w (plain_event e.event) ≡ o → model_of old ≡ Some w
    → AppliesErr old new stop (Some o) → HasOffered (plain_entry e) old new w
refused e old new w NoMemory o not comes runs h = absurd (not refl)
refused e old new w (Stranger n) (refuses why) not comes runs h = left_as_it_was (plain_entry e) old new w (refuses why) comes (λ others. refl) runs h.1
refused e old new w (Stranger n) (idles effect) not comes runs h = absurd h
refused e old new w (Stranger n) (becomes v effect) not comes runs h = absurd h
refused e old new w (Gone n) (refuses why) not comes runs h = left_as_it_was (plain_entry e) old new w (refuses why) comes (λ others. refl) runs h.1
refused e old new w (Gone n) (idles effect) not comes runs h = absurd h
refused e old new w (Gone n) (becomes v effect) not comes runs h = absurd h
refused e old new w (Held n) (refuses why) not comes runs h = left_as_it_was (plain_entry e) old new w (refuses why) comes (λ others. refl) runs h.1
refused e old new w (Held n) (idles effect) not comes runs h = absurd h
refused e old new w (Held n) (becomes v effect) not comes runs h = absurd h

-- and so was one that it refused, for another cause than want of memory
pub offers_err : (e : HeldEntry) (old new : WorldRecord) (stop : Stop) → (stop ≡ NoMemory → ⊥) → AppliesErr old new stop (outcome_of_event old (plain_event e.event))
    → Offers (plain_entry e) old new
offers_err e old new stop not h = λ w runs.
    refused e old new w stop (step w (plain_event e.event)) not refl runs (subst (λ (o : Option Outcome). AppliesErr old new stop o) (comes_to old e w runs) h)

-- what holds once something went well
pub on_ok_gives : {X E : Type 0} (r : Result X E) (P Q : Type 0) → OnOk r P → (P → Q) → OnOk r Q
on_ok_gives (Ok x) P Q p f = f p
on_ok_gives (Err e) P Q p f = p
