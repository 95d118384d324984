-- What the calls of a world make of it, as of a core.
use Rattle.std.proofs.Common.{◌≡◌, ℕ, Bool, true, false, List, [], ◌∷◌, ◌++◌, Option, Some, None, Result, Ok, Err, refl, ap, sym, ◌∙◌, subst, inl, inr}
use Rattle.std.specs.Prelude.{IfOk, IfErr, OnOk, option_map}
use Rattle.nv_turn.specs.Story.{AddsOneAtMost}
use Rattle.nv_rpc.specs.Frames.{call_of_frame}
use Rattle.nv_rpc.specs.declared.frame.Frame.{Frame}
use Rattle.nv_history.specs.Events.{Event as PlainEvent, open_session, request_of, take_of, close_of}
use Rattle.nv_history.specs.Runs.{run}
use Rattle.nv_history.specs.Worlds.{World, Outcome, refuses, idles, becomes, session_of, step}
use Rattle.nv_core.specs.Bounds.{GivesFewCells, GivesSendable}
use Rattle.nv_core.specs.Contents.{plain_entries, plain_event, plain_stop}
use Rattle.nv_core.specs.Gains.{GainsIn, Spends, caller_of, is_want, visit_of}
use Rattle.nv_core.specs.Outcomes.{IsUnaskedBy, IsUnclosedBy, requested_as, closed_as, effect_of_taken, opened_as, stop_of_unasked, stop_of_unclosed, stop_of_unopened, stop_of_untaken, taken_as}
use Rattle.nv_core.specs.Starts.{world_of_run}
use Rattle.nv_core.specs.Visits.{AddsNothing, CallsAs, ClosesAs, DoesEvent, HasEffect, InFound, IsRefusedFor, OpensAs, RefusesEvent, TakesAs, Visit}
use Rattle.nv_core.specs.declared.calls.Taken.{Taken}
use Rattle.nv_core.specs.declared.calls.Unopened.{Unopened}
use Rattle.nv_core.specs.declared.calls.Unopened.TheVariants as unopened
use Rattle.nv_core.specs.declared.calls.Unasked.{Unasked}
use Rattle.nv_core.specs.declared.calls.Unasked.TheVariants as unasked
use Rattle.nv_core.specs.declared.calls.Untaken.{Untaken}
use Rattle.nv_core.specs.declared.calls.Untaken.TheVariants as untaken
use Rattle.nv_core.specs.declared.calls.Unclosed.{Unclosed}
use Rattle.nv_core.specs.declared.calls.Unclosed.TheVariants as unclosed
use Rattle.nv_core.specs.declared.effect.Effect.{Effect}
use Rattle.nv_core.specs.declared.effect.Effect.TheVariants as effect
use Rattle.nv_core.specs.declared.effect.Stop.{Stop}
use Rattle.nv_core.specs.declared.effect.Stop.TheVariants.{NoMemory, Stranger, Gone, Held}
use Rattle.nv_core.specs.declared.entry.Entry.{Entry}
use Rattle.nv_core.specs.declared.entry.Event.{Event}
use Rattle.nv_core.specs.declared.entry.Event.TheVariants as event
use Rattle.nv_world.specs.Worlds.{AppliesErr, AppliesOk, WorldRecord, model_of, outcome_of_event, start_of}
use Rattle.nv_world.proofs.Entries.{entries-push}

-- a world stands for its history alone
abbrev pub stands_for : WorldRecord → List Entry → Type 0
stands_for k story = k.history ≡ story

-- somebody who found a world, and left another
abbrev pub visit_in : WorldRecord → WorldRecord → ℕ → Visit
visit_in old new number = visit_of (start_of old) number old.history new.history

-- the world of a story is that of the history
pub runs_in : (k : WorldRecord) (story : List Entry) (w : World) → k.history ≡ story
    → world_of_run (Some (start_of k)) (plain_entries story) ≡ Some w → model_of k ≡ Some w
runs_in k story w same runs = ap (λ (l : List Entry). run k.capacity k.limits (plain_entries l)) same ∙ runs

gained : (old new : WorldRecord) (number : ℕ) (C : Visit → Type 0) → start_of new ≡ start_of old → AddsOneAtMost caller_of number old.history new.history
    → C (visit_in old new number) → GainsIn stands_for start_of old new number C
gained old new number C begins adds comes = record {
  begins = begins;
  after = λ found stands. record {
    later = new.history;
    adds = subst (λ (l : List Entry). AddsOneAtMost caller_of number l new.history) stands adds;
    stands_new = refl;
    comes = subst (λ (l : List Entry). C (visit_of (start_of old) number l new.history)) stands comes;
  };
}

-- ---- an event that did something

pub applied : (old new : WorldRecord) (number : ℕ) (event : Event) (effect : Effect) (C : Visit → Type 0)
    → AppliesOk old new (record { caller = number; event = event }) effect (outcome_of_event old (plain_event event))
    → (DoesEvent (plain_event event) effect (visit_in old new number) → C (visit_in old new number))
    → GainsIn stands_for start_of old new number C
applied old new number event effect C h f = by_world (model_of old) refl h
  where
    by_outcome : (w : World) → model_of old ≡ Some w → (o : Outcome) → step w (plain_event event) ≡ o
        → AppliesOk old new (record { caller = number; event = event }) effect (Some o) → GainsIn stands_for start_of old new number C
    by_outcome w runs (becomes v wanted) is k =
        let later : new.history ≡ old.history ++ record { caller = number; event = event } ∷ [] = ap (λ (r : WorldRecord). r.history) k.1 in
        gained old new number C (ap start_of k.1) (inr (record { caller = number; event = event }, refl, later)) (f (
          w,
          runs,
          subst (λ (o : Outcome). HasEffect (plain_event event) effect (visit_in old new number) o) (sym is)
              (k.0, ap plain_entries later ∙ entries-push old.history (record { caller = number; event = event })),
        ))
    by_outcome w runs (idles wanted) is k =
        let later : new.history ≡ old.history = ap (λ (r : WorldRecord). r.history) k.1 in
        gained old new number C (ap start_of k.1) (inl later) (f (
          w,
          runs,
          subst (λ (o : Outcome). HasEffect (plain_event event) effect (visit_in old new number) o) (sym is) (k.0, ap plain_entries later),
        ))
    by_outcome w runs (refuses stop) is k = absurd k

    by_world : (o : Option World) → model_of old ≡ o → AppliesOk old new (record { caller = number; event = event }) effect (option_map (λ w. step w (plain_event event)) o)
        → GainsIn stands_for start_of old new number C
    by_world None is k = absurd k
    by_world (Some w) is k = by_outcome w is (step w (plain_event event)) refl k

-- ---- an event that was refused

-- an outcome refuses so, and the world stays
abbrev RefusesAs : WorldRecord → WorldRecord → Stop → Option Outcome → Type 0
RefusesAs old new stop (Some (refuses wanted)) = (plain_stop stop ≡ Some wanted) × (new ≡ old)
RefusesAs old new stop (Some (idles effect)) = ⊥
RefusesAs old new stop (Some (becomes w effect)) = ⊥
RefusesAs old new stop None = ⊥

stranger_as : (old new : WorldRecord) (s : ℕ) (o : Option Outcome) → AppliesErr old new (Stranger s) o → RefusesAs old new (Stranger s) o
stranger_as old new s (Some (refuses wanted)) h = h
stranger_as old new s (Some (idles effect)) h = absurd h
stranger_as old new s (Some (becomes w effect)) h = absurd h
stranger_as old new s None h = absurd h

gone_as : (old new : WorldRecord) (entry : ℕ) (o : Option Outcome) → AppliesErr old new (Gone entry) o → RefusesAs old new (Gone entry) o
gone_as old new entry (Some (refuses wanted)) h = h
gone_as old new entry (Some (idles effect)) h = absurd h
gone_as old new entry (Some (becomes w effect)) h = absurd h
gone_as old new entry None h = absurd h

held_as : (old new : WorldRecord) (n : ℕ) (o : Option Outcome) → AppliesErr old new (Held n) o → RefusesAs old new (Held n) o
held_as old new n (Some (refuses wanted)) h = h
held_as old new n (Some (idles effect)) h = absurd h
held_as old new n (Some (becomes w effect)) h = absurd h
held_as old new n None h = absurd h

-- a world that stays as it was, and why
record Stays (old new : WorldRecord) (number : ℕ) (event : PlainEvent) (stop : Stop) : Type 0 where
  refused : InFound (visit_in old new number) (λ w. IsRefusedFor stop (step w event))
  same : new ≡ old

stays : (old new : WorldRecord) (number : ℕ) (event : PlainEvent) (stop : Stop) → RefusesAs old new stop (outcome_of_event old event) → Stays old new number event stop
stays old new number event stop h = by_world (model_of old) refl h
  where
    by_outcome : (w : World) → model_of old ≡ Some w → (o : Outcome) → step w event ≡ o → RefusesAs old new stop (Some o) → Stays old new number event stop
    by_outcome w runs (refuses wanted) is k = record { refused = (w, runs, (wanted, k.0, is)); same = k.1 }
    by_outcome w runs (idles effect) is k = absurd k
    by_outcome w runs (becomes v effect) is k = absurd k

    by_world : (o : Option World) → model_of old ≡ o → RefusesAs old new stop (option_map (λ w. step w event) o) → Stays old new number event stop
    by_world None is k = absurd k
    by_world (Some w) is k = by_outcome w is (step w event) refl k

-- what was refused adds nothing
nothing_gained : (old new : WorldRecord) (number : ℕ) (C : Visit → Type 0) → new.history ≡ old.history → start_of new ≡ start_of old
    → (AddsNothing (visit_in old new number) → C (visit_in old new number)) → GainsIn stands_for start_of old new number C
nothing_gained old new number C same begins f = gained old new number C begins (inl same) (f (ap plain_entries same))

pub refused_by : (old new : WorldRecord) (number : ℕ) (event : PlainEvent) (stop : Stop) (C : Visit → Type 0) → AppliesErr old new stop (outcome_of_event old event)
    → (RefusesEvent event stop (visit_in old new number) → C (visit_in old new number)) → GainsIn stands_for start_of old new number C
refused_by old new number event NoMemory C h f =
    nothing_gained old new number C (ap (λ (k : WorldRecord). k.history) h) (ap start_of h) f
refused_by old new number event (Stranger s) C h f =
    let r = stays old new number event (Stranger s) (stranger_as old new s (outcome_of_event old event) h) in
    nothing_gained old new number C (ap (λ (k : WorldRecord). k.history) r.same) (ap start_of r.same) (λ none. f (none, r.refused))
refused_by old new number event (Gone entry) C h f =
    let r = stays old new number event (Gone entry) (gone_as old new entry (outcome_of_event old event) h) in
    nothing_gained old new number C (ap (λ (k : WorldRecord). k.history) r.same) (ap start_of r.same) (λ none. f (none, r.refused))
refused_by old new number event (Held n) C h f =
    let r = stays old new number event (Held n) (held_as old new n (outcome_of_event old event) h) in
    nothing_gained old new number C (ap (λ (k : WorldRecord). k.history) r.same) (ap start_of r.same) (λ none. f (none, r.refused))

-- ---- the four calls

pub opens_gained : (old new : WorldRecord) (number : ℕ) (met : Result ℕ Unopened)
    → IfOk met (λ s. (old.spent ≡ false) × AppliesOk old new (record { caller = number; event = event.Open }) (effect.Opened s) (outcome_of_event old open_session))
    → IfErr met (λ why. AppliesErr old new (stop_of_unopened why) (outcome_of_event old open_session))
    → GainsIn stands_for start_of old new number (OpensAs met)
opens_gained old new number (Ok s) ok err = applied old new number event.Open (effect.Opened s) (OpensAs (Ok s)) ok.1 (λ did. did)
opens_gained old new number (Err why) ok err = refused_by old new number open_session (stop_of_unopened why) (OpensAs (Err why)) err (λ told. told)

pub calls_gained : {A : Type 0} (old new : WorldRecord) (number s : ℕ) (frame : Frame) (met : Result A (Frame × Unasked))
    → OnOk met ((old.spent ≡ false) × AppliesOk old new (record { caller = number; event = event.Request s frame }) effect.Done (outcome_of_event old (request_of s (call_of_frame frame))))
    → IfErr met (λ refused. (refused.0 ≡ frame) × AppliesErr old new (stop_of_unasked s refused.1) (outcome_of_event old (request_of s (call_of_frame frame))))
    → IfErr met (λ refused. (w : World) → model_of old ≡ Some w → IsUnaskedBy (session_of w s) refused.1)
    → GainsIn stands_for start_of old new number (CallsAs met s frame)
calls_gained old new number s frame (Ok made) ok err gone =
    applied old new number (event.Request s frame) effect.Done (CallsAs (Ok made) s frame) ok.1 (λ did. record { comes = did; back = tt; gone = tt })
calls_gained old new number s frame (Err refused) ok err gone =
    refused_by old new number (request_of s (call_of_frame frame)) (stop_of_unasked s refused.1) (CallsAs (Err refused) s frame) err.1
    (λ told. record { comes = told; back = err.0; gone = gone })

pub takes_gained : (old new : WorldRecord) (number s : ℕ) (met : Result Taken Untaken)
    → IfOk met (λ taken. (old.spent ≡ false) × AppliesOk old new (record { caller = number; event = event.Take s }) (effect_of_taken taken) (outcome_of_event old (take_of s)))
    → IfErr met (λ why. AppliesErr old new (stop_of_untaken s why) (outcome_of_event old (take_of s)))
    → IfOk met (λ taken. GivesSendable (effect_of_taken taken))
    → IfOk met (λ taken. GivesFewCells (effect_of_taken taken))
    → GainsIn stands_for start_of old new number (TakesAs met s)
takes_gained old new number s (Ok taken) ok err sendable cells =
    applied old new number (event.Take s) (effect_of_taken taken) (TakesAs (Ok taken) s) ok.1 (λ did. record { comes = did; sendable = sendable; cells = cells })
takes_gained old new number s (Err why) ok err sendable cells =
    refused_by old new number (take_of s) (stop_of_untaken s why) (TakesAs (Err why) s) err (λ told. record { comes = told; sendable = tt; cells = tt })

pub closes_gained : {A : Type 0} (old new : WorldRecord) (number s : ℕ) (met : Result A Unclosed)
    → OnOk met ((old.spent ≡ false) × AppliesOk old new (record { caller = number; event = event.Close s }) effect.Closed (outcome_of_event old (close_of s)))
    → IfErr met (λ why. AppliesErr old new (stop_of_unclosed s why) (outcome_of_event old (close_of s)))
    → IfErr met (λ why. (w : World) → model_of old ≡ Some w → IsUnclosedBy (session_of w s) why)
    → GainsIn stands_for start_of old new number (ClosesAs met s)
closes_gained old new number s (Ok made) ok err gone =
    applied old new number (event.Close s) effect.Closed (ClosesAs (Ok made) s) ok.1 (λ did. record { comes = did; gone = tt })
closes_gained old new number s (Err why) ok err gone =
    refused_by old new number (close_of s) (stop_of_unclosed s why) (ClosesAs (Err why) s) err (λ told. record { comes = told; gone = gone })

-- ---- whether it is spent

-- what applies doesn't spend a world
spent_same : (old new : WorldRecord) (entry : Entry) (effect : Effect) (o : Option Outcome) → AppliesOk old new entry effect o → new.spent ≡ old.spent
spent_same old new entry effect (Some (becomes w wanted)) h = ap (λ (k : WorldRecord). k.spent) h.1
spent_same old new entry effect (Some (idles wanted)) h = ap (λ (k : WorldRecord). k.spent) h.1
spent_same old new entry effect (Some (refuses stop)) h = absurd h
spent_same old new entry effect None h = absurd h

-- neither does a refusal for another cause than want of memory, which a spent one doesn't tell
same_stop : (old new : WorldRecord) (stop : Stop) (o : Option Outcome) → RefusesAs old new stop o → new ≡ old
same_stop old new stop (Some (refuses wanted)) h = h.1
same_stop old new stop (Some (idles effect)) h = absurd h
same_stop old new stop (Some (becomes w effect)) h = absurd h
same_stop old new stop None h = absurd h

live_stop : (b : Bool) → (b ≡ true → ⊥) → b ≡ false
live_stop true none = absurd (none refl)
live_stop false none = refl

stays_live : (old new : WorldRecord) (stop : Stop) → is_want (Err stop) ≡ false → new ≡ old → (old.spent ≡ true → ⊥) → Spends old.spent new.spent (Err stop)
stays_live old new stop other same none = record {
  now_is = ap (λ (k : WorldRecord). k.spent) same ∙ live_stop old.spent none ∙ sym other;
  stays = λ was. absurd (none was);
}

pub spends : (old new : WorldRecord) (entry : Entry) (o : Option Outcome) (r : Result Effect Stop) → IfOk r (λ effect. (old.spent ≡ false) × AppliesOk old new entry effect o)
    → IfErr r (λ stop. AppliesErr old new stop o) → (old.spent ≡ true → r ≡ Err NoMemory) → Spends old.spent new.spent r
spends old new entry o (Ok effect) ok err was = record {
  now_is = spent_same old new entry effect o ok.1 ∙ ok.0;
  stays = λ spent. absurd (let e = was spent in cc);
}
spends old new entry o (Err NoMemory) ok err was = record { now_is = ap (λ (k : WorldRecord). k.spent) err; stays = λ spent. refl }
spends old new entry o (Err (Stranger s)) ok err was =
    stays_live old new (Stranger s) refl (same_stop old new (Stranger s) o (stranger_as old new s o err)) (λ spent. let e = was spent in cc)
spends old new entry o (Err (Gone e)) ok err was =
    stays_live old new (Gone e) refl (same_stop old new (Gone e) o (gone_as old new e o err)) (λ spent. let e = was spent in cc)
spends old new entry o (Err (Held n)) ok err was =
    stays_live old new (Held n) refl (same_stop old new (Held n) o (held_as old new n o err)) (λ spent. let e = was spent in cc)

pub opens_spends : (old new : WorldRecord) (entry : Entry) (o : Option Outcome) (met : Result ℕ Unopened)
    → IfOk met (λ s. (old.spent ≡ false) × AppliesOk old new entry (effect.Opened s) o) → IfErr met (λ why. AppliesErr old new (stop_of_unopened why) o)
    → (old.spent ≡ true → met ≡ Err unopened.NoMemory) → Spends old.spent new.spent (opened_as met)
opens_spends old new entry o (Ok s) ok err was = spends old new entry o (Ok (effect.Opened s)) ok tt (λ spent. ap opened_as (was spent))
opens_spends old new entry o (Err why) ok err was = spends old new entry o (Err (stop_of_unopened why)) tt err (λ spent. ap opened_as (was spent))

pub calls_spends : {A : Type 0} (old new : WorldRecord) (entry : Entry) (o : Option Outcome) (s : ℕ) (frame : Frame) (met : Result A (Frame × Unasked))
    → OnOk met ((old.spent ≡ false) × AppliesOk old new entry effect.Done o) → IfErr met (λ refused. (refused.0 ≡ frame) × AppliesErr old new (stop_of_unasked s refused.1) o)
    → (old.spent ≡ true → met ≡ Err (frame, unasked.NoMemory)) → Spends old.spent new.spent (requested_as s met)
calls_spends old new entry o s frame (Ok made) ok err was = spends old new entry o (Ok effect.Done) ok tt (λ spent. ap (requested_as s) (was spent))
calls_spends old new entry o s frame (Err refused) ok err was =
    spends old new entry o (Err (stop_of_unasked s refused.1)) tt err.1 (λ spent. ap (requested_as s) (was spent))

pub takes_spends : (old new : WorldRecord) (entry : Entry) (o : Option Outcome) (s : ℕ) (met : Result Taken Untaken)
    → IfOk met (λ taken. (old.spent ≡ false) × AppliesOk old new entry (effect_of_taken taken) o) → IfErr met (λ why. AppliesErr old new (stop_of_untaken s why) o)
    → (old.spent ≡ true → met ≡ Err untaken.NoMemory) → Spends old.spent new.spent (taken_as s met)
takes_spends old new entry o s (Ok taken) ok err was = spends old new entry o (Ok (effect_of_taken taken)) ok tt (λ spent. ap (taken_as s) (was spent))
takes_spends old new entry o s (Err why) ok err was = spends old new entry o (Err (stop_of_untaken s why)) tt err (λ spent. ap (taken_as s) (was spent))

pub closes_spends : {A : Type 0} (old new : WorldRecord) (entry : Entry) (o : Option Outcome) (s : ℕ) (met : Result A Unclosed)
    → OnOk met ((old.spent ≡ false) × AppliesOk old new entry effect.Closed o) → IfErr met (λ why. AppliesErr old new (stop_of_unclosed s why) o)
    → (old.spent ≡ true → met ≡ Err unclosed.NoMemory) → Spends old.spent new.spent (closed_as s met)
closes_spends old new entry o s (Ok made) ok err was = spends old new entry o (Ok effect.Closed) ok tt (λ spent. ap (closed_as s) (was spent))
closes_spends old new entry o s (Err why) ok err was = spends old new entry o (Err (stop_of_unclosed s why)) tt err (λ spent. ap (closed_as s) (was spent))
