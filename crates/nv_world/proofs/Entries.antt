-- Entries of a history, and what applies to a world.
use Rattle.std.proofs.Common.{◌≡◌, ℕ, ◌+◌, ◌-◌, ◌≤◌, ◌*◌, Bool, true, false, leb, List, [], ◌∷◌, ◌++◌, length, map, refl, sym, ap, ◌∙◌, subst, Option, Some, None, option_map, option_and_then, Result, Ok, Err, is_some, arith, length-append}
use Rattle.std.specs.Prelude.{⊤, IsSome}
use Rattle.std.proofs.lemmas.Option.{same_Some}
use Rattle.nv_rpc.specs.Calls.{Call}
use Rattle.nv_model.specs.Editors.{ModelEditor}
use Rattle.nv_model.specs.declared.parts.Limits.{Limits}
use Rattle.nv_history.specs.Events.{Event as PlainEvent, Entry as PlainEntry, Cause, Effect as PlainEffect, open_session, request_of, take_of, close_of}
use Rattle.nv_history.specs.Events as plain
use Rattle.nv_history.specs.Sessions.{Session}
use Rattle.nv_history.specs.Worlds.{World, Outcome, refuses, idles, becomes, fresh_world, session_of, step, world_made, is_nothing_due, is_scene_due, opening_outcome, request_outcome, live_request_outcome, held_outcome, take_outcome, some_take_outcome, empty_take_outcome, close_outcome, live_close_outcome}
use Rattle.nv_history.specs.Runs.{run, run_from}
use Rattle.nv_history.proofs.GoingRuns.{run-append}
use Rattle.nv_core.specs.Contents.{IsEffect, plain_effect, plain_entry, plain_entries, plain_stop}
use Rattle.nv_world.specs.Worlds.{WorldRecord, AppliesOk, AppliesErr, with_entry, as_spent}
use Rattle.nv_core.specs.declared.entry.Entry.{Entry}
use Rattle.nv_core.specs.declared.effect.Effect.{Effect}
use Rattle.nv_core.specs.declared.effect.Stop.{Stop}
use Rattle.nv_core.specs.declared.effect.Stop.TheVariants.{NoMemory, Stranger, Gone, Held}
use Rattle.nv_world.specs.declared.state.State.{State}
use Rattle.nv_world.specs.declared.state.Numbers.{Numbers}
use Rattle.nv_world.specs.inside.Entering.{is_entry}
use Rattle.nv_world.specs.inside.States.{StandsNumbered, Changes, with_next}

-- what is there
pub some_of : {A : Type 0} (o : Option A) → IsSome o → (x : A) × (o ≡ Some x)
some_of None h = absurd (cc)
some_of (Some x) h = (x, refl)

-- an effect tells whether its event entered
abbrev pub Fits : Outcome → Type 0
Fits (refuses stop) = ⊤
Fits (idles effect) = is_entry effect ≡ false
Fits (becomes w effect) = is_entry effect ≡ true

opening_fits : (o : Option ℕ) (w : World) → Fits (opening_outcome o w)
opening_fits (Some entry) w = tt
opening_fits None w = refl

held_fits : (b : Bool) (w : World) (s : ℕ) (x : Session) (call : Call) → Fits (held_outcome b w s x call)
held_fits true w s x call = tt
held_fits false w s x call = refl

live_request_fits : (o : Option Cause) (w : World) (s : ℕ) (x : Session) (call : Call) → Fits (live_request_outcome o w s x call)
live_request_fits (Some cause) w s x call = tt
live_request_fits None w s x call = held_fits (leb w.capacity (2 * length x.waiting)) w s x call

request_fits : (o : Option Session) (w : World) (s : ℕ) (call : Call) → Fits (request_outcome o w s call)
request_fits None w s call = tt
request_fits (Some x) w s call = live_request_fits x.closed w s x call

empty_fits : (o : Option Cause) → Fits (empty_take_outcome o)
empty_fits (Some cause) = refl
empty_fits None = refl

some_fits : (none scene : Bool) (w : World) (s : ℕ) (x : Session) → Fits (some_take_outcome none scene w s x)
some_fits true scene w s x = empty_fits x.closed
some_fits false scene w s x = refl

take_fits : (o : Option Session) (w : World) (s : ℕ) → Fits (take_outcome o w s)
take_fits None w s = tt
take_fits (Some x) w s = some_fits (is_nothing_due x.waiting (is_scene_due w s x)) (is_scene_due w s x) w s x

live_close_fits : (o : Option Cause) (w : World) (s : ℕ) (x : Session) → Fits (live_close_outcome o w s x)
live_close_fits (Some cause) w s x = tt
live_close_fits None w s x = refl

close_fits : (o : Option Session) (w : World) (s : ℕ) → Fits (close_outcome o w s)
close_fits None w s = tt
close_fits (Some x) w s = live_close_fits x.closed w s x

pub step_fits : (w : World) (event : PlainEvent) → Fits (step w event)
step_fits w open_session = opening_fits w.ended w
step_fits w (request_of s call) = request_fits (session_of w s) w s call
step_fits w (take_of s) = take_fits (session_of w s) w s
step_fits w (close_of s) = close_fits (session_of w s) w s

-- an event that doesn't enter
pub record Idles (old new : State) (effect : Effect) (outcome : Outcome) : Type 0 where
  pub wanted : PlainEffect
  pub is : outcome ≡ idles wanted
  pub effect_is : IsEffect effect wanted
  pub same : new ≡ old

pub it_idles : (old new : State) (n : Numbers) (effect : Effect) (outcome : Outcome) → Fits outcome
    → ((editor : Option ModelEditor) → is_entry (plain_effect editor effect) ≡ false)
    → Changes old new n (Ok effect) outcome → Idles old new effect outcome
it_idles old new n effect (refuses stop) fits none h = absurd h
it_idles old new n effect (idles wanted) fits none h = record { wanted = wanted; is = refl; effect_is = h.0; same = h.1 }
it_idles old new n effect (becomes w wanted) fits none h = absurd (let e = sym (none h.0.editor) ∙ ap is_entry h.0.effect_is ∙ fits in cc)

-- an event that enters
pub record Enters (new : State) (n : Numbers) (effect : Effect) (outcome : Outcome) : Type 0 where
  pub after : World
  pub wanted : PlainEffect
  pub is : outcome ≡ becomes after wanted
  pub effect_is : IsEffect effect wanted
  pub stands : StandsNumbered new (with_next n) after

pub it_enters : (old new : State) (n : Numbers) (effect : Effect) (outcome : Outcome) → Fits outcome
    → ((editor : Option ModelEditor) → is_entry (plain_effect editor effect) ≡ true)
    → Changes old new n (Ok effect) outcome → Enters new n effect outcome
it_enters old new n effect (refuses stop) fits some h = absurd h
it_enters old new n effect (idles wanted) fits some h = absurd (let e = sym (some h.0.editor) ∙ ap is_entry h.0.effect_is ∙ fits in cc)
it_enters old new n effect (becomes w wanted) fits some h = record { after = w; wanted = wanted; is = refl; effect_is = h.0; stands = h.1 }

-- an event that is refused, by another cause than want of memory
pub record Refuses (old new : State) (stop : Stop) (outcome : Outcome) : Type 0 where
  pub told : plain.Stop
  pub is : outcome ≡ refuses told
  pub cause : plain_stop stop ≡ Some told
  pub same : new ≡ old

pub it_refuses : (old new : State) (n : Numbers) (stop : Stop) (outcome : Outcome) → (stop ≡ NoMemory → ⊥)
    → Changes old new n (Err stop) outcome → Refuses old new stop outcome
it_refuses old new n NoMemory outcome other h = absurd (other refl)
it_refuses old new n (Stranger s) (refuses told) other h = record { told = told; is = refl; cause = h.0; same = h.1 }
it_refuses old new n (Stranger s) (idles f) other h = absurd h
it_refuses old new n (Stranger s) (becomes w f) other h = absurd h
it_refuses old new n (Gone e) (refuses told) other h = record { told = told; is = refl; cause = h.0; same = h.1 }
it_refuses old new n (Gone e) (idles f) other h = absurd h
it_refuses old new n (Gone e) (becomes w f) other h = absurd h
it_refuses old new n (Held k) (refuses told) other h = record { told = told; is = refl; cause = h.0; same = h.1 }
it_refuses old new n (Held k) (idles f) other h = absurd h
it_refuses old new n (Held k) (becomes w f) other h = absurd h

-- what applies
pub applies_idle : (old new : WorldRecord) (e : Entry) (effect : Effect) (wanted : PlainEffect) (o : Option Outcome) → o ≡ Some (idles wanted) → IsEffect effect wanted
    → new ≡ old → AppliesOk old new e effect o
applies_idle old new e effect wanted o is does same = subst (λ (p : Option Outcome). AppliesOk old new e effect p) (sym is) (does, same)

pub applies_entry : (old new : WorldRecord) (e : Entry) (effect : Effect) (wanted : PlainEffect) (v : World) (o : Option Outcome) → o ≡ Some (becomes v wanted)
    → IsEffect effect wanted → new ≡ with_entry old e → AppliesOk old new e effect o
applies_entry old new e effect wanted v o is does same = subst (λ (p : Option Outcome). AppliesOk old new e effect p) (sym is) (does, same)

pub applies_refusal : (old new : WorldRecord) (stop : Stop) (told : plain.Stop) (o : Option Outcome) → (stop ≡ NoMemory → ⊥) → o ≡ Some (refuses told)
    → plain_stop stop ≡ Some told → new ≡ old → AppliesErr old new stop o
applies_refusal old new NoMemory told o other is cause same = absurd (other refl)
applies_refusal old new (Stranger s) told o other is cause same = subst (λ (p : Option Outcome). AppliesErr old new (Stranger s) p) (sym is) (cause, same)
applies_refusal old new (Gone e) told o other is cause same = subst (λ (p : Option Outcome). AppliesErr old new (Gone e) p) (sym is) (cause, same)
applies_refusal old new (Held k) told o other is cause same = subst (λ (p : Option Outcome). AppliesErr old new (Held k) p) (sym is) (cause, same)

-- the history with one entry more
pub entries-push : (entries : List Entry) (e : Entry) → plain_entries (entries ++ e ∷ []) ≡ plain_entries entries ++ plain_entry e ∷ []
entries-push [] e = refl
entries-push (x ∷ entries) e = ap (λ (l : List PlainEntry). plain_entry x ∷ l) (entries-push entries e)

pub run_push : (capacity : ℕ) (limits : Limits) (entries later : List Entry) (e : Entry) (w v : World) (effect : PlainEffect)
    → run capacity limits (plain_entries entries) ≡ Some w → step w (plain_entry e).event ≡ becomes v effect → later ≡ entries ++ e ∷ []
    → run capacity limits (plain_entries later) ≡ Some v
run_push capacity limits entries later e w v effect runs is same =
    ap (λ (l : List Entry). run capacity limits (plain_entries l)) same
    ∙ ap (λ (l : List PlainEntry). run capacity limits l) (entries-push entries e)
    ∙ run-append (fresh_world capacity limits) (plain_entries entries) (plain_entry e ∷ [])
    ∙ ap (λ (o : Option World). option_and_then (λ u. run_from u (plain_entry e ∷ [])) o) runs
    ∙ ap (λ (o : Outcome). option_and_then (λ u. run_from u []) (world_made o)) is

pub one_world : (o : Option World) (w v : World) → o ≡ Some w → o ≡ Some v → w ≡ v
one_world o w v e f = same_Some w v (sym e ∙ f)
