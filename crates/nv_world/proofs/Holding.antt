-- A world before an event and after it: what it is still, and what the event came to.
use Rattle.std.proofs.Common.{◌≡◌, ℕ, ◌+◌, ◌^◌, ◌<◌, ◌≤◌, Bool, true, false, List, [], ◌∷◌, ◌++◌, length, refl, sym, ap, ◌∙◌, subst, Option, Some, is_none, Ok, Err, arith, length-append}
use Rattle.std.specs.Prelude.{IsSome}
use Rattle.std.proofs.lemmas.Slice.Zip.{AllZip-long}
use Rattle.std.proofs.lemmas.Option.{same_Some}
use Rattle.nv_model.specs.Editors.{ModelEditor}
use Rattle.nv_model.specs.declared.parts.Limits.{Limits}
use Rattle.nv_history.specs.Events.{Event, close_of, Effect as PlainEffect}
use Rattle.nv_history.specs.Worlds.{World, Outcome, becomes, fresh_world, step}
use Rattle.nv_history.specs.Asking.{count_opened}
use Rattle.nv_history.specs.Runs.{run}
use Rattle.nv_core.specs.Contents.{plain_effect, plain_entries, plain_event, plain_stop}
use Rattle.nv_world.specs.Steps.{splices_of_event}
use Rattle.nv_world.specs.Worlds.{WorldRecord, AppliesErr, AppliesOk, as_spent, model_of, outcome_of_event}
use Rattle.nv_core.specs.declared.effect.Effect.{Effect}
use Rattle.nv_core.specs.declared.effect.Stop.{Stop}
use Rattle.nv_core.specs.declared.effect.Stop.TheVariants.{NoMemory, Stranger, Gone, Held}
use Rattle.nv_core.specs.Gains.{is_want}
use Rattle.nv_core.specs.declared.entry.Entry.{Entry}
use Rattle.nv_world.specs.declared.state.State.{State}
use Rattle.nv_world.specs.declared.state.Numbers.{Numbers}
use Rattle.nv_world.specs.declared.step.Moved.{Moved}
use Rattle.nv_world.specs.inside.Entering.{is_entry}
use Rattle.nv_world.specs.inside.Sessions.{IsSession}
use Rattle.nv_world.specs.inside.States.{Changes, IsAt, StandsNumbered, count_live, with_next}
use Rattle.nv_world.specs.inside.Worlds.{Holds, numbers_behind}
use Rattle.nv_world.proofs.Applying.{at_entry, named_outcome, not_both, record_entered, record_is, record_spent, unspent, world_record}
use Rattle.nv_world.proofs.Entries.{Enters, applies_entry, applies_idle, it_enters, it_idles, one_world, run_push, some_of, step_fits}
use Rattle.nv_world.proofs.Refusing.{kept_state, refusal_applies}
use Rattle.nv_world.proofs.Rooms.{live_behind, live_behind_close}
use Rattle.nv_world.proofs.Splicings.{last_pushed}

-- ---- a world at an entry

pub record IsNow (capacity : ℕ) (limits : Limits) (entries : List Entry) (room : ℕ) (state : State) (n : Numbers) : Type 0 where
  pub w : World
  pub runs : run capacity limits (plain_entries entries) ≡ Some w
  pub at : IsAt state n w
  pub closes : count_live w.sessions ≤ room

pub now_at : (capacity : ℕ) (limits : Limits) (entries : List Entry) (room : ℕ) (state : State) (splices : List Moved) (spent : Bool) (n : Numbers)
    → Holds capacity limits entries room state splices spent → spent ≡ false → n ≡ numbers_behind capacity limits entries → n.at < 2 ^ 63
    → IsNow capacity limits entries room state n
now_at capacity limits entries room state splices spent n holds live e few =
    let p = some_of (run capacity limits (plain_entries entries)) holds.runs in record {
      w = p.0;
      runs = p.1;
      at = at_entry state capacity limits entries n p.0 e few p.1 (holds.stands p.0 live p.1);
      closes = holds.closes p.0 live p.1;
    }

-- the same in the world of a record
pub at_world : (capacity : ℕ) (limits : Limits) (entries : List Entry) (room : ℕ) (state : State) (splices : List Moved) (spent : Bool) (n : Numbers)
    (k : WorldRecord) (w : World)
    → Holds capacity limits entries room state splices spent → world_record capacity limits entries spent ≡ k → spent ≡ false
    → n ≡ numbers_behind capacity limits entries → n.at < 2 ^ 63 → model_of k ≡ Some w → IsAt state n w
at_world capacity limits entries room state splices spent n k w holds view live e few runs =
    let same : run capacity limits (plain_entries entries) ≡ Some w = ap model_of view ∙ runs in
    at_entry state capacity limits entries n w e few same (holds.stands w live same)

-- ---- nothing entered

pub holds_same : (capacity : ℕ) (limits : Limits) (entries mid : List Entry) (room left : ℕ) (old new : State) (splices : List Moved) (spent now : Bool)
    → Holds capacity limits entries room old splices spent → mid ≡ entries
    → (now ≡ false → (spent ≡ false) × (new ≡ old) × (room ≤ left))
    → Holds capacity limits mid left new splices now
holds_same capacity limits entries mid room left old new splices spent now h same kept =
    subst (λ (l : List Entry). Holds capacity limits l left new splices now) (sym same) (record {
      entries = h.entries;
      runs = h.runs;
      stands = λ w live runs. subst (λ (s : State). StandsNumbered s (numbers_behind capacity limits entries) w) (sym (kept live).1) (h.stands w (kept live).0 runs);
      closes = λ w live runs. wider (count_live w.sessions) (h.closes w (kept live).0 runs) (kept live).2;
      last = h.last;
    })
  where
    wider : (k : ℕ) → k ≤ room → room ≤ left → k ≤ left
    wider k a b = omega arith

-- there was no memory for the entry, or had not been before
pub record Wants (capacity : ℕ) (limits : Limits) (mid : List Entry) (left : ℕ) (state : State) (splices : List Moved) (now : Bool) (k : WorldRecord) : Type 0 where
  pub holds : Holds capacity limits mid left state splices now
  pub spends : world_record capacity limits mid now ≡ as_spent k
  pub stays : k.spent ≡ true → world_record capacity limits mid now ≡ k

pub wants : (capacity : ℕ) (limits : Limits) (entries mid : List Entry) (room left : ℕ) (state : State) (splices : List Moved) (spent now : Bool) (k : WorldRecord)
    → Holds capacity limits entries room state splices spent → world_record capacity limits entries spent ≡ k → mid ≡ entries → now ≡ true
    → Wants capacity limits mid left state splices now k
wants capacity limits entries mid room left state splices spent now k h view same over = record {
  holds = holds_same capacity limits entries mid room left state state splices spent now h same (λ live. not_both now live over);
  spends = record_spent capacity limits entries mid spent now k view same over;
  stays = λ was. record_is capacity limits entries mid spent now k view same (over ∙ sym (ap (λ (r : WorldRecord). r.spent) view ∙ was));
}

-- an event was refused
pub record Refused (capacity : ℕ) (limits : Limits) (mid : List Entry) (left : ℕ) (new : State) (splices : List Moved) (now : Bool) (k : WorldRecord)
    (event : Event) (stop : Stop) : Type 0 where
  pub holds : Holds capacity limits mid left new splices now
  pub applies : AppliesErr k (world_record capacity limits mid now) stop (outcome_of_event k event)

pub refused : (capacity : ℕ) (limits : Limits) (entries mid : List Entry) (room left : ℕ) (old new : State) (was splices : List Moved) (spent now : Bool) (n : Numbers)
    (k : WorldRecord) (event : Event) (stop : Stop)
    → Holds capacity limits entries room old was spent → world_record capacity limits entries spent ≡ k → spent ≡ false
    → n ≡ numbers_behind capacity limits entries → n.at < 2 ^ 63 → mid ≡ entries → room ≤ left
    → now ≡ is_none (plain_stop stop) → ((w : World) → IsAt old n w → Changes old new n (Err stop) (step w event))
    → splices ≡ was → Refused capacity limits mid left new splices now k event stop
refused capacity limits entries mid room left old new was splices spent now n k event stop h view live e few same wide is changes kept =
    let at = now_at capacity limits entries room old was spent n h live e few in
    let changed = changes at.w at.at in record {
      holds = subst (λ (l : List Moved). Holds capacity limits mid left new l now) (sym kept)
          (holds_same capacity limits entries mid room left old new was spent now h same
          (λ stays. (live, kept_state old new n stop (step at.w event) now is stays changed, wide)));
      applies = refusal_applies old new n stop (step at.w event) now capacity limits entries mid spent k (outcome_of_event k event) is live changed
          (named_outcome k at.w event (sym (ap model_of view) ∙ at.runs)) view same;
    }

-- an event had an effect that makes no entry
pub record Idled (capacity : ℕ) (limits : Limits) (mid : List Entry) (left : ℕ) (new : State) (splices : List Moved) (now : Bool) (k : WorldRecord)
    (entry : Entry) (effect : Effect) : Type 0 where
  pub holds : Holds capacity limits mid left new splices now
  pub applies : (k.spent ≡ false) × AppliesOk k (world_record capacity limits mid now) entry effect (outcome_of_event k (plain_event entry.event))

pub idled : (capacity : ℕ) (limits : Limits) (entries mid : List Entry) (room left : ℕ) (old new : State) (was splices : List Moved) (spent now : Bool) (n : Numbers)
    (k : WorldRecord) (entry : Entry) (effect : Effect)
    → Holds capacity limits entries room old was spent → world_record capacity limits entries spent ≡ k → spent ≡ false → now ≡ false
    → n ≡ numbers_behind capacity limits entries → n.at < 2 ^ 63 → mid ≡ entries → room ≤ left
    → ((editor : Option ModelEditor) → is_entry (plain_effect editor effect) ≡ false)
    → ((w : World) → IsAt old n w → Changes old new n (Ok effect) (step w (plain_event entry.event)))
    → splices ≡ was → Idled capacity limits mid left new splices now k entry effect
idled capacity limits entries mid room left old new was splices spent now n k entry effect h view live goes e few same wide none changes kept =
    let at = now_at capacity limits entries room old was spent n h live e few in
    let idle = it_idles old new n effect (step at.w (plain_event entry.event)) (step_fits at.w (plain_event entry.event)) none (changes at.w at.at) in record {
      holds = subst (λ (l : List Moved). Holds capacity limits mid left new l now) (sym kept)
          (holds_same capacity limits entries mid room left old new was spent now h same (λ stays. (live, idle.same, wide)));
      applies = (
        unspent capacity limits entries spent k view live,
        applies_idle k _ entry effect idle.wanted (outcome_of_event k (plain_event entry.event))
            (named_outcome k at.w (plain_event entry.event) (sym (ap model_of view) ∙ at.runs) ∙ ap (λ (o : Outcome). Some o) idle.is) idle.effect_is
            (record_is capacity limits entries mid spent now k view same (goes ∙ sym live)),
      );
    }

-- ---- an event entered

pub holds_entered : (capacity : ℕ) (limits : Limits) (entries later : List Entry) (left : ℕ) (n : Numbers) (new : State) (splices : List Moved) (now : Bool)
    (entry : Entry) (effect : Effect) (w : World) (enters : Enters new n effect (step w (plain_event entry.event)))
    → 1 ≤ limits.entries → n ≡ numbers_behind capacity limits entries → later ≡ entries ++ entry ∷ []
    → run capacity limits (plain_entries entries) ≡ Some w
    → count_live enters.after.sessions ≤ left → splices ≡ splices_of_event w (plain_event entry.event)
    → Holds capacity limits later left new splices now
holds_entered capacity limits entries later left n new splices now entry effect w enters some e more runs fits are =
    let next : run capacity limits (plain_entries later) ≡ Some enters.after =
    run_push capacity limits entries later entry w enters.after enters.wanted runs enters.is more in
    let count : length entries + 1 ≡ length later = sym (ap (length {A = Entry}) more ∙ length-append entries (entry ∷ [])) in
    let number : with_next n ≡ numbers_behind capacity limits later =
    ap with_next e ∙ ap (λ (k : ℕ). record (numbers_behind capacity limits entries) { at = k }) count in record {
      entries = some;
      runs = subst (λ (o : Option World). IsSome o) (sym next) refl;
      stands = λ v live is. subst (λ (u : World). StandsNumbered new (numbers_behind capacity limits later) u) (one_world _ enters.after v next is)
          (subst (λ (m : Numbers). StandsNumbered new m enters.after) number enters.stands);
      closes = λ v live is. subst (λ (u : World). count_live u.sessions ≤ left) (one_world _ enters.after v next is) fits;
      last = last_pushed capacity limits entries later entry w splices more runs are;
    }

pub record Entered (capacity : ℕ) (limits : Limits) (later : List Entry) (left : ℕ) (new : State) (splices : List Moved) (now : Bool) (k : WorldRecord)
    (entry : Entry) (effect : Effect) : Type 0 where
  pub holds : Holds capacity limits later left new splices now
  pub applies : (k.spent ≡ false) × AppliesOk k (world_record capacity limits later now) entry effect (outcome_of_event k (plain_event entry.event))

pub entered : (capacity : ℕ) (limits : Limits) (entries mid later : List Entry) (room left : ℕ) (old new : State) (was splices : List Moved) (spent now : Bool) (n : Numbers)
    (k : WorldRecord) (entry : Entry) (effect : Effect)
    → Holds capacity limits entries room old was spent → world_record capacity limits entries spent ≡ k → spent ≡ false → now ≡ false
    → n ≡ numbers_behind capacity limits entries → n.at < 2 ^ 63 → mid ≡ entries → later ≡ mid ++ entry ∷ []
    → ((editor : Option ModelEditor) → is_entry (plain_effect editor effect) ≡ true)
    → ((w : World) → IsAt old n w → Changes old new n (Ok effect) (step w (plain_event entry.event)))
    → ((w v : World) (f : PlainEffect) → IsAt old n w → count_live w.sessions ≤ room → step w (plain_event entry.event) ≡ becomes v f → count_live v.sessions ≤ left)
    → ((w : World) → IsAt old n w → splices ≡ splices_of_event w (plain_event entry.event))
    → Entered capacity limits later left new splices now k entry effect
entered capacity limits entries mid later room left old new was splices spent now n k entry effect h view live goes e few same more some changes fits are =
    let at = now_at capacity limits entries room old was spent n h live e few in
    let enters = it_enters old new n effect (step at.w (plain_event entry.event)) (step_fits at.w (plain_event entry.event)) some (changes at.w at.at) in
    let pushed : later ≡ entries ++ entry ∷ [] = more ∙ ap (λ (l : List Entry). l ++ entry ∷ []) same in record {
      holds = holds_entered capacity limits entries later left n new splices now entry effect at.w enters h.entries e pushed at.runs
          (fits at.w enters.after enters.wanted at.at at.closes enters.is) (are at.w at.at);
      applies = (
        unspent capacity limits entries spent k view live,
        applies_entry k _ entry effect enters.wanted enters.after (outcome_of_event k (plain_event entry.event))
            (named_outcome k at.w (plain_event entry.event) (sym (ap model_of view) ∙ at.runs) ∙ ap (λ (o : Outcome). Some o) enters.is) enters.effect_is
            (record_entered capacity limits entries mid later spent now entry k view same (goes ∙ sym live) more),
      );
    }

-- ---- numbers

-- one entry more can be counted where nothing was taken out
pub few_told : (base : ℕ) (capacity : ℕ) (limits : Limits) (entries mid : List Entry) (n : Numbers)
    → base ≡ 0 → mid ≡ entries → n ≡ numbers_behind capacity limits entries → n.at < 2 ^ 63 → base + length mid < 2 ^ 63
few_told base capacity limits entries mid n none same e few =
    let at : n.at ≡ length entries = ap (λ (m : Numbers). m.at) e in
    let long : length mid ≡ length entries = ap (λ (l : List Entry). length l) same in
    omega (arith, none, at, long, few)

pub true_false : {A : Type 0} → true ≡ false → A
true_false e = absurd (cc)

-- want of memory, as a stop and as what came of an event
pub want_of : (stop : Stop) → is_want (Err stop) ≡ is_none (plain_stop stop)
want_of NoMemory = refl
want_of (Stranger s) = refl
want_of (Gone entry) = refl
want_of (Held waiting) = refl

-- ---- room for the entries of closes

-- what is live behind an entry has room where as many as there are have it
pub live_fits : (state : State) (n : Numbers) (w v : World) (event : Event) (effect : PlainEffect) (left : ℕ)
    → IsAt state n w → step w event ≡ becomes v effect → count_opened (length state.sessions.items) event ≤ left → count_live v.sessions ≤ left
live_fits state n w v event effect left at is room =
    let many = AllZip-long (IsSession w.capacity) state.sessions.items w.sessions at.stands.state.sessions.pairs in
    let same : length state.sessions.items ≡ length w.sessions = omega (arith, many) in
    omega (arith, live_behind w v event effect is, subst (λ (k : ℕ). count_opened k event ≤ left) same room)

-- a close has room for its entry
pub close_fits : (capacity : ℕ) (limits : Limits) (entries : List Entry) (room : ℕ) (old new : State) (splices : List Moved) (spent : Bool) (n : Numbers) (s : ℕ) (effect : Effect)
    → Holds capacity limits entries room old splices spent → spent ≡ false → n ≡ numbers_behind capacity limits entries → n.at < 2 ^ 63
    → ((editor : Option ModelEditor) → is_entry (plain_effect editor effect) ≡ true)
    → ((w : World) → IsAt old n w → Changes old new n (Ok effect) (step w (close_of s)))
    → 0 < room
close_fits capacity limits entries room old new splices spent n s effect h live e few some changes =
    let at = now_at capacity limits entries room old splices spent n h live e few in
    let enters = it_enters old new n effect (step at.w (close_of s)) (step_fits at.w (close_of s)) some (changes at.w at.at) in
    omega (arith, live_behind_close at.w enters.after s enters.wanted enters.is, at.closes)

pub one_less : (w v : World) (s : ℕ) (effect : PlainEffect) (room left : ℕ) → count_live w.sessions ≤ room → step w (close_of s) ≡ becomes v effect
    → room ≡ left + 1 → count_live v.sessions ≤ left
one_less w v s effect room left fits is one = omega (arith, live_behind_close w v s effect is)

-- a world at first has nobody
pub begun_closes : (capacity : ℕ) (limits : Limits) (entries : List Entry) (room : ℕ) → entries ≡ []
    → (w : World) → run capacity limits (plain_entries entries) ≡ Some w → count_live w.sessions ≤ room
begun_closes capacity limits entries room none w runs =
    let same : fresh_world capacity limits ≡ w =
    same_Some _ w (sym (ap (λ (es : List Entry). run capacity limits (plain_entries es)) none) ∙ runs) in
    let nobody : 0 ≤ room = omega arith in
    subst (λ (v : World). count_live v.sessions ≤ room) same nobody
