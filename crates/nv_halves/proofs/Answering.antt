-- What the events of a session come to, for the pass that applies them.
use Rattle.std.proofs.Common.{◌≡◌, ℕ, zero, suc, Bool, true, false, List, [], ◌∷◌, ◌++◌, Option, Some, None, Result, Ok, Err, refl, ap, sym, ◌∙◌, subst, append_assoc, eq-eqb}
use mathlib.Core.List.{IsPrefix}
use Rattle.std.proofs.lemmas.Grind.{flat_map-append}
use Rattle.std.proofs.lemmas.Option.{none-some}
use Rattle.nv_rpc.specs.Calls.{Call}
use Rattle.nv_rpc.specs.declared.frame.Frame.{Frame}
use Rattle.nv_rpc.specs.Messages.{Sent}
use Rattle.nv_model.specs.Editors.{ModelEditor}
use Rattle.nv_screen.specs.declared.scene.Scene.{Scene}
use Rattle.nv_painter.specs.Spoken.{IsSoundIfThere}
use Rattle.nv_turn.proofs.Prefixes.{prefix_self, prefix_trans, prefix_more}
use Rattle.nv_turn.proofs.Entries.{own_added}
use Rattle.nv_history.specs.Events.{Event, request_of, take_of, close_of, Entry, Cause, closed_at, Effect, opened, done, gives, nothing, over, closes}
use Rattle.nv_history.specs.Sessions.{Session}
use Rattle.nv_history.specs.Worlds.{World, Outcome, refuses, idles, becomes, session_of, step, world_made, is_nothing_due, is_scene_due, held_outcome, live_request_outcome, request_outcome, empty_take_outcome, some_take_outcome, take_outcome, live_close_outcome, close_outcome}
use Rattle.nv_history.specs.Asking.{own, call_if, calls_in, calls_of}
use Rattle.nv_history.specs.Spoken.{ShowsIfGiven}
use Rattle.nv_core.specs.Contents.{plain_cause, IsEffect}
use Rattle.nv_core.specs.Outcomes.{effect_of_taken}
use Rattle.nv_core.specs.Bounds.{GivesSendable}
use Rattle.nv_core.specs.declared.calls.Taken.{Taken}
use Rattle.nv_core.specs.declared.calls.Taken.TheVariants as taken
use Rattle.nv_core.specs.declared.calls.Untaken.{Untaken}
use Rattle.nv_core.specs.declared.effect.Effect.{Effect as WorldEffect}
use Rattle.nv_core.specs.declared.effect.Effect.TheVariants as effect
use Rattle.nv_core.specs.declared.start.Start.{Start}
use Rattle.nv_halves.specs.Passes.{WorldPass, OfEach, IsFromReader, IsClosedBy, IsOver}
use Rattle.nv_core.specs.Starts.{world_of_run}
use Rattle.nv_core.specs.Visits.{Visit, AddsEvent, HasEffect}
use Rattle.nv_halves.specs.Applying.{visit, AppliesOnce}
use Rattle.nv_halves.specs.Halves.{Asks, Goes}
use Rattle.nv_halves.specs.inside.Insisting.{Stays, CallsWith, AsksOnce, TriesCall, ClosesWith, ClosesOnce, Shuts, TriesClose}
use Rattle.nv_halves.specs.inside.Taking.{TakesWith, TakesOnce}
use Rattle.nv_halves.specs.declared.insisting.Asked.{Asked}
use Rattle.nv_halves.specs.declared.insisting.Asked.TheVariants as asked
use Rattle.nv_halves.proofs.Onces.{same_then, stays_once, stays_then, waits_once, once_by, once_after}
use Rattle.nv_history.proofs.Makings.{Makes, step_makes}
use Rattle.nv_halves.proofs.Staying.{goes_closed, run_push}
use Rattle.nv_halves.proofs.Closings.{place_after, own_closes}
use Rattle.nv_halves.proofs.Exactness.{each-append, gains_none}

-- ---- calls that a pass gained

pub asks_stays : (p q : WorldPass) (s : ℕ) → Stays p q → Asks p q s []
asks_stays p q s h = record {
  same = h.same;
  gained = [];
  gains = gains_none (IsFromReader s) p.number p.seen q.seen h.own_is h.begins;
  calls_are = refl;
}

pub asks_self : (p : WorldPass) (s : ℕ) → Asks p p s []
asks_self p s = record {
  same = record { turn = refl; number = refl; numbers = refl; start = refl };
  gained = [];
  gains = gains_none (IsFromReader s) p.number p.seen p.seen refl (prefix_self p.seen);
  calls_are = refl;
}

pub calls-append : (s : ℕ) (a b : List Entry) → calls_of s (a ++ b) ≡ calls_of s a ++ calls_of s b
calls-append s a b = flat_map-append (λ (e : Entry). calls_in s e.event) a b

pub asks_then : (p q r : WorldPass) (s : ℕ) (calls more : List Call) → Asks p q s calls → Asks q r s more → Asks p r s (calls ++ more)
asks_then p q r s calls more a b =
    let own_is : own p.number r.seen ≡ own p.number q.seen ++ b.gained =
    subst (λ (n : ℕ). own n r.seen ≡ own n q.seen ++ b.gained) a.same.number b.gains.gains.own_is in
    record {
      same = same_then p q r a.same b.same;
      gained = a.gained ++ b.gained;
      gains = record {
        gains = record {
          own_is = own_is ∙ ap (λ (l : List Entry). l ++ b.gained) a.gains.gains.own_is ∙ append_assoc (own p.number p.seen) a.gained b.gained;
          begins = prefix_trans p.seen q.seen r.seen a.gains.gains.begins b.gains.gains.begins;
        };
        each = each-append (IsFromReader s) a.gained b.gained a.gains.each b.gains.each;
      };
      calls_are = calls-append s a.gained b.gained ∙ ap (λ (l : List Call). l ++ calls_of s b.gained) a.calls_are ∙ ap (λ (l : List Call). calls ++ l) b.calls_are;
    }

-- an entry that a pass added behind what it found
record AddsEntry (p q : WorldPass) (event : Event) : Type 0 where
  own_is : own p.number q.seen ≡ own p.number p.seen ++ record { caller = p.number; event = event } ∷ []
  begins : IsPrefix p.seen q.seen

adds_entry : (p q : WorldPass) (event : Event) (C : Visit → Type 0) (a : AppliesOnce p q C) → q.seen ≡ a.found ++ record { caller = p.number; event = event } ∷ [] → AddsEntry p q event
adds_entry p q event C a e =
    let entry : Entry = record { caller = p.number; event = event } in
    record {
      own_is = ap (own p.number) e ∙ own_added (λ (x : Entry). x.caller) p.number a.found entry refl ∙ ap (λ (l : List Entry). l ++ entry ∷ []) a.own_is;
      begins = prefix_trans p.seen a.found q.seen a.begins (subst (λ (l : List Entry). IsPrefix a.found l) (sym e) (prefix_more a.found (entry ∷ [])));
    }

-- ---- a call

-- a call that did something was added
request_came : (o : Option Session) (w : World) (s : ℕ) (call : Call) (v : Visit) (given : WorldEffect) → HasEffect (request_of s call) given v (request_outcome o w s call) → AddsEvent (request_of s call) v
request_came None w s call v given h = absurd h
request_came (Some x) w s call v given h = by_cause x.closed h
  where
    by_held : (b : Bool) → HasEffect (request_of s call) given v (held_outcome b w s x call) → AddsEvent (request_of s call) v
    by_held true k = absurd k
    by_held false k = k.1

    by_cause : (c : Option Cause) → HasEffect (request_of s call) given v (live_request_outcome c w s x call) → AddsEvent (request_of s call) v
    by_cause (Some c) k = absurd k
    by_cause None k = by_held _ k

one_call : (s n : ℕ) (call : Call) → calls_of s (record { caller = n; event = request_of s call } ∷ []) ≡ call ∷ []
one_call s n call = ap (λ (b : Bool). call_if b call ++ []) (eq-eqb s s refl)

-- where it was gone, it stays so
gone_goes : (p q : WorldPass) (s : ℕ) (cause : Cause) (C : Visit → Type 0) (a : AppliesOnce p q C) (w : World) → q.seen ≡ a.found → world_of_run p.start a.found ≡ Some w → IsClosedBy w s cause → Goes q s cause
gone_goes p q s cause C a w e runs closed =
    subst (λ (o : Option Start). OfEach o q.seen (λ history world. IsClosedBy world s cause)) (sym a.same.start)
    (subst (λ (l : List Entry). OfEach p.start l (λ history world. IsClosedBy world s cause)) (sym e)
    (goes_closed p.start a.found w s cause runs closed))

pub once_called : (p q : WorldPass) (s : ℕ) (call : Call) (tried : Result Asked Frame) → AppliesOnce p q (CallsWith tried s call) → TriesCall tried p q s call
once_called p q s call (Ok asked.Done) a =
    let entry : Entry = record { caller = p.number; event = request_of s call } in
    let d = a.comes in
    let k = adds_entry p q (request_of s call) _ a (request_came (session_of d.0 s) d.0 s call (visit p q a.found) effect.Done d.2) in
    record {
      same = a.same;
      gained = entry ∷ [];
      gains = record { gains = record { own_is = k.own_is; begins = k.begins }; each = (refl, tt) };
      calls_are = one_call s p.number call;
    }
once_called p q s call (Ok (asked.Gone cause)) a =
    (asks_stays p q s (stays_once p q _ a a.comes.0), gone_goes p q s (plain_cause cause) _ a a.comes.1.0 a.comes.0 a.comes.1.1 a.comes.1.2)
once_called p q s call (Ok asked.NoMemory) a = asks_stays p q s (stays_once p q _ a a.comes)
once_called p q s call (Err back) a = (waits_once p q _ a a.comes.0, a.comes.1)

-- a pass that waited, and then made a call
pub asks_after : (p q r : WorldPass) (s : ℕ) (call : Call) (met : Asked) → Stays p q → AsksOnce met q r s call → AsksOnce met p r s call
asks_after p q r s call asked.Done h a = asks_then p q r s [] (call ∷ []) (asks_stays p q s h) a
asks_after p q r s call (asked.Gone cause) h a = (asks_then p q r s [] [] (asks_stays p q s h) a.0, a.1)
asks_after p q r s call asked.NoMemory h a = asks_then p q r s [] [] (asks_stays p q s h) a

-- ---- a close

close_came : (o : Option Session) (w : World) (s : ℕ) (v : Visit) (given : WorldEffect) → HasEffect (close_of s) given v (close_outcome o w s) → AddsEvent (close_of s) v
close_came None w s v given h = absurd h
close_came (Some x) w s v given h = by_cause x.closed h
  where
    by_cause : (c : Option Cause) → HasEffect (close_of s) given v (live_close_outcome c w s x) → AddsEvent (close_of s) v
    by_cause (Some c) k = absurd k
    by_cause None k = k.1

-- a close that enters makes a world
abbrev pub IsCloseOutcome : Outcome → Type 0
IsCloseOutcome (refuses stop) = Unit {0}
IsCloseOutcome (idles wanted) = ⊥
IsCloseOutcome (becomes v wanted) = Unit {0}

closed_outcome : (o : Option Session) (w : World) (s : ℕ) → IsCloseOutcome (close_outcome o w s)
closed_outcome None w s = tt
closed_outcome (Some x) w s = by_cause x.closed
  where
    by_cause : (c : Option Cause) → IsCloseOutcome (live_close_outcome c w s x)
    by_cause (Some c) = tt
    by_cause None = tt

-- the session of a close that entered is closed by it
shut_closes : (w v : World) (s : ℕ) → Makes w (close_of s) v → IsClosedBy v s (closed_at w.entries)
shut_closes w v zero made = absurd (none-some made.session made.there)
shut_closes w v (suc p) made =
    let k = place_after w v (close_of (suc p)) p made.session made.there made in
    (k.later, k.there, own_closes w v p made k.later k.there)

-- and stays so
close_goes : (p q : WorldPass) (s : ℕ) (C : Visit → Type 0) (a : AppliesOnce p q C) (w : World) → world_of_run p.start a.found ≡ Some w → (given : WorldEffect)
    → q.seen ≡ a.found ++ record { caller = p.number; event = close_of s } ∷ [] → (o : Outcome) → step w (close_of s) ≡ o → IsCloseOutcome o
    → HasEffect (close_of s) given (visit p q a.found) o → (entry : ℕ) × Goes q s (closed_at entry)
close_goes p q s C a w runs given entered (refuses stop) is h k = absurd k
close_goes p q s C a w runs given entered (idles wanted) is h k = absurd h
close_goes p q s C a w runs given entered (becomes v wanted) is h k =
    let made : world_made (step w (close_of s)) ≡ Some v = ap world_made is in
    let there : world_of_run q.start q.seen ≡ Some v =
    ap (λ (o : Option Start). world_of_run o q.seen) a.same.start ∙ ap (world_of_run p.start) entered ∙ run_push p.start a.found w v (record { caller = p.number; event = close_of s }) runs made in
    (w.entries, goes_closed q.start q.seen v s (closed_at w.entries) there (shut_closes w v s (step_makes w v (close_of s) made)))

pub once_closed : (p q : WorldPass) (s : ℕ) (tried : Option Asked) → AppliesOnce p q (ClosesWith tried s) → TriesClose tried p q s
once_closed p q s (Some asked.Done) a =
    let d = a.comes in
    let entered = close_came (session_of d.0 s) d.0 s (visit p q a.found) effect.Closed d.2 in (
      once_by p q (ClosesWith (Some asked.Done) s) (AddsEvent (close_of s)) (λ v h. close_came (session_of h.0 s) h.0 s v effect.Closed h.2) a,
      close_goes p q s _ a d.0 d.1 effect.Closed entered (step d.0 (close_of s)) refl (closed_outcome (session_of d.0 s) d.0 s) d.2,
    )
once_closed p q s (Some (asked.Gone cause)) a =
    (stays_once p q _ a a.comes.0, gone_goes p q s (plain_cause cause) _ a a.comes.1.0 a.comes.0 a.comes.1.1 a.comes.1.2)
once_closed p q s (Some asked.NoMemory) a = stays_once p q _ a a.comes
once_closed p q s None a = waits_once p q _ a a.comes

-- a pass that waited, and then closed its session
pub shuts_after : (p q r : WorldPass) (s : ℕ) (met : Asked) → Stays p q → Shuts met q r s → Shuts met p r s
shuts_after p q r s asked.Done h a = (once_after p q r (AddsEvent (close_of s)) h a.0, a.1)
shuts_after p q r s (asked.Gone cause) h a = (stays_then p q r h a.0, a.1)
shuts_after p q r s asked.NoMemory h a = stays_then p q r h a

-- a reader that closed its session made no call by that
pub shut_asks : (p q : WorldPass) (s : ℕ) → ClosesOnce p q s → Asks p q s []
shut_asks p q s a =
    let entry : Entry = record { caller = p.number; event = close_of s } in
    let k = adds_entry p q (close_of s) _ a a.comes in
    record {
      same = a.same;
      gained = entry ∷ [];
      gains = record { gains = record { own_is = k.own_is; begins = k.begins }; each = (refl, tt) };
      calls_are = refl;
    }

-- ---- a take

none_waits : (ms : List Sent) (scene : Bool) → is_nothing_due ms scene ≡ true → ms ≡ []
none_waits [] scene e = refl
none_waits (m ∷ ms) scene e = cc

-- what a take may come to that makes no entry, and that makes one
abbrev pub IsIdleTake : World → ℕ → Effect → Type 0
IsIdleTake w s (over cause) = IsOver w s cause
IsIdleTake w s nothing = Unit {0}
IsIdleTake w s (opened t) = ⊥
IsIdleTake w s done = ⊥
IsIdleTake w s (gives messages editor) = ⊥
IsIdleTake w s closes = ⊥

abbrev pub IsBatchGiven : Effect → Type 0
IsBatchGiven (gives messages editor) = Unit {0}
IsBatchGiven (over cause) = ⊥
IsBatchGiven nothing = ⊥
IsBatchGiven (opened t) = ⊥
IsBatchGiven done = ⊥
IsBatchGiven closes = ⊥

abbrev pub IsTakeOutcome : World → ℕ → Outcome → Type 0
IsTakeOutcome w s (refuses stop) = Unit {0}
IsTakeOutcome w s (idles wanted) = IsIdleTake w s wanted
IsTakeOutcome w s (becomes v wanted) = IsBatchGiven wanted

take_outcomes : (w : World) (s : ℕ) → IsTakeOutcome w s (step w (take_of s))
take_outcomes w s = by_session (session_of w s) refl
  where
    by_cause : (x : Session) → session_of w s ≡ Some x → x.waiting ≡ [] → (c : Option Cause) → x.closed ≡ c → IsTakeOutcome w s (empty_take_outcome c)
    by_cause x there none None closed = tt
    by_cause x there none (Some c) closed = (x, there, closed, none)

    by_none : (x : Session) (scene : Bool) → session_of w s ≡ Some x → (none : Bool) → is_nothing_due x.waiting scene ≡ none → IsTakeOutcome w s (some_take_outcome none scene w s x)
    by_none x scene there true is = by_cause x there (none_waits x.waiting scene is) x.closed refl
    by_none x scene there false is = tt

    by_session : (o : Option Session) → session_of w s ≡ o → IsTakeOutcome w s (take_outcome o w s)
    by_session None there = tt
    by_session (Some x) there = by_none x (is_scene_due w s x) there (is_nothing_due x.waiting (is_scene_due w s x)) refl

sound_shown : (editor : Option ModelEditor) (scene : Option Scene) → ShowsIfGiven editor scene → IsSoundIfThere scene
sound_shown None None h = tt
sound_shown None (Some scene) h = absurd h
sound_shown (Some m) None h = absurd h
sound_shown (Some m) (Some scene) h = h.sound

-- an effect that makes no entry
idle_taken : (p q : WorldPass) (s : ℕ) (w : World) (given : Taken) (wanted : Effect) → IsIdleTake w s wanted → world_of_run q.start q.seen ≡ Some w → IsEffect (effect_of_taken given) wanted → Stays p q
    → TakesOnce (Ok given) p q s
idle_taken p q s w (taken.Items batch) wanted h runs is stays = absurd (subst (λ (e : Effect). IsIdleTake w s e) (sym is.effect_is) h)
idle_taken p q s w taken.Nothing wanted h runs is stays = stays
idle_taken p q s w (taken.Over cause) wanted h runs is stays =
    (stays, record { world = w; runs = runs; over = subst (λ (e : Effect). IsIdleTake w s e) (sym is.effect_is) h })

-- an effect that makes one
entry_taken : (p q : WorldPass) (s : ℕ) (w later : World) (C : Visit → Type 0) (a : AppliesOnce p q C) (given : Taken) (wanted : Effect) → IsBatchGiven wanted
    → world_of_run p.start a.found ≡ Some w → step w (take_of s) ≡ becomes later wanted → IsEffect (effect_of_taken given) wanted
    → q.seen ≡ a.found ++ record { caller = p.number; event = take_of s } ∷ [] → GivesSendable (effect_of_taken given) → TakesOnce (Ok given) p q s
entry_taken p q s w later C a (taken.Items batch) wanted h runs gave is entered sendable = record {
  once = record {
    same = a.same;
    number = a.number;
    found = a.found;
    begins = a.begins;
    own_is = a.own_is;
    comes = record {
      world = w;
      later = later;
      editor = is.editor;
      runs = runs;
      shows = is.shows;
      gave = gave ∙ ap (λ (e : Effect). becomes later e) (sym is.effect_is);
      entered = entered;
    };
  };
  sendable = sendable;
  sound = sound_shown is.editor batch.scene is.shows;
}
entry_taken p q s w later C a taken.Nothing wanted h runs gave is entered sendable = absurd (subst IsBatchGiven (sym is.effect_is) h)
entry_taken p q s w later C a (taken.Over cause) wanted h runs gave is entered sendable = absurd (subst IsBatchGiven (sym is.effect_is) h)

came_taken : (p q : WorldPass) (s : ℕ) (w : World) (C : Visit → Type 0) (a : AppliesOnce p q C) (given : Taken) → world_of_run p.start a.found ≡ Some w
    → GivesSendable (effect_of_taken given) → (o : Outcome) → step w (take_of s) ≡ o → IsTakeOutcome w s o
    → HasEffect (take_of s) (effect_of_taken given) (visit p q a.found) o → TakesOnce (Ok given) p q s
came_taken p q s w C a given runs sendable (refuses stop) is h k = absurd k
came_taken p q s w C a given runs sendable (idles wanted) is h k =
    let there : world_of_run q.start q.seen ≡ Some w = ap (λ (o : Option Start). world_of_run o q.seen) a.same.start ∙ ap (world_of_run p.start) k.1 ∙ runs in
    idle_taken p q s w given wanted h there k.0 (stays_once p q C a k.1)
came_taken p q s w C a given runs sendable (becomes later wanted) is h k =
    entry_taken p q s w later C a given wanted h runs is k.0 k.1 sendable

pub once_took : (p q : WorldPass) (s : ℕ) (met : Result Taken Untaken) → AppliesOnce p q (TakesWith met s) → TakesOnce met p q s
once_took p q s (Ok given) a =
    let d = a.comes.0 in
    came_taken p q s d.0 _ a given d.1 a.comes.1 (step d.0 (take_of s)) refl (take_outcomes d.0 s) d.2
once_took p q s (Err why) a = stays_once p q _ a a.comes
