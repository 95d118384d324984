-- What the events of the one session make of its history.
use Rattle.std.proofs.Common.{ℤ, ◌≡◌, ℕ, ◌+◌, ◌*◌, ◌<◌, ◌==◌, Bool, true, false, List, [], ◌∷◌, ◌++◌, length, map, Option, Some, None, refl, sym, ap, ◌∙◌, subst, arith, append_assoc}
use Rattle.std.proofs.lemmas.Bool.Decides.{nat_tests}
use Rattle.std.specs.Prelude.{nat_le, not, is_some, slice_get, slice_set, option_and_then, option_map}
use Rattle.std.proofs.lemmas.List.{append-nil}
use Rattle.nv_rpc.specs.Calls.{Call}
use Rattle.nv_rpc.specs.Messages.{Sent, detach_event}
use Rattle.nv_screen.specs.declared.scene.Scene.{Scene}
use Rattle.nv_model.specs.Editors.{ModelEditor}
use Rattle.nv_model.specs.Answers.{Fact, attached, detached, edited, deleted, quit}
use Rattle.nv_core.specs.declared.start.Start.{Start}
use Rattle.nv_history.specs.Events.{open_session, request_of, take_of, close_of, Entry, Event, Cause, closed_at, overflowed_at, quit_at, Effect, opened, done, gives, nothing, over, closes}
use Rattle.nv_history.specs.Sessions.{Session, fresh_session, session_told, session_with_message, session_told_if, session_joined, session_parted, session_parted_if, open_session_hears, unless_closed, session_hears, session_hears_all, session_replied, session_quit, session_quit_if, session_closed_by, shown_after, session_emptied, session_after_call, sessions_after_call, has_quit, reply_message, follows, with_following, without_following, first_message, splice_message}
use Rattle.nv_history.specs.Worlds.{World, Outcome, refuses, idles, becomes, fresh_world, session_of, with_session_at, world_ended_if, world_at_end, after_entry, after_settled_entry, outcome_of_frame, world_after_call, step, world_made, request_outcome, live_request_outcome, held_outcome, is_live, is_scene_due, is_nothing_due, take_outcome, session_take_outcome, some_take_outcome, empty_take_outcome, close_outcome, live_close_outcome}
use Rattle.nv_history.specs.Runs.{TakenBatch, run_from, rest_in, given, out_from}
use Rattle.nv_history.specs.Asking.{calls_of}
use Rattle.nv_history.specs.Solo.{entry_alone, entries_if, solo_rest, solo_with_take, solo_with_request, solo_with_close, solo_from}
use Rattle.nv_core.specs.Sessions.{cause_of}
use Rattle.nv_history.proofs.Staging.{at_end_sessions, at_end_room}
use Rattle.nv_session.specs.Sending.{world_after, batches_taken, history_of, cause_in, cause_after}
use Rattle.nv_session.specs.Ends.{IsFront}
use Rattle.nv_session.specs.inside.Worlds.{TakesDue}
use Rattle.nv_session.specs.inside.Alone.{Answers, IsUnanswered, IsNotClosed, IsCalled, HasNothingDue, IsAlone, IsClosing}
use Rattle.nv_session.proofs.Histories.{world_then, taken_then, asked_then}
use Rattle.nv_session.proofs.Sending.{sent_more, sent_same}

-- ---- no close of its own closes a session that hears of a call

closed_else : (x : Session) → x.closed ≡ None → IsNotClosed x
closed_else x e entry h = cc

overflowed_else : (at : ℕ) (x : Session) → IsNotClosed (session_closed_by (overflowed_at at) x)
overflowed_else at x entry h = cc

quit_else : (at : ℕ) (x : Session) → IsNotClosed (session_closed_by (quit_at at) x)
quit_else at x entry h = cc

message_else : (full : Bool) (at : ℕ) (message : Sent) (x : Session) → IsNotClosed x → IsNotClosed (session_with_message full at message x)
message_else true at message x h = overflowed_else at x
message_else false at message x h = h

told_else : (at capacity : ℕ) (message : Sent) (x : Session) → IsNotClosed x → IsNotClosed (session_told at capacity message x)
told_else at capacity message x h = message_else (length x.waiting == capacity) at message x h

told_if_else : (b : Bool) (at capacity : ℕ) (message : Sent) (x : Session) → IsNotClosed x → IsNotClosed (session_told_if b at capacity message x)
told_if_else true at capacity message x h = told_else at capacity message x h
told_if_else false at capacity message x h = h

joined_else : (own there : Bool) (at capacity : ℕ) (n : ℤ) (message : Sent) (x : Session) → IsNotClosed x → IsNotClosed (session_joined own there at capacity n message x)
joined_else true false at capacity n message x h = told_else at capacity message (with_following n x) h
joined_else true true at capacity n message x h = h
joined_else false there at capacity n message x h = h

parted_else : (there : Bool) (at capacity : ℕ) (n : ℤ) (x : Session) → IsNotClosed x → IsNotClosed (session_parted there at capacity n x)
parted_else true at capacity n x h = told_else at capacity (detach_event n) (without_following n x) h
parted_else false at capacity n x h = h

parted_if_else : (own there : Bool) (at capacity : ℕ) (n : ℤ) (x : Session) → IsNotClosed x → IsNotClosed (session_parted_if own there at capacity n x)
parted_if_else true there at capacity n x h = parted_else there at capacity n x h
parted_if_else false there at capacity n x h = h

open_hears_else : (at capacity : ℕ) (own : Bool) (fact : Fact) (x : Session) → IsNotClosed x → IsNotClosed (open_session_hears at capacity own fact x)
open_hears_else at capacity own (attached n tick whole) x h = joined_else own (follows n x) at capacity n (first_message n tick whole) x h
open_hears_else at capacity own (detached n) x h = parted_if_else own (follows n x) at capacity n x h
open_hears_else at capacity own (edited n told) x h = told_if_else (follows n x) at capacity (splice_message n told) x h
open_hears_else at capacity own (deleted n) x h = parted_else (follows n x) at capacity n x h
open_hears_else at capacity own quit x h = h

unless_else : (c : Option Cause) (later x : Session) → IsNotClosed later → IsNotClosed x → IsNotClosed (unless_closed c later x)
unless_else None later x p h = p
unless_else (Some cause) later x p h = h

hears_all_else : (at capacity : ℕ) (own : Bool) (facts : List Fact) (x : Session) → IsNotClosed x → IsNotClosed (session_hears_all at capacity own facts x)
hears_all_else at capacity own [] x h = h
hears_all_else at capacity own (fact ∷ facts) x h =
    hears_all_else at capacity own facts (session_hears at capacity own fact x)
    (unless_else x.closed (open_session_hears at capacity own fact x) x (open_hears_else at capacity own fact x h) h)

replied_else : (own : Bool) (at capacity : ℕ) (answer : Option Sent) (x : Session) → IsNotClosed x → IsNotClosed (session_replied own at capacity answer x)
replied_else true at capacity (Some message) x h = unless_else x.closed (session_told at capacity message x) x (told_else at capacity message x h) h
replied_else true at capacity None x h = h
replied_else false at capacity answer x h = h

quit_if_else : (b : Bool) (at : ℕ) (x : Session) → IsNotClosed x → IsNotClosed (session_quit_if b at x)
quit_if_else true at x h = unless_else x.closed (session_closed_by (quit_at at) x) x (quit_else at x) h
quit_if_else false at x h = h

after_call_else : (at capacity : ℕ) (own : Bool) (facts : List Fact) (answer : Option Sent) (x : Session) → IsNotClosed x → IsNotClosed (session_after_call at capacity own facts answer x)
after_call_else at capacity own facts answer x h =
    quit_if_else (has_quit facts) at (session_replied own at capacity answer (session_hears_all at capacity own facts x))
    (replied_else own at capacity answer (session_hears_all at capacity own facts x) (hears_all_else at capacity own facts x h))

-- ---- the one session of a world after an entry

first_after : (at capacity : ℕ) (facts : List Fact) (answer : Option Sent) (xs : List Session) (x : Session) → slice_get xs 0 ≡ Some x
    → slice_get (sessions_after_call at capacity 1 1 facts answer xs) 0 ≡ Some (session_after_call at capacity true facts answer x)
first_after at capacity facts answer [] x e = cc
first_after at capacity facts answer (y ∷ ys) x e =
    let same : y ≡ x = cc in
    ap (λ (z : Session). Some (session_after_call at capacity true facts answer z)) same

pub first_put : (xs : List Session) (x y : Session) → slice_get xs 0 ≡ Some x → slice_get (slice_set xs 0 y) 0 ≡ Some y
first_put [] x y e = cc
first_put (z ∷ zs) x y e = refl

first_mapped : (at : ℕ) (xs : List Session) (x : Session) → slice_get xs 0 ≡ Some x → slice_get (map (session_quit at) xs) 0 ≡ Some (session_quit at x)
first_mapped at [] x e = cc
first_mapped at (y ∷ ys) x e = let same : y ≡ x = cc in ap (λ (z : Session). Some (session_quit at z)) same

ended_one : (b : Bool) (w : World) (x : Session) → session_of w 1 ≡ Some x → session_of (world_ended_if b w) 1 ≡ Some (session_quit_if b w.entries x)
ended_one true w x e = first_mapped w.entries w.sessions x e
ended_one false w x e = e

-- whether an entry is the last one
abbrev pub is_last : World → Bool
is_last w = w.entries + 1 == w.limits.entries

pub at_end_one : (is_seen : Bool) (w : World) (x : Session) → session_of w 1 ≡ Some x → session_of (world_at_end is_seen w) 1 ≡ Some (session_quit_if (is_last w) w.entries x)
at_end_one is_seen w x e = ap (λ (xs : List Session). slice_get xs 0) (at_end_sessions is_seen w) ∙ ended_one (is_last w) w x e

quit_waiting : (b : Bool) (at : ℕ) (x : Session) → (session_quit_if b at x).waiting ≡ x.waiting
quit_waiting true at x = unless_waiting x.closed
  where
    unless_waiting : (c : Option Cause) → (unless_closed c (session_closed_by (quit_at at) x) x).waiting ≡ x.waiting
    unless_waiting None = refl
    unless_waiting (Some cause) = refl
quit_waiting false at x = refl

-- ---- each event of the session

-- the world after a call of the session
abbrev pub called_world : World → Call → World
called_world w call = after_settled_entry (outcome_of_frame w.editor 1 call).is_seen (world_after_call w 1 call (outcome_of_frame w.editor 1 call))

-- an outbox has room for a message, where it is empty
has_room : (capacity : ℕ) → 0 < capacity → nat_le capacity 0 ≡ false
has_room capacity h = grind (arith, nat_tests)

pub request_enters : (w : World) (x : Session) (call : Call) → session_of w 1 ≡ Some x → x.closed ≡ None → x.waiting ≡ [] → 0 < w.capacity
    → step w (request_of 1 call) ≡ becomes (called_world w call) done
request_enters w x call there live idle room =
    let held : nat_le w.capacity (2 * length x.waiting) ≡ false =
    ap (λ (l : List Sent). nat_le w.capacity (2 * length l)) idle ∙ has_room w.capacity room in
    ap (λ (o : Option Session). request_outcome o w 1 call) there
    ∙ ap (λ (c : Option Cause). live_request_outcome c w 1 x call) live
    ∙ ap (λ (b : Bool). held_outcome b w 1 x call) held

-- the session after a take, and the world
abbrev pub taken_session : World → Session → Session
taken_session w x = session_emptied (shown_after (is_scene_due w 1 x) w.stamp x.shown) x

abbrev pub taken_world : World → Session → World
taken_world w x = after_entry (with_session_at w 1 (taken_session w x))

take_is : (w : World) (x : Session) → session_of w 1 ≡ Some x → step w (take_of 1) ≡ session_take_outcome (is_scene_due w 1 x) w 1 x
take_is w x there = ap (λ (o : Option Session). take_outcome o w 1) there

-- a take that gives something makes this world
gave_all : (ms : List Sent) (editor : Option ModelEditor) (none scene : Bool) (w u : World) (x : Session) → some_take_outcome none scene w 1 x ≡ becomes u (gives ms editor)
    → u ≡ after_entry (with_session_at w 1 (session_emptied (shown_after scene w.stamp x.shown) x))
gave_all ms editor true scene w u x e = gave_none x.closed e
  where
    gave_none : (c : Option Cause) → empty_take_outcome c ≡ becomes u (gives ms editor) → u ≡ after_entry (with_session_at w 1 (session_emptied (shown_after scene w.stamp x.shown) x))
    gave_none None e = cc
    gave_none (Some cause) e = cc
gave_all ms editor false scene w u x e = cc

-- a take that makes no entry finds nothing
gave_nothing : (effect : Effect) (none scene : Bool) (w : World) (x : Session) → some_take_outcome none scene w 1 x ≡ idles effect → none ≡ true
gave_nothing effect true scene w x e = refl
gave_nothing effect false scene w x e = cc

nothing_waits : (waiting : List Sent) (scene : Bool) → is_nothing_due waiting scene ≡ true → waiting ≡ []
nothing_waits [] scene e = refl
nothing_waits (m ∷ rest) scene e = cc

-- ---- the history of the session

none_in : (o : Option World) → rest_in {A = TakenBatch} (λ v. []) o ≡ []
none_in None = refl
none_in (Some v) = refl

-- one more event, in the world after a history
abbrev pub with_event : List Entry → Event → List Entry
with_event h event = h ++ entry_alone event ∷ []

pub world_with : (start : Start) (h : List Entry) (event : Event) (w v : World) (effect : Effect) → world_after start h ≡ Some w → step w event ≡ becomes v effect → world_after start (with_event h event) ≡ Some v
world_with start h event w v effect runs e =
    world_then start w h (entry_alone event ∷ []) runs
    ∙ ap (λ (o : Outcome). option_and_then (λ (u : World). run_from u []) (world_made o)) e

-- a call was made: what was taken stays
pub request_taken : (start : Start) (h : List Entry) (call : Call) (w : World) → world_after start h ≡ Some w → batches_taken start (with_event h (request_of 1 call)) ≡ batches_taken start h
request_taken start h call w runs =
    taken_then start w h (entry_alone (request_of 1 call) ∷ []) runs
    ∙ ap (λ (l : List TakenBatch). batches_taken start h ++ l) (none_in (world_made (step w (request_of 1 call))))
    ∙ append-nil (batches_taken start h)

pub request_asked : (h : List Entry) (call : Call) → calls_of 1 (with_event h (request_of 1 call)) ≡ calls_of 1 h ++ call ∷ []
request_asked h call = asked_then h (entry_alone (request_of 1 call) ∷ [])

pub requested : (start : Start) (h : List Entry) (call : Call) → IsAlone start h → IsCalled start (with_event h (request_of 1 call))
requested start h call a =
    let s = a.nothing_due in
    let w = s.now in
    let v = called_world w call in
    let o = outcome_of_frame w.editor 1 call in
    let called = world_after_call w 1 call o in
    let enters = request_enters w s.one call s.there a.live s.idle s.capacity in
    let answer = reply_message call o.result in
    let one : session_of called 1 ≡ Some (session_after_call w.entries w.capacity true o.facts answer s.one) =
    first_after w.entries w.capacity o.facts answer w.sessions s.one s.there in
    let told = session_after_call w.entries w.capacity true o.facts answer s.one in
    record {
      now = v;
      runs = world_with start h (request_of 1 call) w v done s.runs enters;
      one = session_quit_if (is_last called) called.entries told;
      there = at_end_one o.is_seen called told one;
      others = quit_if_else (is_last called) called.entries told (after_call_else w.entries w.capacity true o.facts answer s.one (closed_else s.one a.live));
      capacity = subst (λ (n : ℕ). 0 < n) (sym (at_end_room o.is_seen called)) s.capacity;
      goes = λ rest.
          let k : World → List Entry = λ u. solo_from u rest in
          let live : is_live (session_of w 1) ≡ true = ap is_live s.there ∙ ap (λ (c : Option Cause). not (is_some c)) a.live in
          append_assoc h (entry_alone (request_of 1 call) ∷ []) (solo_with_take k v (step v (take_of 1)))
          ∙ ap (λ (o : Outcome). h ++ solo_with_request call k o) (sym enters)
          ∙ ap (λ (b : Bool). h ++ entries_if b (solo_from w (call ∷ rest))) (sym live)
          ∙ s.goes (call ∷ rest)
          ∙ ap (history_of start) (sym (append_assoc (calls_of 1 h) (call ∷ []) rest))
          ∙ ap (λ (cs : List Call). history_of start (cs ++ rest)) (sym (request_asked h call));
    }

-- ---- what was due was taken

-- the batch of messages and an editor
abbrev pub batch_with : List Sent → Option ModelEditor → TakenBatch
batch_with ms editor = record { messages = ms; editor = editor }

take_given : (o : Outcome) (u : World) (ms : List Sent) (editor : Option ModelEditor) → o ≡ becomes u (gives ms editor) → given 1 (take_of 1) o ++ rest_in (λ v. []) (world_made o) ≡ batch_with ms editor ∷ []
take_given o u ms editor e = ap (λ (p : Outcome). given 1 (take_of 1) p ++ rest_in (λ v. []) (world_made p)) e

-- what a take gave is what was taken
pub take_taken : (start : Start) (h : List Entry) (w u : World) (ms : List Sent) (editor : Option ModelEditor) → world_after start h ≡ Some w → step w (take_of 1) ≡ becomes u (gives ms editor)
    → batches_taken start (with_event h (take_of 1)) ≡ batches_taken start h ++ batch_with ms editor ∷ []
take_taken start h w u ms editor runs e =
    taken_then start w h (entry_alone (take_of 1) ∷ []) runs ∙ ap (λ (l : List TakenBatch). batches_taken start h ++ l) (take_given (step w (take_of 1)) u ms editor e)

pub take_asked : (h : List Entry) → calls_of 1 (with_event h (take_of 1)) ≡ calls_of 1 h
take_asked h = asked_then h (entry_alone (take_of 1) ∷ []) ∙ append-nil (calls_of 1 h)

pub taken_rests : (start : Start) (h : List Entry) (c : IsCalled start h) (u : World) (ms : List Sent) (editor : Option ModelEditor) → step c.now (take_of 1) ≡ becomes u (gives ms editor) → HasNothingDue start (with_event h (take_of 1))
taken_rests start h c u ms editor e =
    let w = c.now in
    let x = taken_session w c.one in
    let put = with_session_at w 1 x in
    let due = is_scene_due w 1 c.one in
    let same : u ≡ taken_world w c.one = gave_all ms editor (is_nothing_due c.one.waiting due) due w u c.one (sym (take_is w c.one c.there) ∙ e) in
    let there : session_of put 1 ≡ Some x = first_put w.sessions c.one x c.there in
    record {
      now = u;
      runs = world_with start h (take_of 1) w u (gives ms editor) c.runs e;
      one = session_quit_if (is_last put) put.entries x;
      there = ap (λ (v : World). session_of v 1) same ∙ at_end_one false put x there;
      others = quit_if_else (is_last put) put.entries x c.others;
      idle = quit_waiting (is_last put) put.entries x;
      capacity = subst (λ (n : ℕ). 0 < n) (sym (ap (λ (v : World). v.capacity) same ∙ at_end_room false put)) c.capacity;
      goes = λ rest.
          let k : World → List Entry = λ v. solo_from v rest in
          append_assoc h (entry_alone (take_of 1) ∷ []) (solo_rest k u)
          ∙ ap (λ (o : Outcome). h ++ solo_with_take k w o) (sym e)
          ∙ c.goes rest
          ∙ ap (λ (cs : List Call). history_of start (cs ++ rest)) (sym (take_asked h));
    }

-- nothing was due
pub idle_rests : (start : Start) (h : List Entry) (c : IsCalled start h) (effect : Effect) → step c.now (take_of 1) ≡ idles effect → HasNothingDue start h
idle_rests start h c effect e = record {
  now = c.now;
  runs = c.runs;
  one = c.one;
  there = c.there;
  others = c.others;
  idle =
      let due = is_scene_due c.now 1 c.one in
      nothing_waits c.one.waiting due (gave_nothing effect (is_nothing_due c.one.waiting due) due c.now c.one (sym (take_is c.now c.one c.there) ∙ e));
  capacity = c.capacity;
  goes = λ rest. ap (λ (o : Outcome). h ++ solo_with_take (λ v. solo_from v rest) c.now o) (sym e) ∙ c.goes rest;
}

-- ---- whether it goes on

-- what closed the session, if anything has
pub cause_is : (start : Start) (h : List Entry) (s : HasNothingDue start h) → cause_after start h ≡ s.one.closed
cause_is start h s = ap cause_in s.runs ∙ ap cause_of s.there

pub alone_if : (start : Start) (h : List Entry) → HasNothingDue start h → cause_after start h ≡ None → IsAlone start h
alone_if start h s e = record { nothing_due = s; live = sym (cause_is start h s) ∙ e }

pub not_own : (start : Start) (h : List Entry) (entry : ℕ) → HasNothingDue start h → cause_after start h ≡ Some (closed_at entry) → ⊥
not_own start h entry s e = s.others entry (sym (cause_is start h s) ∙ e)

pub live_if : (start : Start) (h : List Entry) (s : HasNothingDue start h) (c : Option Cause) → s.one.closed ≡ c → is_live (session_of s.now 1) ≡ not (is_some c)
live_if start h s c e = ap is_live s.there ∙ ap (λ (d : Option Cause). not (is_some d)) e

-- it was closed, so nothing follows, whatever calls do
pub whatever : (start : Start) (h : List Entry) (s : HasNothingDue start h) (cause : Cause) → cause_after start h ≡ Some cause → (more : List Call) → h ≡ history_of start (calls_of 1 h ++ more)
whatever start h s cause e more =
    let closed : s.one.closed ≡ Some cause = sym (cause_is start h s) ∙ e in
    sym (append-nil h)
    ∙ ap (λ (b : Bool). h ++ entries_if b (solo_from s.now more)) (sym (live_if start h s (Some cause) closed))
    ∙ s.goes more

-- ---- its close

pub close_is : (w : World) (x : Session) → session_of w 1 ≡ Some x → step w (close_of 1) ≡ live_close_outcome x.closed w 1 x
close_is w x there = ap (λ (o : Option Session). close_outcome o w 1) there

pub close_if : (start : Start) (h : List Entry) (s : HasNothingDue start h) (c : Option Cause) → s.one.closed ≡ c → h ++ solo_with_close (step s.now (close_of 1)) ≡ history_of start (calls_of 1 h ++ [])
close_if start h s None e =
    ap (λ (b : Bool). h ++ entries_if b (solo_from s.now [])) (sym (live_if start h s None e)) ∙ s.goes []
close_if start h s (Some cause) e =
    ap (λ (o : Outcome). h ++ solo_with_close o) (close_is s.now s.one s.there ∙ ap (λ (c : Option Cause). live_close_outcome c s.now 1 s.one) e)
    ∙ ap (λ (b : Bool). h ++ entries_if b (solo_from s.now [])) (sym (live_if start h s (Some cause) e)) ∙ s.goes []

abbrev pub closing : (start : Start) (h : List Entry) → HasNothingDue start h → IsClosing start (calls_of 1 h) h
closing start h s = record {
  now = s.now;
  runs = s.runs;
  asked = refl;
  ends = close_if start h s s.one.closed refl ∙ ap (history_of start) (append-nil (calls_of 1 h));
}

-- a close gives nothing, and is no call
closed_gives : (w : World) (o : Outcome) → out_from w 1 (solo_with_close o) ≡ []
closed_gives w (becomes v effect) = none_in (world_made (step w (close_of 1)))
closed_gives w (idles effect) = refl
closed_gives w (refuses stop) = refl

closed_asks : (o : Outcome) → calls_of 1 (solo_with_close o) ≡ []
closed_asks (becomes v effect) = refl
closed_asks (idles effect) = refl
closed_asks (refuses stop) = refl

gives_if : (b : Bool) (w : World) → out_from w 1 (entries_if b (solo_with_close (step w (close_of 1)))) ≡ []
gives_if true w = closed_gives w (step w (close_of 1))
gives_if false w = refl

-- a session that makes no call is sent nothing
pub nothing_sent : (start : Start) → batches_taken start (history_of start []) ≡ []
nothing_sent start =
    let v = after_entry (record (fresh_world start.outbox start.limits) { sessions = fresh_session ∷ [] }) in
    gives_if (is_live (session_of v 1)) v

-- a history and its session's close
pub closed_taken : (start : Start) (calls : List Call) (h : List Entry) (c : IsClosing start calls h) → batches_taken start (history_of start calls) ≡ batches_taken start h
closed_taken start calls h c =
    ap (batches_taken start) (sym c.ends)
    ∙ taken_then start c.now h (solo_with_close (step c.now (close_of 1))) c.runs
    ∙ ap (λ (l : List TakenBatch). batches_taken start h ++ l) (closed_gives c.now (step c.now (close_of 1)))
    ∙ append-nil (batches_taken start h)

pub closed_asked : (start : Start) (calls : List Call) (h : List Entry) (c : IsClosing start calls h) → calls_of 1 (history_of start calls) ≡ calls
closed_asked start calls h c =
    ap (calls_of 1) (sym c.ends)
    ∙ asked_then h (solo_with_close (step c.now (close_of 1)))
    ∙ ap (λ (l : List Call). calls_of 1 h ++ l) (closed_asks (step c.now (close_of 1)))
    ∙ append-nil (calls_of 1 h) ∙ c.asked

-- the world once its session has closed itself
closed_world : (start : Start) (h : List Entry) → IsAlone start h → World
closed_world start h a = after_settled_entry false (with_session_at a.nothing_due.now 1 (session_closed_by (closed_at a.nothing_due.now.entries) a.nothing_due.one))

quit_stays : (b : Bool) (at : ℕ) (cause : Cause) (x : Session) → x.closed ≡ Some cause → (session_quit_if b at x).closed ≡ Some cause
quit_stays true at cause x e = ap (λ (c : Option Cause). (unless_closed c (session_closed_by (quit_at at) x) x).closed) e ∙ e
quit_stays false at cause x e = e

close_enters : (start : Start) (h : List Entry) (a : IsAlone start h) → step a.nothing_due.now (close_of 1) ≡ becomes (closed_world start h a) closes
unfolding closed_world
close_enters start h a =
    close_is a.nothing_due.now a.nothing_due.one a.nothing_due.there
    ∙ ap (λ (c : Option Cause). live_close_outcome c a.nothing_due.now 1 a.nothing_due.one) a.live

-- its own close closes it
pub closed_itself : (start : Start) (h : List Entry) (a : IsAlone start h) → cause_after start (history_of start (calls_of 1 h)) ≡ Some (closed_at a.nothing_due.now.entries)
unfolding closed_world
closed_itself start h a =
    let s = a.nothing_due in
    let w = s.now in
    let x = session_closed_by (closed_at w.entries) s.one in
    let put = with_session_at w 1 x in
    let there : session_of put 1 ≡ Some x = first_put w.sessions s.one x s.there in
    let enters = close_enters start h a in
    ap (cause_after start) (sym (closing start h s).ends)
    ∙ ap (λ (o : Outcome). cause_after start (h ++ solo_with_close o)) enters
    ∙ ap cause_in (world_with start h (close_of 1) w (closed_world start h a) closes s.runs enters)
    ∙ ap cause_of (at_end_one false put x there)
    ∙ quit_stays (is_last put) put.entries (closed_at w.entries) x refl

-- ---- fronts of whole histories

pub called_front : (start : Start) (h : List Entry) → IsCalled start h → IsFront start (calls_of 1 h) h
called_front start h c =
    (solo_with_take (λ v. solo_from v []) c.now (step c.now (take_of 1)), ap (history_of start) (sym (append-nil (calls_of 1 h))) ∙ sym (c.goes []))

pub rest_front : (start : Start) (h : List Entry) → HasNothingDue start h → IsFront start (calls_of 1 h) h
rest_front start h s =
    (solo_rest (λ v. solo_from v []) s.now, ap (history_of start) (sym (append-nil (calls_of 1 h))) ∙ sym (s.goes []))

pub alone_front : (start : Start) (h : List Entry) (calls : List Call) → IsAlone start h → IsFront start (calls_of 1 h ++ calls) h
alone_front start h calls a = (solo_rest (λ v. solo_from v calls) a.nothing_due.now, sym (a.nothing_due.goes calls))

-- ---- its opening

pub opened_rests : (start : Start) → 0 < start.outbox → HasNothingDue start (entry_alone open_session ∷ [])
opened_rests start room =
    let w = fresh_world start.outbox start.limits in
    let one = record w { sessions = fresh_session ∷ [] } in
    record {
      now = after_entry one;
      runs = refl;
      one = session_quit_if (is_last one) 0 fresh_session;
      there = at_end_one false one fresh_session refl;
      others = quit_if_else (is_last one) 0 fresh_session (closed_else fresh_session refl);
      idle = quit_waiting (is_last one) 0 fresh_session;
      capacity = subst (λ (n : ℕ). 0 < n) (sym (at_end_room false one)) room;
      goes = λ rest. refl;
    }

pub opened_taken : (start : Start) → batches_taken start (entry_alone open_session ∷ []) ≡ []
opened_taken start = refl

-- ---- a call, and what it made due

-- a call that wasn't made
pub unmade : (start : Start) (h : List Entry) (call : Call) → IsAlone start h → IsUnanswered start call h h
unmade start h call a = record {
  has = record { now = a.nothing_due.now; runs = a.nothing_due.runs; one = a.nothing_due.one; there = a.nothing_due.there };
  front = alone_front start h (call ∷ []) a;
  taken = refl;
}

-- a call that was made, when what it made due wasn't taken
pub untaken : (start : Start) (h : List Entry) (call : Call) → IsAlone start h → IsUnanswered start call h (h ++ entry_alone (request_of 1 call) ∷ [])
untaken start h call a =
    let c = requested start h call a in
    record {
      has = record { now = c.now; runs = c.runs; one = c.one; there = c.there };
      front = subst (λ (l : List Call). IsFront start l (with_event h (request_of 1 call))) (request_asked h call) (called_front start (with_event h (request_of 1 call)) c);
      taken = request_taken start h call a.nothing_due.now a.nothing_due.runs;
    }

-- a call that was made, and what it made due was taken
taken_by : (start : Start) (h k : List Entry) (call : Call) (messages : List Sent) (scene : Option Scene) (a : IsAlone start h) (o : Outcome) → step (requested start h call a).now (take_of 1) ≡ o
    → TakesDue messages scene (with_event h (request_of 1 call)) k (Some o) → Answers start call messages scene h k
taken_by start h k call messages scene a (becomes u (gives given editor)) e t =
    let c = requested start h call a in
    let m = with_event h (request_of 1 call) in
    let is : step c.now (take_of 1) ≡ becomes u (gives messages editor) = e ∙ ap (λ (l : List Sent). becomes u (gives l editor)) (sym t.0.0) in
    let n = with_event m (take_of 1) in
    let taken : batches_taken start n ≡ batches_taken start h ++ batch_with messages editor ∷ [] =
    take_taken start m c.now u messages editor c.runs is
    ∙ ap (λ (l : List TakenBatch). l ++ batch_with messages editor ∷ []) (request_taken start h call a.nothing_due.now a.nothing_due.runs) in
    subst (λ (l : List Entry). Answers start call messages scene h l) (sym t.1) (record {
      nothing_due = taken_rests start m c u messages editor is;
      asked = take_asked m ∙ request_asked h call;
      sent = sent_more start h n (batch_with messages editor) scene taken t.0.1;
    })
taken_by start h k call messages scene a (idles effect) e t =
    let c = requested start h call a in
    let m = with_event h (request_of 1 call) in
    subst (λ (l : List Entry). Answers start call messages scene h l) (sym t.2) (record {
      nothing_due = idle_rests start m c effect e;
      asked = request_asked h call;
      sent = sent_same start h m messages scene t.0 t.1 (request_taken start h call a.nothing_due.now a.nothing_due.runs);
    })
taken_by start h k call messages scene a (refuses stop) e t = absurd t
taken_by start h k call messages scene a (becomes u (opened s)) e t = absurd t.0
taken_by start h k call messages scene a (becomes u done) e t = absurd t.0
taken_by start h k call messages scene a (becomes u nothing) e t = absurd t.0
taken_by start h k call messages scene a (becomes u (over cause)) e t = absurd t.0
taken_by start h k call messages scene a (becomes u closes) e t = absurd t.0

pub answered : (start : Start) (h k : List Entry) (call : Call) (messages : List Sent) (scene : Option Scene) → IsAlone start h
    → TakesDue messages scene (with_event h (request_of 1 call)) k (option_map (λ w. step w (take_of 1)) (world_after start (with_event h (request_of 1 call)))) → Answers start call messages scene h k
answered start h k call messages scene a t =
    let c = requested start h call a in
    let m = with_event h (request_of 1 call) in
    taken_by start h k call messages scene a (step c.now (take_of 1)) refl
    (subst (λ (o : Option World). TakesDue messages scene m k (option_map (λ w. step w (take_of 1)) o)) c.runs t)
