-- What is kept of a session, and of what it was given, along a run in which it makes no call.
use Rattle.std.proofs.Common.{◌≡◌, ◌≢◌, ℕ, zero, suc, ◌+◌, List, [], ◌∷◌, ◌++◌, refl, ap, sym, ◌∙◌, subst, append_assoc, append-nil, arith, slice_get, slice_set, Bool, true, false, Option, Some, None}
use Rattle.std.specs.Prelude.{option_map, option_and_then, ◌==◌}
use Rattle.std.proofs.lemmas.Option.{none-some, same_Some, slice_get-map}
use Rattle.std.proofs.lemmas.Bool.Decides.{nat_tests}
use Rattle.nv_rpc.specs.Calls.{Call}
use Rattle.nv_rpc.specs.Messages.{Sent}
use Rattle.nv_model.specs.Answers.{Fact}
use Rattle.nv_history.specs.Asking.{call_if, calls_in, calls_of}
use Rattle.nv_history.specs.Events.{Event, open_session, request_of, take_of, close_of, Entry, Cause, closed_at}
use Rattle.nv_history.specs.Sessions.{Session, fresh_session, session_closed_by, shown_after, session_emptied, session_quit, session_after_call, reply_message}
use Rattle.nv_history.specs.Worlds.{World, session_of, with_session_at, world_ended_if, after_entry, after_settled_entry, outcome_of_frame, world_after_call, is_scene_due, is_nothing_due, editor_due, empty_take_outcome, some_take_outcome, take_outcome, step, world_made}
use Rattle.nv_history.specs.Runs.{TakenBatch, run_from, rest_in, batch_if, batch_of, given, out_from, all_messages}
use Rattle.nv_history.proofs.FoldRuns.{messages-append}
use Rattle.nv_history.proofs.Makings.{IsCalled, IsClosedNow, Makes, step_makes}
use Rattle.nv_history.proofs.Places.{set_here, set_there, get_push, get_after_call}
use Rattle.nv_history.proofs.Staging.{at_end_sessions, world_then}

-- lists that are empty together
both_empty : (a b : List Call) → a ++ b ≡ [] → (a ≡ []) × (b ≡ [])
both_empty [] b e = (refl, e)
both_empty (c ∷ cs) b e = absurd (not_empty c (cs ++ b) e)
  where
    not_empty : (c : Call) (cs : List Call) → c ∷ cs ≡ [] → ⊥
    not_empty c cs e = cc

not_own : (b : Bool) (call : Call) → call_if b call ≡ [] → b ≡ false
not_own true call e = absurd (some_call call e)
  where
    some_call : (call : Call) → call ∷ [] ≡ [] → ⊥
    some_call call e = cc
not_own false call e = refl

other_number : (i t : ℕ) → (t == suc i) ≡ false → ((1 + i) == t) ≡ false
other_number i t e = grind (arith, nat_tests)

pub own_number : (i : ℕ) → ((1 + i) == suc i) ≡ true
own_number i = grind (arith, nat_tests)

-- ---- what holds of worlds after each entry, and then of the facts of each call
pub record KnowsFacts (F : List Fact → Type 0) (P : World → Type 0) : Type 0 where
  pub entries : (w v : World) (event : Event) → P w → Makes w event v → P v
  pub facts : (w : World) (s : ℕ) (call : Call) → P w → F (outcome_of_frame w.editor s call).facts

-- ---- what a relation of what was given and the session at a place keeps
-- the end of an entry leaves it
pub record IsKeptByEnds (Q : List Sent → Option Session → Type 0) : Type 0 where
  pub quits : (o : List Sent) (at : ℕ) (x : Session) → Q o (Some x) → Q o (Some (session_quit at x))

-- and so does each event but a call of its own
pub record IsKept (Q : List Sent → Option Session → Type 0) (F : List Fact → Type 0) : Type 0 where
  pub ends : IsKeptByEnds Q
  pub opens : (o : List Sent) → Q o None → Q o (Some fresh_session)
  pub hears : (o : List Sent) (at capacity : ℕ) (facts : List Fact) (answer : Option Sent) (x : Session) → F facts → Q o (Some x) → Q o (Some (session_after_call at capacity false facts answer x))
  pub closes : (o : List Sent) (cause : Cause) (x : Session) → Q o (Some x) → Q o (Some (session_closed_by cause x))
  pub takes : (o : List Sent) (stamp : ℕ) (x : Session) → Q o (Some x) → Q (o ++ x.waiting) (Some (session_emptied stamp x))

module _ (Q : List Sent → Option Session → Type 0) (F : List Fact → Type 0) (P : World → Type 0) (kept : IsKept Q F) (knows : KnowsFacts F P) (i : ℕ) where
  by_map : (o : List Sent) (f : Session → Session) (x : Option Session) → ((y : Session) → Q o (Some y) → Q o (Some (f y))) → Q o x → Q o (option_map f x)
  by_map o f None keeps h = h
  by_map o f (Some y) keeps h = keeps y h

  ended : (o : List Sent) (w : World) (b : Bool) → Q o (slice_get w.sessions i) → Q o (slice_get (world_ended_if b w).sessions i)
  ended o w true h =
      subst (λ (x : Option Session). Q o x) (sym (slice_get-map (session_quit w.entries) w.sessions i))
      (by_map o (session_quit w.entries) (slice_get w.sessions i) (λ y k. kept.ends.quits o w.entries y k) h)
  ended o w false h = h

  at_end : (o : List Sent) (w v : World) → v.sessions ≡ (world_then w).sessions → Q o (slice_get w.sessions i) → Q o (slice_get v.sessions i)
  at_end o w v same h =
      subst (λ (xs : List Session). Q o (slice_get xs i)) (sym same) (ended o w (w.entries + 1 == w.limits.entries) h)

  by_entry : (o : List Sent) (u v : World) → v ≡ after_entry u → Q o (slice_get u.sessions i) → Q o (slice_get v.sessions i)
  by_entry o u v e h = subst (λ (x : World). Q o (slice_get x.sessions i)) (sym e) (at_end o u (after_entry u) (at_end_sessions false u) h)

  pub by_settled_entry : (o : List Sent) (is_seen : Bool) (u v : World) → v ≡ after_settled_entry is_seen u → Q o (slice_get u.sessions i) → Q o (slice_get v.sessions i)
  by_settled_entry o is_seen u v e h =
      subst (λ (x : World). Q o (slice_get x.sessions i)) (sym e) (at_end o u (after_settled_entry is_seen u) (at_end_sessions is_seen u) h)

  -- nothing more was given
  pub more_given : (o : List Sent) (x : Option Session) → Q o x → Q (o ++ []) x
  more_given o x h = subst (λ (ms : List Sent). Q ms x) (sym (append-nil o)) h

  opened : (o : List Sent) (w v : World) → Makes w open_session v → Q o (slice_get w.sessions i) → Q o (slice_get v.sessions i)
  opened o w v made h =
      by_entry o (record w { sessions = w.sessions ++ fresh_session ∷ [] }) v made
      (get_push (λ (x : Option Session). Q o x) w.sessions fresh_session i (λ e. kept.opens o (subst (λ (x : Option Session). Q o x) e h)) h)

  -- a session by its place, with another in the place of one
  set_at : (o : List Sent) (w : World) (s : ℕ) (x y : Session) → session_of w s ≡ Some x → (Q o (Some x) → Q o (Some y)) → Q o (slice_get w.sessions i) → Q o (slice_get (with_session_at w s y).sessions i)
  set_at o w zero x y e keeps h = h
  set_at o w (suc p) x y e keeps h = by_place (p == i) refl
    where
      by_place : (b : Bool) → (p == i) ≡ b → Q o (slice_get (slice_set w.sessions p y) i)
      by_place true f =
          let here : p ≡ i = grind (arith, nat_tests) in
          subst (λ (j : ℕ). Q o (slice_get w.sessions j) → Q o (slice_get (slice_set w.sessions p y) j)) here
          (λ k. subst (λ (z : Option Session). Q o z) (sym (set_here w.sessions p x y e)) (keeps (subst (λ (z : Option Session). Q o z) e k))) h
      by_place false f =
          let apart : p ≢ i = λ (k : p ≡ i). grind (arith, nat_tests) in
          subst (λ (z : Option Session). Q o z) (sym (set_there w.sessions p i y apart)) h

  closed : (o : List Sent) (w v : World) (s : ℕ) → IsClosedNow w s v → Q o (slice_get w.sessions i) → Q o (slice_get v.sessions i)
  closed o w v s made h =
      let y = session_closed_by (closed_at w.entries) made.session in
      by_settled_entry o false (with_session_at w s y) v made.made (set_at o w s made.session y made.there (λ k. kept.closes o (closed_at w.entries) made.session k) h)

  -- a call of another session
  called : (o : List Sent) (w v : World) (t : ℕ) (call : Call) → (t == suc i) ≡ false → IsCalled w t call v → P w → Q o (slice_get w.sessions i) → Q o (slice_get v.sessions i)
  called o w v t call apart made known h =
      let c = outcome_of_frame w.editor t call in
      by_settled_entry o c.is_seen (world_after_call w t call c) v made.made
      (subst (λ (x : Option Session). Q o x) (sym (get_after_call w.entries w.capacity t 1 c.facts (reply_message call c.result) w.sessions i))
      (subst (λ (b : Bool). Q o (option_map (session_after_call w.entries w.capacity b c.facts (reply_message call c.result)) (slice_get w.sessions i))) (sym (other_number i t apart))
      (by_map o (session_after_call w.entries w.capacity false c.facts (reply_message call c.result)) (slice_get w.sessions i)
      (λ y k. kept.hears o w.entries w.capacity c.facts (reply_message call c.result) y (knows.facts w t call known) k) h)))

  -- a take, of its own or of another
  took_by : (o : List Sent) (w : World) (p : ℕ) (x : Session) (stamp : ℕ) (b : TakenBatch) → b.messages ≡ x.waiting → slice_get w.sessions p ≡ Some x → (c : Bool) → (suc p == suc i) ≡ c
      → Q o (slice_get w.sessions i) → Q (o ++ all_messages (batch_if c (b ∷ []))) (slice_get (slice_set w.sessions p (session_emptied stamp x)) i)
  took_by o w p x stamp b m e true same h =
      let here : p ≡ i = grind (arith, nat_tests) in
      let gave : all_messages (b ∷ []) ≡ x.waiting = append-nil b.messages ∙ m in
      subst (λ (ms : List Sent). Q (o ++ ms) (slice_get (slice_set w.sessions p (session_emptied stamp x)) i)) (sym gave)
      (subst (λ (j : ℕ). Q o (slice_get w.sessions j) → Q (o ++ x.waiting) (slice_get (slice_set w.sessions p (session_emptied stamp x)) j)) here
      (λ k. subst (λ (z : Option Session). Q (o ++ x.waiting) z) (sym (set_here w.sessions p x (session_emptied stamp x) e)) (kept.takes o stamp x (subst (λ (z : Option Session). Q o z) e k))) h)
  took_by o w p x stamp b m e false same h =
      let apart : p ≢ i = λ (f : p ≡ i). grind (arith, nat_tests) in
      more_given o (slice_get (slice_set w.sessions p (session_emptied stamp x)) i)
      (subst (λ (z : Option Session). Q o z) (sym (set_there w.sessions p i (session_emptied stamp x) apart)) h)

  takes_some : (o : List Sent) (w v : World) (s : ℕ) (x : Session) (none scene : Bool) → session_of w s ≡ Some x → Q o (slice_get w.sessions i) → world_made (some_take_outcome none scene w s x) ≡ Some v
      → Q (o ++ all_messages (batch_if (s == suc i) (batch_of (some_take_outcome none scene w s x)))) (slice_get v.sessions i)
  takes_some o w v s x true scene e h g = by_case x.closed g
    where
      by_case : (c : Option Cause) → world_made (empty_take_outcome c) ≡ Some v → Q (o ++ all_messages (batch_if (s == suc i) (batch_of (empty_take_outcome c)))) (slice_get v.sessions i)
      by_case None g = absurd (none-some v g)
      by_case (Some cause) g = absurd (none-some v g)
  takes_some o w v zero x false scene e h g = absurd (none-some x e)
  takes_some o w v (suc p) x false scene e h g =
      let stamp : ℕ = shown_after scene w.stamp x.shown in
      let b : TakenBatch = record { messages = x.waiting; editor = editor_due scene w.editor } in
      let later = with_session_at w (suc p) (session_emptied stamp x) in
      by_entry (o ++ all_messages (batch_if (suc p == suc i) (b ∷ []))) later v (sym (same_Some (after_entry later) v g)) (took_by o w p x stamp b refl e (suc p == suc i) refl h)

  takes_at : (o : List Sent) (w v : World) (s : ℕ) (x : Option Session) → session_of w s ≡ x → Q o (slice_get w.sessions i) → world_made (take_outcome x w s) ≡ Some v
      → Q (o ++ all_messages (batch_if (s == suc i) (batch_of (take_outcome x w s)))) (slice_get v.sessions i)
  takes_at o w v s None e h f = absurd (none-some v f)
  takes_at o w v s (Some x) e h f = takes_some o w v s x (is_nothing_due x.waiting (is_scene_due w s x)) (is_scene_due w s x) e h f

  -- ---- each event but a call of its own, and a run
  step_keeps : (o : List Sent) (w v : World) (event : Event) → calls_in (suc i) event ≡ [] → P w → Q o (slice_get w.sessions i) → world_made (step w event) ≡ Some v
      → Q (o ++ all_messages (given (suc i) event (step w event))) (slice_get v.sessions i)
  step_keeps o w v open_session q known h f = more_given o (slice_get v.sessions i) (opened o w v (step_makes w v open_session f) h)
  step_keeps o w v (request_of t call) q known h f =
      more_given o (slice_get v.sessions i) (called o w v t call (not_own (t == suc i) call q) (step_makes w v (request_of t call) f) known h)
  step_keeps o w v (take_of s) q known h f = takes_at o w v s (session_of w s) refl h f
  step_keeps o w v (close_of s) q known h f = more_given o (slice_get v.sessions i) (closed o w v s (step_makes w v (close_of s) f) h)

  run_next : (o : List Sent) (v : World) (es : List Entry) (gave : List TakenBatch) (made : Option World)
      → ((u : World) → made ≡ Some u → Q (o ++ all_messages gave) (slice_get u.sessions i))
      → ((q : List Sent) (u : World) → made ≡ Some u → Q q (slice_get u.sessions i) → run_from u es ≡ Some v → Q (q ++ all_messages (out_from u (suc i) es)) (slice_get v.sessions i))
      → option_and_then (λ u. run_from u es) made ≡ Some v
      → Q (o ++ all_messages (gave ++ rest_in (λ u. out_from u (suc i) es) made)) (slice_get v.sessions i)
  run_next o v es gave None first rest e = absurd (none-some v e)
  run_next o v es gave (Some u) first rest e =
      subst (λ (ms : List Sent). Q ms (slice_get v.sessions i))
      (append_assoc o (all_messages gave) (all_messages (out_from u (suc i) es)) ∙ ap (λ (ms : List Sent). o ++ ms) (sym (messages-append gave (out_from u (suc i) es))))
      (rest (o ++ all_messages gave) u refl (first u refl) e)

  pub run_keeps : (o : List Sent) (w v : World) (es : List Entry) → calls_of (suc i) es ≡ [] → P w → Q o (slice_get w.sessions i) → run_from w es ≡ Some v
      → Q (o ++ all_messages (out_from w (suc i) es)) (slice_get v.sessions i)
  run_keeps o w v [] q known h e = more_given o (slice_get v.sessions i) (subst (λ (u : World). Q o (slice_get u.sessions i)) (same_Some w v e) h)
  run_keeps o w v (x ∷ es) q known h e =
      let none = both_empty (calls_in (suc i) x.event) (calls_of (suc i) es) q in
      run_next o v es (given (suc i) x.event (step w x.event)) (world_made (step w x.event))
      (λ u f. step_keeps o w u x.event none.0 known h f)
      (λ r u f k g. run_keeps r u v es none.1 (knows.entries w u x.event known (step_makes w u x.event f)) k g) e
