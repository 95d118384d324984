-- What is due to a session along a run mirrors the buffers' moments.
use Rattle.std.proofs.Common.{◌≡◌, ◌≢◌, ℕ, zero, suc, ℤ, nat_abs, ◌+◌, List, [], ◌∷◌, ◌++◌, refl, ap, sym, ◌∙◌, subst, append_assoc, append-nil, arith, slice_get, slice_set, Bool, true, false, Option, Some, None, Result, Ok, Err}
use Rattle.std.specs.Prelude.{option_map, option_and_then, ◌==◌, IfSome, IsSome}
use Rattle.std.proofs.lemmas.Option.{none-some, same_Some, slice_get-map}
use Rattle.std.proofs.lemmas.Bool.Decides.{nat_tests}
use Rattle.nv_value.specs.Content.{Tree}
use Rattle.nv_value.specs.declared.fault.ApiFault.{ApiFault}
use Rattle.nv_rpc.specs.Calls.{Call, request, notice}
use Rattle.nv_rpc.specs.Messages.{Sent}
use Rattle.nv_args.specs.Arguments.{tree_list}
use Rattle.nv_model.specs.Buffers.{Splice}
use Rattle.nv_model.specs.Editors.{ModelEditor}
use Rattle.nv_model.specs.declared.parts.Limits.{Limits}
use Rattle.nv_subs.specs.Mirrors.{Mirror, absent, mirror_of}
use Rattle.nv_dispatch.specs.Calls.{CallOutcome, editor_after}
use Rattle.nv_dispatch.specs.Telling.{Past, past_at, FactsTell, IsSoundModel}
use Rattle.nv_dispatch.specs.Laws.{FactsTellPasts, SoundnessIsKept}
use Rattle.nv_history.specs.Events.{Event, open_session, request_of, take_of, close_of, Entry, Cause, closed_at}
use Rattle.nv_history.specs.Sessions.{Session, fresh_session, session_closed_by, shown_after, session_emptied, session_quit, session_after_call, reply_message}
use Rattle.nv_history.specs.Worlds.{World, fresh_world, session_of, with_session_at, world_ended_if, after_entry, after_settled_entry, opening_outcome, outcome_of_frame, world_after_call, held_outcome, live_request_outcome, request_outcome, is_scene_due, is_nothing_due, editor_due, empty_take_outcome, some_take_outcome, take_outcome, live_close_outcome, close_outcome, step, world_made}
use Rattle.nv_history.specs.Runs.{TakenBatch, run_from, run, rest_in, batch_if, batch_of, given, out_from, out, all_messages, waiting_of, waiting_in, due}
use Rattle.nv_history.specs.Texts.{lines_at_tick, sends_lines_of, IsMirrored}
use Rattle.nv_history.specs.Laws.{FoldsToMoment, FoldsToText}
use Rattle.nv_history.proofs.Mirroring.{AllOfMoments, FrontFolds, front_folds}
use Rattle.nv_history.proofs.Tellings.{IsAside, aside_reply, aside_fault}
use Rattle.nv_history.proofs.Hearings.{Holds, closed_by_holds, quit_holds, call_holds, taken_holds, fresh_holds}
use Rattle.nv_dispatch.proofs.Kept.{KeepsPasts}
use Rattle.nv_history.proofs.Places.{set_here, set_there, get_push, get_after_call}
use Rattle.nv_history.proofs.Staging.{at_end_sessions, world_then, entry_keeps, settled_entry_keeps}

pub messages-append : (a b : List TakenBatch) → all_messages (a ++ b) ≡ all_messages a ++ all_messages b
messages-append [] b = refl
messages-append (m ∷ ms) b = ap (λ (l : List Sent). m.messages ++ l) (messages-append ms b) ∙ sym (append_assoc m.messages (all_messages ms) (all_messages b))

reply_aside : (n : ℤ) (call : Call) (result : Result Tree ApiFault) → IfSome (reply_message call result) (λ m. IsAside n m)
reply_aside n (request msgid name args) (Ok t) = aside_reply n msgid None t
reply_aside n (request msgid name args) (Err f) = aside_reply n msgid (Some f) _
reply_aside n (notice name args) (Ok t) = tt
reply_aside n (notice name args) (Err f) = aside_fault n f

-- the session at a place was told right what it took, and it took nothing before it came
abbrev pub At : ℤ → List Sent → List Splice → Option Session → Type 0
At n o ss None = o ≡ []
At n o ss (Some x) = Holds n o ss x

pub record WorldHolds (n : ℤ) (o : List Sent) (i : ℕ) (w : World) : Type 0 where
  pub sound : IsSoundModel w.editor
  pub at : At n o (past_at w.editor n).splices (slice_get w.sessions i)

-- what is kept for a session by a change of each
at_map : (n : ℤ) (o : List Sent) (ss later : List Splice) (f : Session → Session) (x : Option Session)
    → ((y : Session) → Holds n o ss y → Holds n o later (f y)) → At n o ss x → At n o later (option_map f x)
at_map n o ss later f None keeps h = h
at_map n o ss later f (Some x) keeps h = keeps x h

-- the sessions once the editor ended, where it did
ended_at : (n : ℤ) (o : List Sent) (i : ℕ) (w : World) (b : Bool) → WorldHolds n o i w → At n o (past_at w.editor n).splices (slice_get (world_ended_if b w).sessions i)
ended_at n o i w true h =
    subst (λ (x : Option Session). At n o (past_at w.editor n).splices x) (sym (slice_get-map (session_quit w.entries) w.sessions i))
    (at_map n o (past_at w.editor n).splices (past_at w.editor n).splices (session_quit w.entries) (slice_get w.sessions i)
    (λ y k. quit_holds n o (past_at w.editor n).splices w.entries y k) h.at)
ended_at n o i w false h = h.at

-- a world with these sessions, and an editor that keeps each buffer
end_holds : (n : ℤ) (o : List Sent) (i : ℕ) (w v : World) → v.sessions ≡ (world_then w).sessions → KeepsPasts w.editor v.editor → WorldHolds n o i w → WorldHolds n o i v
end_holds n o i w v same keeps h = record {
  sound = keeps.sound;
  at =
      subst (λ (xs : List Session). At n o (past_at v.editor n).splices (slice_get xs i)) (sym same)
      (subst (λ (p : Past). At n o p.splices (slice_get (world_then w).sessions i)) (sym (keeps.past n)) (ended_at n o i w (w.entries + 1 == w.limits.entries) h));
}

entry_holds : (n : ℤ) (o : List Sent) (i : ℕ) (w : World) → WorldHolds n o i w → WorldHolds n o i (after_entry w)
entry_holds n o i w h = end_holds n o i w (after_entry w) (at_end_sessions false w) (entry_keeps w h.sound) h

settled_entry_holds : (n : ℤ) (o : List Sent) (i : ℕ) (w : World) (is_seen : Bool) → WorldHolds n o i w → WorldHolds n o i (after_settled_entry is_seen w)
settled_entry_holds n o i w is_seen h =
    end_holds n o i w (after_settled_entry is_seen w) (at_end_sessions is_seen w) (settled_entry_keeps is_seen w h.sound) h

-- the world that an outcome makes
becomes_is : (n : ℤ) (o : List Sent) (i : ℕ) (w v : World) → WorldHolds n o i w → Some w ≡ Some v → WorldHolds n o i v
becomes_is n o i w v h e = subst (λ (u : World). WorldHolds n o i u) (same_Some w v e) h

-- ---- opening
opened_holds : (n : ℤ) (o : List Sent) (i : ℕ) (w : World) → WorldHolds n o i w → WorldHolds n o i (record w { sessions = w.sessions ++ fresh_session ∷ [] })
opened_holds n o i w h = record {
  sound = h.sound;
  at = get_push (At n o (past_at w.editor n).splices) w.sessions fresh_session i
      (λ e. subst (λ (ms : List Sent). Holds n ms (past_at w.editor n).splices fresh_session)
      (sym (subst (λ (x : Option Session). At n o (past_at w.editor n).splices x) e h.at)) (fresh_holds n (past_at w.editor n).splices)) h.at;
}

opens_at : (n : ℤ) (o : List Sent) (i : ℕ) (w v : World) (e : Option ℕ) → WorldHolds n o i w → world_made (opening_outcome e w) ≡ Some v → WorldHolds n o i v
opens_at n o i w v (Some e) h f = absurd (none-some v f)
opens_at n o i w v None h f =
    becomes_is n o i (after_entry (record w { sessions = w.sessions ++ fresh_session ∷ [] })) v
    (entry_holds n o i (record w { sessions = w.sessions ++ fresh_session ∷ [] }) (opened_holds n o i w h)) f

-- ---- closing
session_there : (w : World) (s : ℕ) (x : Session) → session_of w s ≡ Some x → (p : ℕ) × (s ≡ suc p) × (slice_get w.sessions p ≡ Some x)
session_there w zero x e = absurd (none-some x e)
session_there w (suc p) x e = (p, refl, e)

-- a session of a place, in the place of another
at_set : (n : ℤ) (o : List Sent) (ss : List Splice) (xs : List Session) (p i : ℕ) (x y : Session) → slice_get xs p ≡ Some x
    → (Holds n o ss x → Holds n o ss y) → (b : Bool) → (p == i) ≡ b → At n o ss (slice_get xs i) → At n o ss (slice_get (slice_set xs p y) i)
at_set n o ss xs p i x y e keeps true same h =
    let here : p ≡ i = grind (arith, nat_tests) in
    subst (λ (j : ℕ). At n o ss (slice_get xs j) → At n o ss (slice_get (slice_set xs p y) j)) here
    (λ k. subst (λ (z : Option Session). At n o ss z) (sym (set_here xs p x y e)) (keeps (subst (λ (z : Option Session). At n o ss z) e k))) h
at_set n o ss xs p i x y e keeps false same h =
    let apart : p ≢ i = λ (f : p ≡ i). grind (arith, nat_tests) in
    subst (λ (z : Option Session). At n o ss z) (sym (set_there xs p i y apart)) h

closed_holds : (n : ℤ) (o : List Sent) (i : ℕ) (w : World) (s : ℕ) (x : Session) (cause : Cause) → session_of w s ≡ Some x → WorldHolds n o i w
    → WorldHolds n o i (with_session_at w s (session_closed_by cause x))
closed_holds n o i w zero x cause e h = absurd (none-some x e)
closed_holds n o i w (suc p) x cause e h = record {
  sound = h.sound;
  at = at_set n o (past_at w.editor n).splices w.sessions p i x (session_closed_by cause x) e
      (closed_by_holds n o (past_at w.editor n).splices cause x) (p == i) refl h.at;
}

closes_live : (n : ℤ) (o : List Sent) (i : ℕ) (w v : World) (s : ℕ) (x : Session) (c : Option Cause) → session_of w s ≡ Some x → WorldHolds n o i w
    → world_made (live_close_outcome c w s x) ≡ Some v → WorldHolds n o i v
closes_live n o i w v s x (Some cause) e h f = absurd (none-some v f)
closes_live n o i w v s x None e h f =
    becomes_is n o i (after_settled_entry false (with_session_at w s (session_closed_by (closed_at w.entries) x))) v
    (settled_entry_holds n o i (with_session_at w s (session_closed_by (closed_at w.entries) x)) false (closed_holds n o i w s x (closed_at w.entries) e h)) f

closes_at : (n : ℤ) (o : List Sent) (i : ℕ) (w v : World) (s : ℕ) (x : Option Session) → session_of w s ≡ x → WorldHolds n o i w
    → world_made (close_outcome x w s) ≡ Some v → WorldHolds n o i v
closes_at n o i w v s None e h f = absurd (none-some v f)
closes_at n o i w v s (Some x) e h f = closes_live n o i w v s x x.closed e h f

-- ---- taking
-- what was taken by then
more_out : (n : ℤ) (o : List Sent) (i : ℕ) (v : World) → WorldHolds n o i v → WorldHolds n (o ++ []) i v
more_out n o i v h = subst (λ (ms : List Sent). WorldHolds n ms i v) (sym (append-nil o)) h

took_here : (n : ℤ) (o : List Sent) (w : World) (p i : ℕ) (x : Session) (stamp : ℕ) → slice_get w.sessions p ≡ Some x → p ≡ i → WorldHolds n o i w
    → WorldHolds n (o ++ x.waiting) i (with_session_at w (suc p) (session_emptied stamp x))
took_here n o w p i x stamp e same h =
    subst (λ (j : ℕ). WorldHolds n o j w → WorldHolds n (o ++ x.waiting) j (with_session_at w (suc p) (session_emptied stamp x))) same
    (λ k. record {
      sound = k.sound;
      at = subst (λ (z : Option Session). At n (o ++ x.waiting) (past_at w.editor n).splices z) (sym (set_here w.sessions p x (session_emptied stamp x) e))
          (taken_holds n o (past_at w.editor n).splices stamp x (subst (λ (z : Option Session). At n o (past_at w.editor n).splices z) e k.at));
    }) h

took_there : (n : ℤ) (o : List Sent) (w : World) (p i : ℕ) (x : Session) (stamp : ℕ) → p ≢ i → WorldHolds n o i w → WorldHolds n o i (with_session_at w (suc p) (session_emptied stamp x))
took_there n o w p i x stamp apart h = record {
  sound = h.sound;
  at = subst (λ (z : Option Session). At n o (past_at w.editor n).splices z) (sym (set_there w.sessions p i (session_emptied stamp x) apart)) h.at;
}

took_by : (n : ℤ) (o : List Sent) (w : World) (p i : ℕ) (x : Session) (stamp : ℕ) (given : Option ModelEditor) (b : Bool) → (suc p == suc i) ≡ b → slice_get w.sessions p ≡ Some x → WorldHolds n o i w
    → WorldHolds n (o ++ all_messages (batch_if b (record { messages = x.waiting; editor = given } ∷ []))) i (with_session_at w (suc p) (session_emptied stamp x))
took_by n o w p i x stamp given true same e h =
    let here : p ≡ i = grind (arith, nat_tests) in
    subst (λ (ms : List Sent). WorldHolds n (o ++ ms) i (with_session_at w (suc p) (session_emptied stamp x))) (sym (append-nil x.waiting)) (took_here n o w p i x stamp e here h)
took_by n o w p i x stamp given false same e h =
    let apart : p ≢ i = λ (f : p ≡ i). grind (arith, nat_tests) in
    more_out n o i (with_session_at w (suc p) (session_emptied stamp x)) (took_there n o w p i x stamp apart h)

takes_some : (n : ℤ) (o : List Sent) (i : ℕ) (w v : World) (s : ℕ) (x : Session) (none scene : Bool) → session_of w s ≡ Some x → WorldHolds n o i w
    → world_made (some_take_outcome none scene w s x) ≡ Some v
    → WorldHolds n (o ++ all_messages (batch_if (s == suc i) (batch_of (some_take_outcome none scene w s x)))) i v
takes_some n o i w v s x true scene e h g = by_case x.closed g
  where
    by_case : (c : Option Cause) → world_made (empty_take_outcome c) ≡ Some v → WorldHolds n (o ++ all_messages (batch_if (s == suc i) (batch_of (empty_take_outcome c)))) i v
    by_case None g = absurd (none-some v g)
    by_case (Some cause) g = absurd (none-some v g)
takes_some n o i w v zero x false scene e h g = absurd (none-some x e)
takes_some n o i w v (suc p) x false scene e h g =
    let stamp : ℕ = shown_after scene w.stamp x.shown in
    let given : Option ModelEditor = editor_due scene w.editor in
    becomes_is n (o ++ all_messages (batch_if (suc p == suc i) (record { messages = x.waiting; editor = given } ∷ []))) i (after_entry (with_session_at w (suc p) (session_emptied stamp x))) v
    (entry_holds n (o ++ all_messages (batch_if (suc p == suc i) (record { messages = x.waiting; editor = given } ∷ []))) i (with_session_at w (suc p) (session_emptied stamp x))
    (took_by n o w p i x stamp given (suc p == suc i) refl e h)) g

takes_at : (n : ℤ) (o : List Sent) (i : ℕ) (w v : World) (s : ℕ) (x : Option Session) → session_of w s ≡ x → WorldHolds n o i w
    → world_made (take_outcome x w s) ≡ Some v → WorldHolds n (o ++ all_messages (batch_if (s == suc i) (batch_of (take_outcome x w s)))) i v
takes_at n o i w v s None e h f = absurd (none-some v f)
takes_at n o i w v s (Some x) e h f = takes_some n o i w v s x (is_nothing_due x.waiting (is_scene_due w s x)) (is_scene_due w s x) e h f

-- ---- calls
module _ (facts_tell : FactsTellPasts) (stay_sound : SoundnessIsKept) where
  tells_call : (n : ℤ) (m : ModelEditor) (s : ℕ) (call : Call) → IsSoundModel m
      → FactsTell n (outcome_of_frame m s call).facts (past_at m n) (past_at (editor_after m (outcome_of_frame m s call)) n)
      × IsSoundModel (editor_after m (outcome_of_frame m s call))
  unfolding FactsTellPasts SoundnessIsKept
  tells_call n m s (request msgid name args) is = (facts_tell m s name (tree_list args) n is, stay_sound.1 m s name (tree_list args) is)
  tells_call n m s (notice name args) is = (facts_tell m s name (tree_list args) n is, stay_sound.1 m s name (tree_list args) is)

  called_holds : (n : ℤ) (o : List Sent) (i : ℕ) (w : World) (s : ℕ) (call : Call) → WorldHolds n o i w
      → WorldHolds n o i (world_after_call w s call (outcome_of_frame w.editor s call))
  called_holds n o i w s call h =
      let c : CallOutcome = outcome_of_frame w.editor s call in
      let told = tells_call n w.editor s call h.sound in
      record {
        sound = told.1;
        at =
            subst (λ (x : Option Session). At n o (past_at (editor_after w.editor (outcome_of_frame w.editor s call)) n).splices x)
            (sym (get_after_call w.entries w.capacity s 1 (outcome_of_frame w.editor s call).facts (reply_message call (outcome_of_frame w.editor s call).result) w.sessions i))
            (at_map n o (past_at w.editor n).splices (past_at (editor_after w.editor (outcome_of_frame w.editor s call)) n).splices
            (session_after_call w.entries w.capacity ((1 + i) == s) (outcome_of_frame w.editor s call).facts (reply_message call (outcome_of_frame w.editor s call).result))
            (slice_get w.sessions i)
            (λ y k. call_holds n o (past_at w.editor n) (past_at (editor_after w.editor (outcome_of_frame w.editor s call)) n) w.entries w.capacity ((1 + i) == s)
            (outcome_of_frame w.editor s call).facts (reply_message call (outcome_of_frame w.editor s call).result) y told.0
            (reply_aside n call (outcome_of_frame w.editor s call).result) k) h.at);
      }

  requests_held : (n : ℤ) (o : List Sent) (i : ℕ) (w v : World) (s : ℕ) (x : Session) (call : Call) (b : Bool) → WorldHolds n o i w
      → world_made (held_outcome b w s x call) ≡ Some v → WorldHolds n o i v
  requests_held n o i w v s x call true h f = absurd (none-some v f)
  requests_held n o i w v s x call false h f =
      becomes_is n o i (after_settled_entry (outcome_of_frame w.editor s call).is_seen (world_after_call w s call (outcome_of_frame w.editor s call))) v
      (settled_entry_holds n o i (world_after_call w s call (outcome_of_frame w.editor s call)) (outcome_of_frame w.editor s call).is_seen (called_holds n o i w s call h)) f

  requests_live : (n : ℤ) (o : List Sent) (i : ℕ) (w v : World) (s : ℕ) (x : Session) (call : Call) (c : Option Cause) → WorldHolds n o i w
      → world_made (live_request_outcome c w s x call) ≡ Some v → WorldHolds n o i v
  requests_live n o i w v s x call (Some cause) h f = absurd (none-some v f)
  requests_live n o i w v s x call None h f = requests_held n o i w v s x call _ h f

  requests_at : (n : ℤ) (o : List Sent) (i : ℕ) (w v : World) (s : ℕ) (x : Option Session) (call : Call) → WorldHolds n o i w
      → world_made (request_outcome x w s call) ≡ Some v → WorldHolds n o i v
  requests_at n o i w v s None call h f = absurd (none-some v f)
  requests_at n o i w v s (Some x) call h f = requests_live n o i w v s x call x.closed h f

  -- ---- each event, and a run
  pub step_holds : (n : ℤ) (o : List Sent) (i : ℕ) (w v : World) (event : Event) → WorldHolds n o i w → world_made (step w event) ≡ Some v
      → WorldHolds n (o ++ all_messages (given (suc i) event (step w event))) i v
  step_holds n o i w v open_session h f = more_out n o i v (opens_at n o i w v w.ended h f)
  step_holds n o i w v (request_of s call) h f = more_out n o i v (requests_at n o i w v s (session_of w s) call h f)
  step_holds n o i w v (take_of s) h f = takes_at n o i w v s (session_of w s) refl h f
  step_holds n o i w v (close_of s) h f = more_out n o i v (closes_at n o i w v s (session_of w s) refl h f)

  run_next : (n : ℤ) (o : List Sent) (i : ℕ) (v : World) (es : List Entry) (gave : List TakenBatch) (made : Option World)
      → ((u : World) → made ≡ Some u → WorldHolds n (o ++ all_messages gave) i u)
      → ((q : List Sent) (u : World) → WorldHolds n q i u → run_from u es ≡ Some v → WorldHolds n (q ++ all_messages (out_from u (suc i) es)) i v)
      → option_and_then (λ u. run_from u es) made ≡ Some v
      → WorldHolds n (o ++ all_messages (gave ++ rest_in (λ u. out_from u (suc i) es) made)) i v
  run_next n o i v es gave None first rest e = absurd (none-some v e)
  run_next n o i v es gave (Some u) first rest e =
      subst (λ (ms : List Sent). WorldHolds n ms i v)
      (append_assoc o (all_messages gave) (all_messages (out_from u (suc i) es)) ∙ ap (λ (ms : List Sent). o ++ ms) (sym (messages-append gave (out_from u (suc i) es))))
      (rest (o ++ all_messages gave) u (first u refl) e)

  pub run_holds : (n : ℤ) (o : List Sent) (i : ℕ) (w v : World) (es : List Entry) → WorldHolds n o i w → run_from w es ≡ Some v
      → WorldHolds n (o ++ all_messages (out_from w (suc i) es)) i v
  run_holds n o i w v [] h e = more_out n o i v (becomes_is n o i w v h e)
  run_holds n o i w v (x ∷ es) h e =
      run_next n o i v es (given (suc i) x.event (step w x.event)) (world_made (step w x.event))
      (λ u f. step_holds n o i w u x.event h f)
      (λ q u k g. run_holds n q i u v es k g) e

  fresh_world_holds : (n : ℤ) (i capacity : ℕ) (limits : Limits) → WorldHolds n [] i (fresh_world capacity limits)
  unfolding SoundnessIsKept
  fresh_world_holds n i capacity limits = record { sound = stay_sound.0 limits; at = refl }

  -- ---- the law
  some_is : (n : ℤ) (front : List Sent) (c : Mirror) → mirror_of n front ≡ Some c → IsSome (mirror_of n front)
  some_is n front c e = subst (λ (o : Option Mirror). IsSome o) (sym e) refl

  front_is : (m : ModelEditor) (n : ℤ) (front : List Sent) → FrontFolds n (past_at m n).splices absent false None front → FoldsToMoment m n front
  front_is m n front h = record {
    fits = some_is n front h.client h.folds;
    moment = λ t e.
        let k = h.moment.known t e in
        let tick : k.0 ≡ nat_abs t = ap nat_abs (sym k.1) in
        subst (λ (o : Option Mirror). IsMirrored (lines_at_tick m n (nat_abs t)) t (sends_lines_of n false front) o) (sym h.folds)
        (subst (λ (j : ℕ). IsMirrored (lines_at_tick m n j) t (sends_lines_of n false front) (Some h.client)) tick k.3);
  }

  held_fronts : (m : ModelEditor) (n : ℤ) (o front back : List Sent) (x : Session) → Holds n o (past_at m n).splices x → o ++ x.waiting ≡ front ++ back → FoldsToMoment m n front
  held_fronts m n o front back x h e =
      front_is m n front
      (front_folds n (past_at m n).splices absent false None front back (subst (λ (ms : List Sent). AllOfMoments n (past_at m n).splices absent false None ms) e h.tells.all))

  folds_by_place : (capacity : ℕ) (limits : Limits) (history : List Entry) (w : World) (s : ℕ) (x : Session) (n : ℤ) (front back : List Sent)
      → run capacity limits history ≡ Some w → session_of w s ≡ Some x → due capacity limits s history ≡ front ++ back → FoldsToMoment w.editor n front
  folds_by_place capacity limits history w zero x n front back r e d = absurd (none-some x e)
  folds_by_place capacity limits history w (suc i) x n front back r e d =
      let h = run_holds n [] i (fresh_world capacity limits) w history (fresh_world_holds n i capacity limits) r in
      let waits : waiting_in (suc i) (run capacity limits history) ≡ x.waiting = ap (waiting_in (suc i)) r ∙ ap waiting_of e in
      held_fronts w.editor n (all_messages (out capacity limits (suc i) history)) front back x
      (subst (λ (y : Option Session). At n (all_messages (out capacity limits (suc i) history)) (past_at w.editor n).splices y) e h.at)
      (ap (λ (ms : List Sent). all_messages (out capacity limits (suc i) history) ++ ms) (sym waits) ∙ d)

  pub folds_to_text_law : FoldsToText
  unfolding FoldsToText
  folds_to_text_law capacity limits history w s x n front back r e d = folds_by_place capacity limits history w s x n front back r e d
