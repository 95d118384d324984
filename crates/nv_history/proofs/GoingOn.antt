-- What is due to a session only grows, and what closed it stays.
use Rattle.std.proofs.Common.{◌≡◌, ◌≢◌, ℕ, zero, suc, ℤ, ◌+◌, List, [], ◌∷◌, ◌++◌, length, refl, ap, sym, ◌∙◌, subst, append_assoc, append-nil, arith, slice_get, slice_set, Bool, true, false, Option, Some, None}
use Rattle.std.specs.Prelude.{option_map, ◌==◌}
use Rattle.std.proofs.lemmas.Option.{none-some, same_Some, slice_get-map}
use Rattle.std.proofs.lemmas.Bool.Decides.{nat_tests}
use Rattle.nv_rpc.specs.Calls.{Call}
use Rattle.nv_rpc.specs.Messages.{Sent, detach_event}
use Rattle.nv_model.specs.Answers.{Fact, attached, detached, edited, deleted, quit}
use Rattle.nv_history.specs.Events.{Event, open_session, request_of, take_of, close_of, Cause, closed_at, overflowed_at, quit_at}
use Rattle.nv_history.specs.Sessions.{Session, fresh_session, follows, with_following, without_following, session_closed_by, shown_after, session_emptied, session_with_message, session_told, session_told_if, session_joined, session_parted, session_parted_if, open_session_hears, unless_closed, session_hears, session_hears_all, session_replied, session_quit, session_quit_if, session_after_call, first_message, splice_message, reply_message, has_quit}
use Rattle.nv_history.specs.Worlds.{World, session_of, with_session_at, world_ended_if, after_entry, after_settled_entry, opening_outcome, outcome_of_frame, world_after_call, held_outcome, live_request_outcome, request_outcome, is_scene_due, is_nothing_due, editor_due, empty_take_outcome, some_take_outcome, take_outcome, live_close_outcome, close_outcome, step, world_made}
use Rattle.nv_history.specs.Runs.{TakenBatch, batch_if, batch_of, given, all_messages}
use Rattle.nv_history.proofs.Places.{set_here, set_there, get_push, get_after_call}
use Rattle.nv_history.proofs.Staging.{at_end_sessions, world_then}

-- a cause that isn't the session's own close
abbrev pub IsOther : Cause → Type 0
IsOther (closed_at entry) = ⊥
IsOther (overflowed_at entry) = Unit {0}
IsOther (quit_at entry) = Unit {0}

-- a session after it heard something: what waited waits, with more behind it, but nothing more
-- comes to a closed one, which stays closed by its cause
pub record HearsOn (x y : Session) : Type 0 where
  pub more : List Sent
  pub waits : y.waiting ≡ x.waiting ++ more
  pub stays : (c : Cause) → x.closed ≡ Some c → (y.closed ≡ Some c) × (more ≡ [])
  pub other : (c : Cause) → x.closed ≡ None → y.closed ≡ Some c → IsOther c
  pub same_shown : y.shown ≡ x.shown

hears_same : (x : Session) → HearsOn x x
hears_same x = record {
  more = [];
  waits = sym (append-nil x.waiting);
  stays = λ c e. (e, refl);
  other = λ c e f. absurd (none-some c (sym e ∙ f));
  same_shown = refl;
}

pub hears_then : (x y z : Session) → HearsOn x y → HearsOn y z → HearsOn x z
hears_then x y z g h = record {
  more = g.more ++ h.more;
  waits = h.waits ∙ ap (λ (l : List Sent). l ++ h.more) g.waits ∙ append_assoc x.waiting g.more h.more;
  stays = λ c e. let f = g.stays c e in let k = h.stays c f.0 in (k.0, ap (λ (l : List Sent). l ++ h.more) f.1 ∙ k.1);
  other = λ c e f. by_middle c e f y.closed refl;
  same_shown = h.same_shown ∙ g.same_shown;
}
  where
    by_middle : (c : Cause) → x.closed ≡ None → z.closed ≡ Some c → (m : Option Cause) → y.closed ≡ m → IsOther c
    by_middle c e f None is = h.other c is f
    by_middle c e f (Some d) is =
        subst (λ (k : Cause). IsOther k) (same_Some d c (sym (h.stays d is).0 ∙ f)) (g.other d e is)

-- a session that isn't closed is told
hears_message : (b : Bool) (at : ℕ) (m : Sent) (x y : Session) → x.closed ≡ None → y.waiting ≡ x.waiting → y.closed ≡ None → y.shown ≡ x.shown → HearsOn x (session_with_message b at m y)
hears_message true at m x y e f g k = record {
  more = [];
  waits = f ∙ sym (append-nil x.waiting);
  stays = λ c h. absurd (none-some c (sym e ∙ h));
  other = λ c h j. subst (λ (d : Cause). IsOther d) (same_Some (overflowed_at at) c j) tt;
  same_shown = k;
}
hears_message false at m x y e f g k = record {
  more = m ∷ [];
  waits = ap (λ (l : List Sent). l ++ m ∷ []) f;
  stays = λ c h. absurd (none-some c (sym e ∙ h));
  other = λ c h j. absurd (none-some c (sym g ∙ j));
  same_shown = k;
}

hears_told : (at capacity : ℕ) (m : Sent) (x y : Session) → x.closed ≡ None → y.waiting ≡ x.waiting → y.closed ≡ None → y.shown ≡ x.shown → HearsOn x (session_told at capacity m y)
hears_told at capacity m x y e f g k = hears_message (length y.waiting == capacity) at m x y e f g k

hears_joined : (own there : Bool) (at capacity : ℕ) (n : ℤ) (m : Sent) (x : Session) → x.closed ≡ None → HearsOn x (session_joined own there at capacity n m x)
hears_joined true false at capacity n m x e = hears_told at capacity m x (with_following n x) e refl e refl
hears_joined true true at capacity n m x e = hears_same x
hears_joined false there at capacity n m x e = hears_same x

hears_parted : (there : Bool) (at capacity : ℕ) (n : ℤ) (x : Session) → x.closed ≡ None → HearsOn x (session_parted there at capacity n x)
hears_parted true at capacity n x e = hears_told at capacity (detach_event n) x (without_following n x) e refl e refl
hears_parted false at capacity n x e = hears_same x

hears_parted_if : (own there : Bool) (at capacity : ℕ) (n : ℤ) (x : Session) → x.closed ≡ None → HearsOn x (session_parted_if own there at capacity n x)
hears_parted_if true there at capacity n x e = hears_parted there at capacity n x e
hears_parted_if false there at capacity n x e = hears_same x

hears_told_if : (b : Bool) (at capacity : ℕ) (m : Sent) (x : Session) → x.closed ≡ None → HearsOn x (session_told_if b at capacity m x)
hears_told_if true at capacity m x e = hears_told at capacity m x x e refl e refl
hears_told_if false at capacity m x e = hears_same x

hears_fact : (at capacity : ℕ) (own : Bool) (fact : Fact) (x : Session) → x.closed ≡ None → HearsOn x (open_session_hears at capacity own fact x)
hears_fact at capacity own (attached n tick whole) x e = hears_joined own (follows n x) at capacity n (first_message n tick whole) x e
hears_fact at capacity own (detached n) x e = hears_parted_if own (follows n x) at capacity n x e
hears_fact at capacity own (edited n told) x e = hears_told_if (follows n x) at capacity (splice_message n told) x e
hears_fact at capacity own (deleted n) x e = hears_parted (follows n x) at capacity n x e
hears_fact at capacity own quit x e = hears_same x

hears_unless : (c : Option Cause) (x y : Session) → x.closed ≡ c → (x.closed ≡ None → HearsOn x y) → HearsOn x (unless_closed c y x)
hears_unless None x y e h = h e
hears_unless (Some cause) x y e h = hears_same x

hears_facts : (at capacity : ℕ) (own : Bool) (facts : List Fact) (x : Session) → HearsOn x (session_hears_all at capacity own facts x)
hears_facts at capacity own [] x = hears_same x
hears_facts at capacity own (fact ∷ facts) x =
    hears_then x (session_hears at capacity own fact x) (session_hears_all at capacity own facts (session_hears at capacity own fact x))
    (hears_unless x.closed x (open_session_hears at capacity own fact x) refl (λ e. hears_fact at capacity own fact x e))
    (hears_facts at capacity own facts (session_hears at capacity own fact x))

hears_reply : (own : Bool) (at capacity : ℕ) (answer : Option Sent) (x : Session) → HearsOn x (session_replied own at capacity answer x)
hears_reply true at capacity (Some m) x = hears_unless x.closed x (session_told at capacity m x) refl (λ e. hears_told at capacity m x x e refl e refl)
hears_reply true at capacity None x = hears_same x
hears_reply false at capacity answer x = hears_same x

pub hears_quit : (at : ℕ) (x : Session) → HearsOn x (session_quit at x)
hears_quit at x = hears_unless x.closed x (session_closed_by (quit_at at) x) refl (λ e. record {
  more = [];
  waits = sym (append-nil x.waiting);
  stays = λ c h. absurd (none-some c (sym e ∙ h));
  other = λ c h k. subst (λ (d : Cause). IsOther d) (same_Some (quit_at at) c k) tt;
  same_shown = refl;
})

hears_quit_if : (b : Bool) (at : ℕ) (x : Session) → HearsOn x (session_quit_if b at x)
hears_quit_if true at x = hears_quit at x
hears_quit_if false at x = hears_same x

pub hears_call : (at capacity : ℕ) (own : Bool) (facts : List Fact) (answer : Option Sent) (x : Session) → HearsOn x (session_after_call at capacity own facts answer x)
hears_call at capacity own facts answer x =
    let y = session_hears_all at capacity own facts x in
    hears_then x (session_replied own at capacity answer (session_hears_all at capacity own facts x)) (session_after_call at capacity own facts answer x)
    (hears_then x (session_hears_all at capacity own facts x) (session_replied own at capacity answer (session_hears_all at capacity own facts x))
    (hears_facts at capacity own facts x) (hears_reply own at capacity answer (session_hears_all at capacity own facts x)))
    (hears_quit_if (has_quit facts) at (session_replied own at capacity answer (session_hears_all at capacity own facts x)))

-- ---- a session by its place, along a step and a run
-- a session later, once it was given these messages
pub record GoesOn (x y : Session) (gave : List Sent) : Type 0 where
  pub more : List Sent
  pub waits : gave ++ y.waiting ≡ x.waiting ++ more
  pub stays : (c : Cause) → x.closed ≡ Some c → (y.closed ≡ Some c) × (more ≡ [])

pub goes_hearing : (x y : Session) → HearsOn x y → GoesOn x y []
goes_hearing x y h = record { more = h.more; waits = h.waits; stays = h.stays }

goes_same : (x : Session) → GoesOn x x []
goes_same x = goes_hearing x x (hears_same x)

pub goes_then : (x y z : Session) (a b : List Sent) → GoesOn x y a → GoesOn y z b → GoesOn x z (a ++ b)
goes_then x y z a b g h = record {
  more = g.more ++ h.more;
  waits =
      append_assoc a b z.waiting
      ∙ ap (λ (l : List Sent). a ++ l) h.waits
      ∙ sym (append_assoc a y.waiting h.more)
      ∙ ap (λ (l : List Sent). l ++ h.more) g.waits
      ∙ append_assoc x.waiting g.more h.more;
  stays = λ c e. let f = g.stays c e in let k = h.stays c f.0 in (k.0, ap (λ (l : List Sent). l ++ h.more) f.1 ∙ k.1);
}

-- a session at a place, which may not be there yet and then was given nothing
abbrev pub PlaceGoesOn : Option Session → Option Session → List Sent → Type 0
PlaceGoesOn None None gave = gave ≡ []
PlaceGoesOn None (Some y) gave = GoesOn fresh_session y gave
PlaceGoesOn (Some x) None gave = ⊥
PlaceGoesOn (Some x) (Some y) gave = GoesOn x y gave

pub place_same : (x : Option Session) → PlaceGoesOn x x []
place_same None = refl
place_same (Some x) = goes_same x

pub place_then : (x y z : Option Session) (a b : List Sent) → PlaceGoesOn x y a → PlaceGoesOn y z b → PlaceGoesOn x z (a ++ b)
place_then None None None a b g h = ap (λ (l : List Sent). l ++ b) g ∙ h
place_then None None (Some z) a b g h = subst (λ (l : List Sent). GoesOn fresh_session z (l ++ b)) (sym g) h
place_then None (Some y) None a b g h = absurd h
place_then None (Some y) (Some z) a b g h = goes_then fresh_session y z a b g h
place_then (Some x) None z a b g h = absurd g
place_then (Some x) (Some y) None a b g h = absurd h
place_then (Some x) (Some y) (Some z) a b g h = goes_then x y z a b g h

place_map : (f : Session → Session) (x : Option Session) → ((y : Session) → HearsOn y (f y)) → PlaceGoesOn x (option_map f x) []
place_map f None h = refl
place_map f (Some x) h = goes_hearing x (f x) (h x)

-- the world after an entry
ended_goes : (i : ℕ) (w : World) (b : Bool) → PlaceGoesOn (slice_get w.sessions i) (slice_get (world_ended_if b w).sessions i) []
ended_goes i w true =
    subst (λ (y : Option Session). PlaceGoesOn (slice_get w.sessions i) y []) (sym (slice_get-map (session_quit w.entries) w.sessions i))
    (place_map (session_quit w.entries) (slice_get w.sessions i) (λ y. hears_quit w.entries y))
ended_goes i w false = place_same (slice_get w.sessions i)

-- a world with the sessions at the end of an entry
end_goes : (i : ℕ) (x : Option Session) (w v : World) (gave : List Sent) → v.sessions ≡ (world_then w).sessions → PlaceGoesOn x (slice_get w.sessions i) gave
    → PlaceGoesOn x (slice_get v.sessions i) gave
end_goes i x w v gave same h =
    subst (λ (xs : List Session). PlaceGoesOn x (slice_get xs i) gave) (sym same)
    (subst (λ (l : List Sent). PlaceGoesOn x (slice_get (world_then w).sessions i) l) (append-nil gave)
    (place_then x (slice_get w.sessions i) (slice_get (world_then w).sessions i) gave [] h (ended_goes i w (w.entries + 1 == w.limits.entries))))

entry_goes : (i : ℕ) (x : Option Session) (w v : World) (gave : List Sent) → PlaceGoesOn x (slice_get w.sessions i) gave → Some (after_entry w) ≡ Some v
    → PlaceGoesOn x (slice_get v.sessions i) gave
entry_goes i x w v gave h e =
    subst (λ (u : World). PlaceGoesOn x (slice_get u.sessions i) gave) (same_Some (after_entry w) v e)
    (end_goes i x w (after_entry w) gave (at_end_sessions false w) h)

settled_entry_goes : (i : ℕ) (x : Option Session) (w v : World) (gave : List Sent) (is_seen : Bool) → PlaceGoesOn x (slice_get w.sessions i) gave
    → Some (after_settled_entry is_seen w) ≡ Some v → PlaceGoesOn x (slice_get v.sessions i) gave
settled_entry_goes i x w v gave is_seen h e =
    subst (λ (u : World). PlaceGoesOn x (slice_get u.sessions i) gave) (same_Some (after_settled_entry is_seen w) v e)
    (end_goes i x w (after_settled_entry is_seen w) gave (at_end_sessions is_seen w) h)

opened_goes : (i : ℕ) (xs : List Session) → PlaceGoesOn (slice_get xs i) (slice_get (xs ++ fresh_session ∷ []) i) []
opened_goes i xs =
    get_push (λ (y : Option Session). PlaceGoesOn (slice_get xs i) y []) xs fresh_session i
    (λ e. subst (λ (x : Option Session). PlaceGoesOn x (Some fresh_session) []) (sym e) (goes_same fresh_session)) (place_same (slice_get xs i))

opening_goes : (i : ℕ) (w v : World) (e : Option ℕ) → world_made (opening_outcome e w) ≡ Some v → PlaceGoesOn (slice_get w.sessions i) (slice_get v.sessions i) []
opening_goes i w v (Some e) f = absurd (none-some v f)
opening_goes i w v None f =
    entry_goes i (slice_get w.sessions i) (record w { sessions = w.sessions ++ fresh_session ∷ [] }) v [] (opened_goes i w.sessions) f

called_goes : (i : ℕ) (w v : World) (s : ℕ) (x : Session) (call : Call) (b : Bool) → world_made (held_outcome b w s x call) ≡ Some v
    → PlaceGoesOn (slice_get w.sessions i) (slice_get v.sessions i) []
called_goes i w v s x call true f = absurd (none-some v f)
called_goes i w v s x call false f =
    settled_entry_goes i (slice_get w.sessions i) (world_after_call w s call (outcome_of_frame w.editor s call)) v [] (outcome_of_frame w.editor s call).is_seen
    (subst (λ (y : Option Session). PlaceGoesOn (slice_get w.sessions i) y [])
    (sym (get_after_call w.entries w.capacity s 1 (outcome_of_frame w.editor s call).facts (reply_message call (outcome_of_frame w.editor s call).result) w.sessions i))
    (place_map (session_after_call w.entries w.capacity ((1 + i) == s) (outcome_of_frame w.editor s call).facts (reply_message call (outcome_of_frame w.editor s call).result)) (slice_get w.sessions i)
    (λ y. hears_call w.entries w.capacity ((1 + i) == s) (outcome_of_frame w.editor s call).facts (reply_message call (outcome_of_frame w.editor s call).result) y))) f

requests_goes : (i : ℕ) (w v : World) (s : ℕ) (x : Option Session) (call : Call) → world_made (request_outcome x w s call) ≡ Some v
    → PlaceGoesOn (slice_get w.sessions i) (slice_get v.sessions i) []
requests_goes i w v s None call f = absurd (none-some v f)
requests_goes i w v s (Some x) call f = by_cause x.closed f
  where
    by_cause : (c : Option Cause) → world_made (live_request_outcome c w s x call) ≡ Some v → PlaceGoesOn (slice_get w.sessions i) (slice_get v.sessions i) []
    by_cause None g = called_goes i w v s x call _ g
    by_cause (Some c) g = absurd (none-some v g)

-- another session in the place of one
set_goes : (xs : List Session) (p i : ℕ) (x y : Session) (gave : List Sent) → slice_get xs p ≡ Some x → GoesOn x y gave → (b : Bool) → (suc p == suc i) ≡ b
    → (r : Bool → List Sent) → r true ≡ gave → r false ≡ [] → PlaceGoesOn (slice_get xs i) (slice_get (slice_set xs p y) i) (r b)
set_goes xs p i x y gave e h true same r f g =
    let here : p ≡ i = grind (arith, nat_tests) in
    subst (λ (j : ℕ). PlaceGoesOn (slice_get xs j) (slice_get (slice_set xs p y) j) (r true)) here
    (subst (λ (z : Option Session). PlaceGoesOn z (slice_get (slice_set xs p y) p) (r true)) (sym e)
    (subst (λ (z : Option Session). PlaceGoesOn (Some x) z (r true)) (sym (set_here xs p x y e))
    (subst (λ (l : List Sent). GoesOn x y l) (sym f) h)))
set_goes xs p i x y gave e h false same r f g =
    let apart : p ≢ i = λ (k : p ≡ i). grind (arith, nat_tests) in
    subst (λ (z : Option Session). PlaceGoesOn (slice_get xs i) z (r false)) (sym (set_there xs p i y apart))
    (subst (λ (l : List Sent). PlaceGoesOn (slice_get xs i) (slice_get xs i) l) (sym g) (place_same (slice_get xs i)))

closing_goes : (i : ℕ) (w v : World) (s : ℕ) (x : Session) (c : Option Cause) → session_of w s ≡ Some x → x.closed ≡ c → world_made (live_close_outcome c w s x) ≡ Some v
    → PlaceGoesOn (slice_get w.sessions i) (slice_get v.sessions i) []
closing_goes i w v zero x c e f g = absurd (none-some x e)
closing_goes i w v (suc p) x (Some c) e f g = absurd (none-some v g)
closing_goes i w v (suc p) x None e f g =
    settled_entry_goes i (slice_get w.sessions i) (with_session_at w (suc p) (session_closed_by (closed_at w.entries) x)) v [] false
    (set_goes w.sessions p i x (session_closed_by (closed_at w.entries) x) [] e
    (record { more = []; waits = sym (append-nil x.waiting); stays = λ d h. absurd (none-some d (sym f ∙ h)) })
    (suc p == suc i) refl (λ b. []) refl refl) g

closes_goes : (i : ℕ) (w v : World) (s : ℕ) (x : Option Session) → session_of w s ≡ x → world_made (close_outcome x w s) ≡ Some v
    → PlaceGoesOn (slice_get w.sessions i) (slice_get v.sessions i) []
closes_goes i w v s None e f = absurd (none-some v f)
closes_goes i w v s (Some x) e f = closing_goes i w v s x x.closed e refl f

taking_goes : (i : ℕ) (w v : World) (s : ℕ) (x : Session) (none scene : Bool) → session_of w s ≡ Some x → world_made (some_take_outcome none scene w s x) ≡ Some v
    → PlaceGoesOn (slice_get w.sessions i) (slice_get v.sessions i) (all_messages (batch_if (s == suc i) (batch_of (some_take_outcome none scene w s x))))
taking_goes i w v s x true scene e g = by_cause x.closed g
  where
    by_cause : (c : Option Cause) → world_made (empty_take_outcome c) ≡ Some v
        → PlaceGoesOn (slice_get w.sessions i) (slice_get v.sessions i) (all_messages (batch_if (s == suc i) (batch_of (empty_take_outcome c))))
    by_cause None h = absurd (none-some v h)
    by_cause (Some c) h = absurd (none-some v h)
taking_goes i w v zero x false scene e g = absurd (none-some x e)
taking_goes i w v (suc p) x false scene e g =
    let y : Session = session_emptied (shown_after scene w.stamp x.shown) x in
    let b : TakenBatch = record { messages = x.waiting; editor = editor_due scene w.editor } in
    entry_goes i (slice_get w.sessions i) (with_session_at w (suc p) y) v (all_messages (batch_if (suc p == suc i) (b ∷ [])))
    (set_goes w.sessions p i x y x.waiting e
    (record { more = []; waits = refl; stays = λ d h. (h, refl) })
    (suc p == suc i) refl (λ t. all_messages (batch_if t (b ∷ []))) (append-nil x.waiting) refl) g

takes_goes : (i : ℕ) (w v : World) (s : ℕ) (x : Option Session) → session_of w s ≡ x → world_made (take_outcome x w s) ≡ Some v
    → PlaceGoesOn (slice_get w.sessions i) (slice_get v.sessions i) (all_messages (batch_if (s == suc i) (batch_of (take_outcome x w s))))
takes_goes i w v s None e f = absurd (none-some v f)
takes_goes i w v s (Some x) e f = taking_goes i w v s x (is_nothing_due x.waiting (is_scene_due w s x)) (is_scene_due w s x) e f

pub step_goes : (i : ℕ) (w v : World) (event : Event) → world_made (step w event) ≡ Some v
    → PlaceGoesOn (slice_get w.sessions i) (slice_get v.sessions i) (all_messages (given (suc i) event (step w event)))
step_goes i w v open_session e = opening_goes i w v w.ended e
step_goes i w v (request_of s call) e = requests_goes i w v s (session_of w s) call e
step_goes i w v (take_of s) e = takes_goes i w v s (session_of w s) refl e
step_goes i w v (close_of s) e = closes_goes i w v s (session_of w s) refl e
