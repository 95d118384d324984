-- What an event makes of the sessions and of the world.
use Rattle.std.proofs.Common.{◌≡◌, ℕ, zero, suc, ◌+◌, ◌-◌, ◌<◌, ◌≤◌, Bool, true, false, not, ◌&&◌, cond, eqb, ltb, ℤ, List, [], ◌∷◌, ◌++◌, length, map, take, get_or, set, refl, sym, ap, ◌∙◌, subst, Option, Some, None, option_map, is_some, IfSome, slice_get, arith, add-one}
use Rattle.std.specs.List.{AllZip, list_any}
use Rattle.std.specs.Option.{option_map_or}
use Rattle.std.specs.Ordering.{int_eq}
use Rattle.std.proofs.lemmas.Bool.Decides.{nat_tests}
use Rattle.std.proofs.lemmas.Slice.Zip.{AllZip-long}
use Rattle.nv_rpc.specs.Calls.{Call}
use Rattle.nv_rpc.specs.Messages.{Sent}
use Rattle.nv_model.specs.Answers.{Fact}
use Rattle.nv_subs.specs.Attachments.{Attachments, sessions_of, is_session_of, without_session}
use Rattle.nv_dispatch.specs.Calls.{CallOutcome, editor_after}
use Rattle.nv_history.specs.Events.{Cause, quit_at}
use Rattle.nv_history.specs.Sessions.{Session, fresh_session, follows, unless_closed, session_closed_by, session_quit, session_quit_if, session_hears, session_hears_all, session_replied, session_after_call, sessions_after_call, has_quit, reply_message}
use Rattle.nv_history.specs.Worlds.{World, first_end, world_ended_if, world_counted, after_entry, world_after_call}
use Rattle.nv_world.specs.declared.session.Session.{Session as Kept}
use Rattle.nv_world.specs.inside.Sessions.{IsSession, AreSessions, follows_at}
use Rattle.nv_world.specs.inside.Tellings.{map_by_number, updated_place, sessions_hear, sessions_hear_all, sessions_replied, is_closed_at}
use Rattle.nv_world.proofs.Places.{AllZip-updated, AllZip-set}
use Rattle.nv_world.proofs.Members.{eqb-same, same_number, is_session_of-without}
use Rattle.nv_world.proofs.Heard.{IsQuiet, nothing_where_closed}
use Rattle.nv_world.proofs.Retelling.{quiet_at, pair_at}
use Rattle.nv_world.proofs.Rounds.{kept_at}

-- who is attached where nobody is
pub nobody_follows : (n : ℤ) (s : ℕ) → false ≡ follows_at n [] s
nobody_follows n zero = refl
nobody_follows n (suc place) = refl

-- ---- the end of the world

-- the first sessions are closed
abbrev pub quit_first : ℕ → ℕ → List Session → List Session
quit_first at zero ys = ys
quit_first at (suc i) [] = []
quit_first at (suc i) (y ∷ ys) = session_quit at y ∷ quit_first at i ys

pub quit_next : (at i : ℕ) (ys : List Session) → quit_first at (suc i) ys ≡ updated_place (session_quit at) i (quit_first at i ys)
quit_next at zero [] = refl
quit_next at zero (y ∷ ys) = refl
quit_next at (suc i) [] = refl
quit_next at (suc i) (y ∷ ys) = ap (λ (l : List Session). session_quit at y ∷ l) (quit_next at i ys)

pub quit_all : (at i : ℕ) (ys : List Session) → length ys ≤ i → quit_first at i ys ≡ map (session_quit at) ys
quit_all at zero [] past = refl
quit_all at zero (y ∷ ys) past = absurd (omega arith)
quit_all at (suc i) [] past = refl
quit_all at (suc i) (y ∷ ys) past = ap (λ (l : List Session). session_quit at y ∷ l) (quit_all at i ys (omega arith))

pub quit_closed : (at : ℕ) (y : Session) → is_some (session_quit at y).closed ≡ true
quit_closed at y = by y.closed refl
  where
    by : (o : Option Cause) → y.closed ≡ o → is_some (unless_closed o (session_closed_by (quit_at at) y) y).closed ≡ true
    by None e = refl
    by (Some cause) e = ap (λ (o : Option Cause). is_some o) e

-- then nobody is attached to anything
pub nobody_after_quit : (capacity at : ℕ) (xs : List Kept) (ys : List Session) (n : ℤ) (s : ℕ)
    → AllZip (IsSession capacity) xs (map (session_quit at) ys) → false ≡ follows_at n (map (session_quit at) ys) s
nobody_after_quit capacity at xs ys n zero pairs = refl
nobody_after_quit capacity at xs ys n (suc place) pairs = by_place xs ys place pairs
  where
    by_place : (xs : List Kept) (ys : List Session) (i : ℕ) → AllZip (IsSession capacity) xs (map (session_quit at) ys)
        → false ≡ option_map_or (follows n) (slice_get (map (session_quit at) ys) i) false
    by_place xs [] i pairs = refl
    by_place [] (y ∷ ys) i pairs = absurd pairs
    by_place (x ∷ xs) (y ∷ ys) zero pairs = sym (nothing_where_closed n (session_quit at y) pairs.0.quiet (quit_closed at y))
    by_place (x ∷ xs) (y ∷ ys) (suc i) pairs = by_place xs ys i pairs.1

-- ---- a session more

pub AllZip-end : {A B : Type 0} (R : A → B → Type 0) (xs : List A) (ys : List B) (x : A) (y : B) → AllZip R xs ys → R x y
    → AllZip R (xs ++ x ∷ []) (ys ++ y ∷ [])
AllZip-end R [] [] x y pairs made = (made, tt)
AllZip-end R [] (v ∷ ys) x y pairs made = absurd pairs
AllZip-end R (w ∷ xs) [] x y pairs made = absurd pairs
AllZip-end R (w ∷ xs) (v ∷ ys) x y pairs made = (pairs.0, AllZip-end R xs ys x y pairs.1 made)

pub follows-end : (n : ℤ) (ys : List Session) (s : ℕ) → follows_at n ys s ≡ follows_at n (ys ++ fresh_session ∷ []) s
follows-end n ys zero = refl
follows-end n ys (suc place) = by_place ys place
  where
    by_place : (ys : List Session) (i : ℕ) → option_map_or (follows n) (slice_get ys i) false ≡ option_map_or (follows n) (slice_get (ys ++ fresh_session ∷ []) i) false
    by_place [] zero = refl
    by_place [] (suc i) = refl
    by_place (y ∷ ys) zero = refl
    by_place (y ∷ ys) (suc i) = by_place ys i

-- ---- a whole call

map_same : (k : ℕ) (ys : List Session) → map_by_number (λ j y. y) k ys ≡ ys
map_same k [] = refl
map_same k (y ∷ ys) = ap (λ (l : List Session). y ∷ l) (map_same (k + 1) ys)

map_twice : (f g : ℕ → Session → Session) (k : ℕ) (ys : List Session)
    → map_by_number f k (map_by_number g k ys) ≡ map_by_number (λ j y. f j (g j y)) k ys
map_twice f g k [] = refl
map_twice f g k (y ∷ ys) = ap (λ (l : List Session). f k (g k y) ∷ l) (map_twice f g (k + 1) ys)

map_after : (f : Session → Session) (g : ℕ → Session → Session) (k : ℕ) (ys : List Session)
    → map f (map_by_number g k ys) ≡ map_by_number (λ j y. f (g j y)) k ys
map_after f g k [] = refl
map_after f g k (y ∷ ys) = ap (λ (l : List Session). f (g k y) ∷ l) (map_after f g (k + 1) ys)

hear_all_is : (at capacity caller : ℕ) (facts : List Fact) (ys : List Session)
    → sessions_hear_all at capacity caller facts ys ≡ map_by_number (λ k y. session_hears_all at capacity (eqb k caller) facts y) 1 ys
hear_all_is at capacity caller [] ys = sym (map_same 1 ys)
hear_all_is at capacity caller (fact ∷ facts) ys =
    hear_all_is at capacity caller facts (sessions_hear at capacity caller fact ys)
    ∙ map_twice (λ k y. session_hears_all at capacity (eqb k caller) facts y) (λ k y. session_hears at capacity (eqb k caller) fact y) 1 ys

after_call_is : (at capacity caller k : ℕ) (facts : List Fact) (answer : Option Sent) (ys : List Session)
    → sessions_after_call at capacity caller k facts answer ys
    ≡ map_by_number (λ j y. session_after_call at capacity (eqb j caller) facts answer y) k ys
after_call_is at capacity caller k facts answer [] = refl
after_call_is at capacity caller k facts answer (y ∷ ys) =
    ap (λ (l : List Session). session_after_call at capacity (eqb k caller) facts answer y ∷ l) (after_call_is at capacity caller (k + 1) facts answer ys)

told_is : (at capacity caller : ℕ) (facts : List Fact) (answer : Option Sent) (ys : List Session)
    → sessions_replied at capacity caller answer (sessions_hear_all at capacity caller facts ys)
    ≡ map_by_number (λ k y. session_replied (eqb k caller) at capacity answer (session_hears_all at capacity (eqb k caller) facts y)) 1 ys
told_is at capacity caller facts answer ys =
    ap (λ (l : List Session). sessions_replied at capacity caller answer l) (hear_all_is at capacity caller facts ys)
    ∙ map_twice (λ k y. session_replied (eqb k caller) at capacity answer y) (λ k y. session_hears_all at capacity (eqb k caller) facts y) 1 ys

-- the world once a call was told, and then ended where its facts say so, is that after the call
pub called_world : World → CallOutcome → List Session → World
called_world w o ys = record w { editor = editor_after w.editor o; sessions = ys }

pub call_ends : (w : World) (s : ℕ) (call : Call) (o : CallOutcome)
    → world_ended_if (has_quit o.facts)
    (record w {
      editor = editor_after w.editor o;
      sessions = sessions_replied w.entries w.capacity s (reply_message call o.result) (sessions_hear_all w.entries w.capacity s o.facts w.sessions);
    })
    ≡ world_after_call w s call o
call_ends w s call o = by (has_quit o.facts) refl
  where
    told : List Session
    told = sessions_replied w.entries w.capacity s (reply_message call o.result) (sessions_hear_all w.entries w.capacity s o.facts w.sessions)

    quits : (b : Bool) → has_quit o.facts ≡ b
        → sessions_after_call w.entries w.capacity s 1 o.facts (reply_message call o.result) w.sessions
        ≡ map_by_number (λ k y. session_quit_if b w.entries (session_replied (eqb k s) w.entries w.capacity (reply_message call o.result) (session_hears_all w.entries w.capacity (eqb k s) o.facts y))) 1 w.sessions
    quits b e =
        after_call_is w.entries w.capacity s 1 o.facts (reply_message call o.result) w.sessions
        ∙ ap (λ (c : Bool). map_by_number (λ k y. session_quit_if c w.entries (session_replied (eqb k s) w.entries w.capacity (reply_message call o.result) (session_hears_all w.entries w.capacity (eqb k s) o.facts y))) 1 w.sessions) e

    kept : (o : Option ℕ) → o ≡ first_end false w.entries o
    kept None = refl
    kept (Some entry) = refl

    by : (b : Bool) → has_quit o.facts ≡ b
        → world_ended_if b
        (record w {
          editor = editor_after w.editor o;
          sessions = sessions_replied w.entries w.capacity s (reply_message call o.result) (sessions_hear_all w.entries w.capacity s o.facts w.sessions);
        })
        ≡ record w {
          editor = editor_after w.editor o;
          sessions = sessions_after_call w.entries w.capacity s 1 o.facts (reply_message call o.result) w.sessions;
          ended = first_end (has_quit o.facts) w.entries w.ended;
        }
    by true e =
        let a : map (session_quit w.entries) (sessions_replied w.entries w.capacity s (reply_message call o.result) (sessions_hear_all w.entries w.capacity s o.facts w.sessions))
        ≡ sessions_after_call w.entries w.capacity s 1 o.facts (reply_message call o.result) w.sessions =
        ap (λ (l : List Session). map (session_quit w.entries) l) (told_is w.entries w.capacity s o.facts (reply_message call o.result) w.sessions)
        ∙ map_after (session_quit w.entries) (λ k y. session_replied (eqb k s) w.entries w.capacity (reply_message call o.result) (session_hears_all w.entries w.capacity (eqb k s) o.facts y)) 1 w.sessions
        ∙ sym (quits true e) in
        let d : first_end true w.entries w.ended ≡ first_end (has_quit o.facts) w.entries w.ended =
        ap (λ (c : Bool). first_end c w.entries w.ended) (sym e) in
        λ i. record { capacity = w.capacity; limits = w.limits; editor = editor_after w.editor o; sessions = a i; entries = w.entries; ended = d i; stamp = w.stamp }
    by false e =
        let a : sessions_replied w.entries w.capacity s (reply_message call o.result) (sessions_hear_all w.entries w.capacity s o.facts w.sessions)
        ≡ sessions_after_call w.entries w.capacity s 1 o.facts (reply_message call o.result) w.sessions =
        told_is w.entries w.capacity s o.facts (reply_message call o.result) w.sessions ∙ sym (quits false e) in
        let d : w.ended ≡ first_end (has_quit o.facts) w.entries w.ended =
        kept w.ended ∙ ap (λ (c : Bool). first_end c w.entries w.ended) (sym e) in
        λ i. record { capacity = w.capacity; limits = w.limits; editor = editor_after w.editor o; sessions = a i; entries = w.entries; ended = d i; stamp = w.stamp }

-- ---- one session less

pub without_closed : (capacity place : ℕ) (cause : Cause) (subs later : Attachments) (xs : List Kept) (ys : List Session) (x : Kept) (y : Session)
    → AreSessions capacity subs xs ys → slice_get ys place ≡ Some y → IsSession capacity x (session_closed_by cause y)
    → ((n : ℤ) → sessions_of later n ≡ without_session (suc place) (sessions_of subs n))
    → AreSessions capacity later (set xs place x) (set ys place (session_closed_by cause y))
without_closed capacity place cause subs later xs ys x y old there is left = record {
  pairs = AllZip-set (IsSession capacity) xs ys place x (session_closed_by cause y) old.pairs is;
  told = λ n s.
      ap (λ (l : List ℕ). is_session_of l s) (left n) ∙ is_session_of-without (suc place) s (sessions_of subs n)
      ∙ ap (λ (b : Bool). not (eqb s (suc place)) && b) (old.told n s) ∙ by_number n s;
}
  where
    by_place : (n : ℤ) (ys : List Session) (p i : ℕ)
        → (not (eqb (suc i) (suc p)) && option_map_or (follows n) (slice_get ys i) false)
        ≡ option_map_or (follows n) (slice_get (set ys p (session_closed_by cause y)) i) false
    by_place n [] p i = and_false (not (eqb (suc i) (suc p)))
      where
        and_false : (b : Bool) → (b && false) ≡ false
        and_false true = refl
        and_false false = refl
    by_place n (z ∷ ys) zero zero = ap (λ (b : Bool). not b && follows n z) (eqb-same 1)
    by_place n (z ∷ ys) zero (suc i) = ap (λ (b : Bool). not b && option_map_or (follows n) (slice_get ys i) false) (apart i)
      where
        apart : (i : ℕ) → eqb (suc (suc i)) 1 ≡ false
        apart i = grind (arith, nat_tests)
    by_place n (z ∷ ys) (suc p) zero = ap (λ (b : Bool). not b && follows n z) (apart p)
      where
        apart : (p : ℕ) → eqb 1 (suc (suc p)) ≡ false
        apart p = grind (arith, nat_tests)
    by_place n (z ∷ ys) (suc p) (suc i) =
        ap (λ (b : Bool). not b && option_map_or (follows n) (slice_get ys i) false) (lower i p) ∙ by_place n ys p i
      where
        lower : (i p : ℕ) → eqb (suc (suc i)) (suc (suc p)) ≡ eqb (suc i) (suc p)
        lower i p = grind (arith, nat_tests)

    by_number : (n : ℤ) (s : ℕ) → (not (eqb s (suc place)) && follows_at n ys s) ≡ follows_at n (set ys place (session_closed_by cause y)) s
    by_number n zero = none (not (eqb 0 (suc place)))
      where
        none : (b : Bool) → (b && false) ≡ false
        none true = refl
        none false = refl
    by_number n (suc i) = by_place n ys place i

-- a session from which what waited was taken
pub with_emptied : (capacity place : ℕ) (subs : Attachments) (xs : List Kept) (ys : List Session) (x : Kept) (y z : Session)
    → AreSessions capacity subs xs ys → slice_get ys place ≡ Some y → z.following ≡ y.following → IsSession capacity x z
    → AreSessions capacity subs (set xs place x) (set ys place z)
with_emptied capacity place subs xs ys x y z old there same is = record {
  pairs = AllZip-set (IsSession capacity) xs ys place x z old.pairs is;
  told = λ n s. old.told n s ∙ by_number n s;
}
  where
    by_place : (n : ℤ) (ys : List Session) (p i : ℕ) → slice_get ys p ≡ Some y
        → option_map_or (follows n) (slice_get ys i) false ≡ option_map_or (follows n) (slice_get (set ys p z) i) false
    by_place n [] p i e = refl
    by_place n (v ∷ ys) zero zero e =
        let f : v ≡ y = cc in
        ap (λ (u : Session). follows n u) f ∙ ap (λ (l : List ℤ). list_any (λ k. int_eq k n) l) (sym same)
    by_place n (v ∷ ys) zero (suc i) e = refl
    by_place n (v ∷ ys) (suc p) zero e = refl
    by_place n (v ∷ ys) (suc p) (suc i) e = by_place n ys p i e

    by_number : (n : ℤ) (s : ℕ) → follows_at n ys s ≡ follows_at n (set ys place z) s
    by_number n zero = refl
    by_number n (suc i) = by_place n ys place i there

-- one session more is closed
pub quit_more : (capacity at i : ℕ) (xs : List Kept) (ys : List Session) (d new : Kept) → AllZip (IsSession capacity) xs (quit_first at i ys)
    → ((y : Session) → IsSession capacity (get_or xs i d) y → IsSession capacity new (session_quit at y))
    → AllZip (IsSession capacity) (set xs i new) (quit_first at (i + 1) ys)
quit_more capacity at i xs ys d new pairs made =
    subst (λ (j : ℕ). AllZip (IsSession capacity) (set xs i new) (quit_first at j ys)) (sym (add-one i))
    (subst (λ (l : List Session). AllZip (IsSession capacity) (set xs i new) l) (sym (quit_next at i ys))
    (AllZip-updated (IsSession capacity) (session_quit at) xs (quit_first at i ys) i new pairs (λ y there. made y (kept_at capacity xs (quit_first at i ys) i d y pairs there))))

length_quit : (at i : ℕ) (ys : List Session) → length (quit_first at i ys) ≡ length ys
length_quit at zero ys = refl
length_quit at (suc i) [] = refl
length_quit at (suc i) (y ∷ ys) = ap suc (length_quit at i ys)

pub quit_whole : (capacity at i : ℕ) (xs : List Kept) (ys : List Session) → length xs ≤ i → AllZip (IsSession capacity) xs (quit_first at i ys)
    → AllZip (IsSession capacity) xs (map (session_quit at) ys)
quit_whole capacity at i xs ys past pairs =
    let many = AllZip-long (IsSession capacity) xs (quit_first at i ys) pairs in
    let same = length_quit at i ys in
    subst (λ (l : List Session). AllZip (IsSession capacity) xs l) (quit_all at i ys (omega (arith, many, same))) pairs
