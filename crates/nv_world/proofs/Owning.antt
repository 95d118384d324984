-- What its own call makes of a session, and facts that change nothing.
use Rattle.std.proofs.Common.{◌≡◌, ℕ, zero, suc, ◌+◌, ◌-◌, ◌<◌, ◌≤◌, Bool, true, false, not, ◌&&◌, ◌||◌, cond, eqb, ℤ, List, [], ◌∷◌, length, refl, sym, ap, ◌∙◌, subst, Option, Some, None, option_map, is_some, IfSome, slice_get, arith}
use Rattle.std.specs.List.{AllZip, list_any}
use Rattle.std.specs.Option.{option_map_or}
use Rattle.std.specs.Ordering.{int_eq}
use Rattle.std.proofs.lemmas.Bool.Decides.{nat_tests}
use Rattle.std.proofs.lemmas.Slice.Zip.{AllZip-long}
use Rattle.nv_rpc.specs.Messages.{Sent, detach_event}
use Rattle.nv_model.specs.Answers.{Fact, attached, detached, quit}
use Rattle.nv_subs.specs.Attachments.{Attachments, HasSessions, sessions_of, is_session_of, with_session, without_session}
use Rattle.nv_history.specs.Events.{Cause}
use Rattle.nv_history.specs.Sessions.{Session, follows, without_following, session_hears, first_message}
use Rattle.nv_world.specs.declared.session.Session.{Session as Kept}
use Rattle.nv_world.specs.inside.Sessions.{IsSession, AreSessions}
use Rattle.nv_world.specs.inside.Tellings.{map_by_number, session_put, session_updated, is_closed_at}
use Rattle.nv_world.proofs.Places.{picked, get-session_updated}
use Rattle.nv_world.proofs.Members.{and-false, eqb-same, same_number, same_buffer, int_eq-turned, is_session_of-without, is_session_of-with, told_in}
use Rattle.nv_world.proofs.Heard.{IsQuiet, follows-put, follows-without, put_closed, nothing_where_closed, hears_closed, attach_put, attach_other, detach_put, detach_other}
use Rattle.nv_world.proofs.Retelling.{quiet_at, closed_is, sessions_made, one_retold}

-- what is at a place within a list
pub there_is : {A : Type 0} (xs : List A) (i : ℕ) → i < length xs → (x : A) × (slice_get xs i ≡ Some x)
there_is [] i within = absurd (omega arith)
there_is (x ∷ xs) zero within = (x, refl)
there_is (x ∷ xs) (suc i) within = there_is xs i (omega arith)

turned_number : (a b : ℕ) → eqb a b ≡ eqb b a
turned_number a b = grind (arith, nat_tests)

-- what a put leaves it attached to, whether it was closed or not
pub follows-put_any : (at capacity : ℕ) (message : Sent) (following : Session → List ℤ) (k : ℤ) (y : Session) → IsQuiet y
    → follows k (session_put at capacity message following y)
    ≡ (not (is_some (session_put at capacity message following y).closed) && list_any (λ j. int_eq j k) (following y))
follows-put_any at capacity message following k y quiet = by y.closed refl
  where
    by : (o : Option Cause) → y.closed ≡ o → follows k (session_put at capacity message following y)
        ≡ (not (is_some (session_put at capacity message following y).closed) && list_any (λ j. int_eq j k) (following y))
    by None is = follows-put at capacity message following k y is
    by (Some cause) is =
        let shut : is_some y.closed ≡ true = ap (λ (o : Option Cause). is_some o) is in
        let same = put_closed at capacity message following y shut in
        ap (λ (z : Session). follows k z) same ∙ nothing_where_closed k y quiet shut
        ∙ sym (ap (λ (z : Session). not (is_some z.closed) && list_any (λ j. int_eq j k) (following y)) same
        ∙ ap (λ (b : Bool). not b && list_any (λ j. int_eq j k) (following y)) shut)

-- nothing changes
pub unchanged_retold : (capacity : ℕ) (subs later : Attachments) (xs : List Kept) (ys : List Session) (g : ℕ → Session → Session)
    → AreSessions capacity subs xs ys
    → ((k : ℤ) (s : ℕ) → is_session_of (sessions_of later k) s ≡ is_session_of (sessions_of subs k) s)
    → ((i : ℕ) (y : Session) → slice_get ys i ≡ Some y → IsQuiet y → g (suc i) y ≡ y)
    → AreSessions capacity later xs (map_by_number g 1 ys)
unchanged_retold capacity subs later xs ys g old stay still =
    sessions_made capacity later xs ys ys g old.pairs (λ i. each i (slice_get ys i) (λ y e. quiet_at capacity xs ys i y old.pairs e) refl)
    (λ k. stay k 0 ∙ old.told k 0)
    (λ k i. stay k (suc i) ∙ old.told k (suc i) ∙ told k i (slice_get ys i) (λ y e. quiet_at capacity xs ys i y old.pairs e) refl)
  where
    each : (i : ℕ) (o : Option Session) → ((y : Session) → o ≡ Some y → IsQuiet y) → slice_get ys i ≡ o → o ≡ option_map (g (suc i)) o
    each i None quiet e = refl
    each i (Some y) quiet e = ap (λ (z : Session). Some z) (sym (still i y e (quiet y refl)))

    told : (k : ℤ) (i : ℕ) (o : Option Session) → ((y : Session) → o ≡ Some y → IsQuiet y) → slice_get ys i ≡ o
        → option_map_or (follows k) o false ≡ option_map_or (λ (y : Session). follows k (g (suc i) y)) o false
    told k i None quiet e = refl
    told k i (Some y) quiet e = ap (λ (z : Session). follows k z) (sym (still i y e (quiet y refl)))

-- one session is put a message, and leaves all buffers where that closed it
pub own_put : (at capacity place : ℕ) (message : Sent) (following : Session → List ℤ) (subs mid later : Attachments) (xs new : List Kept) (ys : List Session) (y : Session)
    (g : ℕ → Session → Session)
    → AreSessions capacity subs xs ys
    → slice_get ys place ≡ Some y
    → AllZip (IsSession capacity) new (session_updated (session_put at capacity message following) (suc place) ys)
    → ((k : ℤ) → sessions_of later k ≡ cond (is_closed_at new (suc place)) (without_session (suc place) (sessions_of mid k)) (sessions_of mid k))
    → ((k : ℤ) (s : ℕ) → eqb (suc place) s ≡ false → is_session_of (sessions_of mid k) s ≡ is_session_of (sessions_of subs k) s)
    → ((k : ℤ) → is_session_of (sessions_of mid k) (suc place) ≡ list_any (λ j. int_eq j k) (following y))
    → ((s : ℕ) (x : Session) → eqb (suc place) s ≡ false → g s x ≡ x)
    → g (suc place) y ≡ session_put at capacity message following y
    → AreSessions capacity later new (map_by_number g 1 ys)
own_put at capacity place message following subs mid later xs new ys y g old there pairs left stay mine others own =
    one_retold capacity place subs later xs new ys y (session_put at capacity message following) g old there pairs others own
    (λ k s e. ap (λ (l : List ℕ). is_session_of l s) (left k) ∙ kept k s (is_closed_at new (suc place)) e)
    (λ k. ap (λ (l : List ℕ). is_session_of l (suc place)) (left k)
    ∙ ap (λ (b : Bool). is_session_of (cond b (without_session (suc place) (sessions_of mid k)) (sessions_of mid k)) (suc place)) shut
    ∙ owned k (is_some (session_put at capacity message following y).closed)
    ∙ sym (follows-put_any at capacity message following k y (quiet_at capacity xs ys place y old.pairs there)))
  where
    kept : (k : ℤ) (s : ℕ) (b : Bool) → eqb (suc place) s ≡ false
        → is_session_of (cond b (without_session (suc place) (sessions_of mid k)) (sessions_of mid k)) s ≡ is_session_of (sessions_of subs k) s
    kept k s true e =
        is_session_of-without (suc place) s (sessions_of mid k)
        ∙ ap (λ (b : Bool). not b && is_session_of (sessions_of mid k) s) (turned_number s (suc place) ∙ e) ∙ stay k s e
    kept k s false e = stay k s e

    owned : (k : ℤ) (b : Bool) → is_session_of (cond b (without_session (suc place) (sessions_of mid k)) (sessions_of mid k)) (suc place)
        ≡ (not b && list_any (λ j. int_eq j k) (following y))
    owned k true =
        is_session_of-without (suc place) (suc place) (sessions_of mid k)
        ∙ ap (λ (b : Bool). not b && is_session_of (sessions_of mid k) (suc place)) (eqb-same (suc place))
    owned k false = mine k

    at_own : slice_get (session_updated (session_put at capacity message following) (suc place) ys) place ≡ Some (session_put at capacity message following y)
    at_own =
        get-session_updated (session_put at capacity message following) (suc place) ys place
        ∙ ap (λ (b : Bool). option_map (picked b (session_put at capacity message following)) (slice_get ys place)) (eqb-same (suc place))
        ∙ ap (λ (o : Option Session). option_map (session_put at capacity message following) o) there

    shut : is_closed_at new (suc place) ≡ is_some (session_put at capacity message following y).closed
    shut = closed_is capacity new (session_updated (session_put at capacity message following) (suc place) ys) place pairs
        ∙ ap (λ (o : Option Session). option_map_or (λ (z : Session). is_some z.closed) o false) at_own

-- one buffer is followed by one session more
pub with_others : (subs mid : Attachments) (n : ℤ) (caller : ℕ) → HasSessions subs mid n (with_session caller (sessions_of subs n))
    → (k : ℤ) (s : ℕ) → eqb caller s ≡ false → is_session_of (sessions_of mid k) s ≡ is_session_of (sessions_of subs k) s
with_others subs mid n caller has k s apart =
    told_in subs mid n k (with_session caller (sessions_of subs n)) s has
    ∙ by (int_eq n k) refl
  where
    by : (b : Bool) → int_eq n k ≡ b
        → cond b (is_session_of (with_session caller (sessions_of subs n)) s) (is_session_of (sessions_of subs k) s) ≡ is_session_of (sessions_of subs k) s
    by true e =
        is_session_of-with caller s (sessions_of subs n)
        ∙ ap (λ (b : Bool). b || is_session_of (sessions_of subs n) s) apart
        ∙ ap (λ (j : ℤ). is_session_of (sessions_of subs j) s) (same_buffer n k e)
    by false e = refl

pub with_own : (subs mid : Attachments) (n : ℤ) (caller : ℕ) → HasSessions subs mid n (with_session caller (sessions_of subs n))
    → (k : ℤ) → is_session_of (sessions_of mid k) caller ≡ (int_eq n k || is_session_of (sessions_of subs k) caller)
with_own subs mid n caller has k =
    told_in subs mid n k (with_session caller (sessions_of subs n)) caller has ∙ by (int_eq n k)
  where
    by : (b : Bool) → cond b (is_session_of (with_session caller (sessions_of subs n)) caller) (is_session_of (sessions_of subs k) caller)
        ≡ (b || is_session_of (sessions_of subs k) caller)
    by true =
        is_session_of-with caller caller (sessions_of subs n)
        ∙ ap (λ (b : Bool). b || is_session_of (sessions_of subs n) caller) (eqb-same caller)
    by false = refl

-- one buffer is followed by one session less
pub without_others : (subs mid : Attachments) (n : ℤ) (caller : ℕ) → HasSessions subs mid n (without_session caller (sessions_of subs n))
    → (k : ℤ) (s : ℕ) → eqb caller s ≡ false → is_session_of (sessions_of mid k) s ≡ is_session_of (sessions_of subs k) s
without_others subs mid n caller has k s apart =
    told_in subs mid n k (without_session caller (sessions_of subs n)) s has ∙ by (int_eq n k) refl
  where
    by : (b : Bool) → int_eq n k ≡ b
        → cond b (is_session_of (without_session caller (sessions_of subs n)) s) (is_session_of (sessions_of subs k) s) ≡ is_session_of (sessions_of subs k) s
    by true e =
        is_session_of-without caller s (sessions_of subs n)
        ∙ ap (λ (b : Bool). not b && is_session_of (sessions_of subs n) s) (turned_number s caller ∙ apart)
        ∙ ap (λ (j : ℤ). is_session_of (sessions_of subs j) s) (same_buffer n k e)
    by false e = refl

pub without_own : (subs mid : Attachments) (n : ℤ) (caller : ℕ) → HasSessions subs mid n (without_session caller (sessions_of subs n))
    → (k : ℤ) → is_session_of (sessions_of mid k) caller ≡ (not (int_eq n k) && is_session_of (sessions_of subs k) caller)
without_own subs mid n caller has k =
    told_in subs mid n k (without_session caller (sessions_of subs n)) caller has ∙ by (int_eq n k)
  where
    by : (b : Bool) → cond b (is_session_of (without_session caller (sessions_of subs n)) caller) (is_session_of (sessions_of subs k) caller)
        ≡ (not b && is_session_of (sessions_of subs k) caller)
    by true =
        is_session_of-without caller caller (sessions_of subs n)
        ∙ ap (λ (b : Bool). not b && is_session_of (sessions_of subs n) caller) (eqb-same caller)
    by false = refl

-- a number from 1 and its place
pub place_before : (caller : ℕ) → 0 < caller → suc (caller - 1) ≡ caller
place_before caller above = omega arith

-- the session of a call
pub caller_there : (capacity : ℕ) (xs : List Kept) (ys : List Session) (place : ℕ) → AllZip (IsSession capacity) xs ys → suc place ≤ length xs
    → (y : Session) × (slice_get ys place ≡ Some y)
caller_there capacity xs ys place pairs within =
    let many = AllZip-long (IsSession capacity) xs ys pairs in
    there_is ys place (omega (arith, many))

-- attaching where it is closed, where it was attached, and where it wasn't
pub attach_shut : (at capacity place : ℕ) (n : ℤ) (tick : ℕ) (whole : Option (List (List ℕ))) (subs : Attachments) (xs : List Kept) (ys : List Session)
    → suc place ≤ length xs → is_closed_at xs (suc place) ≡ true → AreSessions capacity subs xs ys
    → AreSessions capacity subs xs (map_by_number (λ k y. session_hears at capacity (eqb k (suc place)) (attached n tick whole) y) 1 ys)
attach_shut at capacity place n tick whole subs xs ys within shut old =
    unchanged_retold capacity subs subs xs ys _ old (λ k s. refl) (λ i y there quiet. by i y there (eqb (suc i) (suc place)) refl)
  where
    by : (i : ℕ) (y : Session) → slice_get ys i ≡ Some y → (b : Bool) → eqb (suc i) (suc place) ≡ b
        → session_hears at capacity (eqb (suc i) (suc place)) (attached n tick whole) y ≡ y
    by i y there false e =
        ap (λ (b : Bool). session_hears at capacity b (attached n tick whole) y) e ∙ attach_other at capacity n tick whole y
    by i y there true e =
        let same = same_number (suc i) (suc place) e in
        let closed : is_some y.closed ≡ true =
        sym (closed_is capacity xs ys i old.pairs ∙ ap (λ (o : Option Session). option_map_or (λ (z : Session). is_some z.closed) o false) there)
        ∙ ap (λ (m : ℕ). is_closed_at xs m) same ∙ shut in
        hears_closed at capacity (eqb (suc i) (suc place)) (attached n tick whole) y closed

pub attach_again : (at capacity place : ℕ) (n : ℤ) (tick : ℕ) (whole : Option (List (List ℕ))) (subs mid : Attachments) (xs : List Kept) (ys : List Session)
    → HasSessions subs mid n (with_session (suc place) (sessions_of subs n))
    → is_session_of (sessions_of subs n) (suc place) ≡ true → AreSessions capacity subs xs ys
    → AreSessions capacity mid xs (map_by_number (λ k y. session_hears at capacity (eqb k (suc place)) (attached n tick whole) y) 1 ys)
attach_again at capacity place n tick whole subs mid xs ys has there_already old =
    unchanged_retold capacity subs mid xs ys _ old (λ k s. members k s (eqb (suc place) s) refl) (λ i y there quiet. by i y there (eqb (suc i) (suc place)) refl)
  where
    own_by : (k : ℤ) (b : Bool) → int_eq n k ≡ b → (b || is_session_of (sessions_of subs k) (suc place)) ≡ is_session_of (sessions_of subs k) (suc place)
    own_by k true e = sym (ap (λ (j : ℤ). is_session_of (sessions_of subs j) (suc place)) (sym (same_buffer n k e)) ∙ there_already)
    own_by k false e = refl

    members : (k : ℤ) (s : ℕ) (b : Bool) → eqb (suc place) s ≡ b → is_session_of (sessions_of mid k) s ≡ is_session_of (sessions_of subs k) s
    members k s false e = with_others subs mid n (suc place) has k s e
    members k s true e =
        subst (λ (t : ℕ). is_session_of (sessions_of mid k) t ≡ is_session_of (sessions_of subs k) t) (same_number (suc place) s e)
        (with_own subs mid n (suc place) has k ∙ own_by k (int_eq n k) refl)

    by : (i : ℕ) (y : Session) → slice_get ys i ≡ Some y → (b : Bool) → eqb (suc i) (suc place) ≡ b
        → session_hears at capacity (eqb (suc i) (suc place)) (attached n tick whole) y ≡ y
    by i y there false e =
        ap (λ (b : Bool). session_hears at capacity b (attached n tick whole) y) e ∙ attach_other at capacity n tick whole y
    by i y there true e =
        let same = same_number (suc i) (suc place) e in
        let followed : follows n y ≡ true =
        sym (old.told n (suc i) ∙ ap (λ (o : Option Session). option_map_or (follows n) o false) there)
        ∙ ap (λ (m : ℕ). is_session_of (sessions_of subs n) m) same ∙ there_already in
        ap (λ (b : Bool). session_hears at capacity b (attached n tick whole) y) e
        ∙ attach_put at capacity n tick whole y true followed

pub attach_new : (at capacity place : ℕ) (n : ℤ) (tick : ℕ) (whole : Option (List (List ℕ))) (subs mid later : Attachments) (xs new : List Kept) (ys : List Session)
    → suc place ≤ length xs
    → HasSessions subs mid n (with_session (suc place) (sessions_of subs n))
    → is_session_of (sessions_of subs n) (suc place) ≡ false → AreSessions capacity subs xs ys
    → AllZip (IsSession capacity) new (session_updated (session_put at capacity (first_message n tick whole) (λ x. n ∷ x.following)) (suc place) ys)
    → ((k : ℤ) → sessions_of later k ≡ cond (is_closed_at new (suc place)) (without_session (suc place) (sessions_of mid k)) (sessions_of mid k))
    → AreSessions capacity later new (map_by_number (λ k y. session_hears at capacity (eqb k (suc place)) (attached n tick whole) y) 1 ys)
attach_new at capacity place n tick whole subs mid later xs new ys within has absent old pairs left =
    let found = caller_there capacity xs ys place old.pairs within in
    let y = found.0 in
    let unfollowed : follows n y ≡ false = sym (at_own n y found.1) ∙ absent in
    own_put at capacity place (first_message n tick whole) (λ x. n ∷ x.following) subs mid later xs new ys y _ old found.1 pairs left
    (with_others subs mid n (suc place) has)
    (λ k. with_own subs mid n (suc place) has k ∙ ap (λ (b : Bool). int_eq n k || b) (at_own k y found.1))
    (λ s x e. ap (λ (b : Bool). session_hears at capacity b (attached n tick whole) x) (turned_number s (suc place) ∙ e) ∙ attach_other at capacity n tick whole x)
    (ap (λ (b : Bool). session_hears at capacity b (attached n tick whole) y) (eqb-same (suc place)) ∙ attach_put at capacity n tick whole y false unfollowed)
  where
    at_own : (k : ℤ) (y : Session) → slice_get ys place ≡ Some y → is_session_of (sessions_of subs k) (suc place) ≡ follows k y
    at_own k y there = old.told k (suc place) ∙ ap (λ (o : Option Session). option_map_or (follows k) o false) there

-- detaching where it was attached, and where it wasn't
pub detach_there : (at capacity place : ℕ) (n : ℤ) (subs mid later : Attachments) (xs new : List Kept) (ys : List Session)
    → suc place ≤ length xs
    → HasSessions subs mid n (without_session (suc place) (sessions_of subs n))
    → is_session_of (sessions_of subs n) (suc place) ≡ true → AreSessions capacity subs xs ys
    → AllZip (IsSession capacity) new (session_updated (session_put at capacity (detach_event n) (λ x. (without_following n x).following)) (suc place) ys)
    → ((k : ℤ) → sessions_of later k ≡ cond (is_closed_at new (suc place)) (without_session (suc place) (sessions_of mid k)) (sessions_of mid k))
    → AreSessions capacity later new (map_by_number (λ k y. session_hears at capacity (eqb k (suc place)) (detached n) y) 1 ys)
detach_there at capacity place n subs mid later xs new ys within has present old pairs left =
    let found = caller_there capacity xs ys place old.pairs within in
    let y = found.0 in
    let followed : follows n y ≡ true = sym (at_own n y found.1) ∙ present in
    own_put at capacity place (detach_event n) (λ x. (without_following n x).following) subs mid later xs new ys y _ old found.1 pairs left
    (without_others subs mid n (suc place) has)
    (λ k. without_own subs mid n (suc place) has k ∙ ap (λ (b : Bool). not (int_eq n k) && b) (at_own k y found.1)
    ∙ sym (follows-without n k y ∙ ap (λ (b : Bool). not b && follows k y) (int_eq-turned k n)))
    (λ s x e. ap (λ (b : Bool). session_hears at capacity b (detached n) x) (turned_number s (suc place) ∙ e) ∙ detach_other at capacity n x)
    (ap (λ (b : Bool). session_hears at capacity b (detached n) y) (eqb-same (suc place)) ∙ detach_put at capacity n y true followed)
  where
    at_own : (k : ℤ) (y : Session) → slice_get ys place ≡ Some y → is_session_of (sessions_of subs k) (suc place) ≡ follows k y
    at_own k y there = old.told k (suc place) ∙ ap (λ (o : Option Session). option_map_or (follows k) o false) there

pub detach_absent : (at capacity place : ℕ) (n : ℤ) (subs mid : Attachments) (xs : List Kept) (ys : List Session)
    → HasSessions subs mid n (without_session (suc place) (sessions_of subs n))
    → is_session_of (sessions_of subs n) (suc place) ≡ false → AreSessions capacity subs xs ys
    → AreSessions capacity mid xs (map_by_number (λ k y. session_hears at capacity (eqb k (suc place)) (detached n) y) 1 ys)
detach_absent at capacity place n subs mid xs ys has absent old =
    unchanged_retold capacity subs mid xs ys _ old (λ k s. members k s (eqb (suc place) s) refl) (λ i y there quiet. by i y there (eqb (suc i) (suc place)) refl)
  where
    own_by : (k : ℤ) (b : Bool) → int_eq n k ≡ b → (not b && is_session_of (sessions_of subs k) (suc place)) ≡ is_session_of (sessions_of subs k) (suc place)
    own_by k true e = sym (ap (λ (j : ℤ). is_session_of (sessions_of subs j) (suc place)) (sym (same_buffer n k e)) ∙ absent)
    own_by k false e = refl

    members : (k : ℤ) (s : ℕ) (b : Bool) → eqb (suc place) s ≡ b → is_session_of (sessions_of mid k) s ≡ is_session_of (sessions_of subs k) s
    members k s false e = without_others subs mid n (suc place) has k s e
    members k s true e =
        subst (λ (t : ℕ). is_session_of (sessions_of mid k) t ≡ is_session_of (sessions_of subs k) t) (same_number (suc place) s e)
        (without_own subs mid n (suc place) has k ∙ own_by k (int_eq n k) refl)

    by : (i : ℕ) (y : Session) → slice_get ys i ≡ Some y → (b : Bool) → eqb (suc i) (suc place) ≡ b
        → session_hears at capacity (eqb (suc i) (suc place)) (detached n) y ≡ y
    by i y there false e =
        ap (λ (b : Bool). session_hears at capacity b (detached n) y) e ∙ detach_other at capacity n y
    by i y there true e =
        let same = same_number (suc i) (suc place) e in
        let unfollowed : follows n y ≡ false =
        sym (old.told n (suc i) ∙ ap (λ (o : Option Session). option_map_or (follows n) o false) there)
        ∙ ap (λ (m : ℕ). is_session_of (sessions_of subs n) m) same ∙ absent in
        ap (λ (b : Bool). session_hears at capacity b (detached n) y) e
        ∙ detach_put at capacity n y false unfollowed
