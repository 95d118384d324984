-- The sessions and who is told of what, once some were told.
use Rattle.std.proofs.Common.{◌≡◌, ℕ, zero, suc, ◌+◌, Bool, true, false, not, ◌&&◌, ◌||◌, cond, eqb, ℤ, List, [], ◌∷◌, filter, refl, sym, ap, ◌∙◌, subst, Option, Some, None, option_map, is_some, slice_get, arith}
use Rattle.std.specs.List.{AllZip}
use Rattle.std.specs.Option.{option_map_or}
use Rattle.std.proofs.Math.Dec.{eqb-suc-suc}
use Rattle.std.proofs.lemmas.Bool.Decides.{nat_tests}
use Rattle.nv_subs.specs.Attachments.{Attachments, AreRising, sessions_of, is_session_of, without_session, without_sessions}
use Rattle.nv_history.specs.Events.{Cause}
use Rattle.nv_history.specs.Sessions.{Session, follows}
use Rattle.nv_core.specs.Contents.{plain_cause}
use Rattle.nv_world.specs.declared.session.Session.{Session as Kept}
use Rattle.nv_world.specs.inside.Sessions.{IsSession, AreSessions, follows_at}
use Rattle.nv_world.specs.inside.Tellings.{map_by_number, session_updated, sessions_updated, is_closed_at}
use Rattle.nv_world.proofs.Places.{picked, picked-none, picked-then, get-by_number, get-session_updated, same_by_get}
use Rattle.nv_world.proofs.Members.{and-false, none_above, rising_tail, same_number, is_session_of-without_all, is_session_of-filter}
use Rattle.nv_world.proofs.Closing.{is_some-plain}
use Rattle.nv_world.proofs.Heard.{IsQuiet}

-- the sessions of several numbers in rising order made anew
pub get-sessions_updated : (f : Session → Session) (ss : List ℕ) (ys : List Session) (i : ℕ) → AreRising ss
    → slice_get (sessions_updated f ss ys) i ≡ option_map (picked (is_session_of ss (suc i)) f) (slice_get ys i)
get-sessions_updated f [] ys i rising = sym (picked-none f (slice_get ys i))
get-sessions_updated f (s ∷ ss) ys i rising =
    get-sessions_updated f ss (session_updated f s ys) i (rising_tail s ss rising)
    ∙ ap (λ (o : Option Session). option_map (picked (is_session_of ss (suc i)) f) o) (get-session_updated f s ys i)
    ∙ picked-then f (eqb s (suc i)) (is_session_of ss (suc i)) (slice_get ys i)
    (λ e. ap (λ (n : ℕ). is_session_of ss n) (sym (same_number s (suc i) e)) ∙ none_above s ss rising)

-- the pair at a place
pub pair_at : {A B : Type 0} (R : A → B → Type 0) (xs : List A) (ys : List B) (i : ℕ) (y : B) → AllZip R xs ys
    → slice_get ys i ≡ Some y → (x : A) × (slice_get xs i ≡ Some x) × R x y
pair_at R [] [] i y pairs e = absurd (cc)
pair_at R [] (v ∷ ys) i y pairs e = absurd pairs
pair_at R (w ∷ xs) [] i y pairs e = absurd pairs
pair_at R (w ∷ xs) (v ∷ ys) zero y pairs e =
    (w, refl, subst (λ (z : _). R w z) (let f : v ≡ y = cc in f) pairs.0)
pair_at R (w ∷ xs) (v ∷ ys) (suc i) y pairs e = pair_at R xs ys i y pairs.1 e

-- a session of the model is quiet
pub quiet_at : (capacity : ℕ) (xs : List Kept) (ys : List Session) (i : ℕ) (y : Session)
    → AllZip (IsSession capacity) xs ys → slice_get ys i ≡ Some y → IsQuiet y
quiet_at capacity xs ys i y pairs e = (pair_at (IsSession capacity) xs ys i y pairs e).2.quiet

-- which of them are closed
pub closed_is : (capacity : ℕ) (xs : List Kept) (ys : List Session) (i : ℕ) → AllZip (IsSession capacity) xs ys
    → is_closed_at xs (suc i) ≡ option_map_or (λ (y : Session). is_some y.closed) (slice_get ys i) false
closed_is capacity [] [] i pairs = refl
closed_is capacity [] (y ∷ ys) i pairs = absurd pairs
closed_is capacity (x ∷ xs) [] i pairs = absurd pairs
closed_is capacity (x ∷ xs) (y ∷ ys) zero pairs =
    sym (is_some-plain x.closed) ∙ ap (λ (o : Option Cause). is_some o) pairs.0.closed
closed_is capacity (x ∷ xs) (y ∷ ys) (suc i) pairs = closed_is capacity xs ys i pairs.1

-- the sessions made anew as each is by its number
pub sessions_made : (capacity : ℕ) (subs : Attachments) (xs : List Kept) (zs ys : List Session) (g : ℕ → Session → Session)
    → AllZip (IsSession capacity) xs zs
    → ((i : ℕ) → slice_get zs i ≡ option_map (g (suc i)) (slice_get ys i))
    → ((k : ℤ) → is_session_of (sessions_of subs k) 0 ≡ false)
    → ((k : ℤ) (i : ℕ) → is_session_of (sessions_of subs k) (suc i) ≡ option_map_or (λ (y : Session). follows k (g (suc i) y)) (slice_get ys i) false)
    → AreSessions capacity subs xs (map_by_number g 1 ys)
sessions_made capacity subs xs zs ys g pairs each none told = record {
  pairs = subst (λ (l : List Session). AllZip (IsSession capacity) xs l) (same_by_get zs (map_by_number g 1 ys) same) pairs;
  told = by_number;
}
  where
    one_more : (i : ℕ) → 1 + i ≡ suc i
    one_more i = omega arith

    made : (i : ℕ) → slice_get (map_by_number g 1 ys) i ≡ option_map (g (suc i)) (slice_get ys i)
    made i = get-by_number g 1 ys i ∙ ap (λ (n : ℕ). option_map (g n) (slice_get ys i)) (one_more i)

    same : (i : ℕ) → slice_get zs i ≡ slice_get (map_by_number g 1 ys) i
    same i = each i ∙ sym (made i)

    mapped : (k : ℤ) (i : ℕ) (o : Option Session) → option_map_or (follows k) (option_map (g (suc i)) o) false
        ≡ option_map_or (λ (y : Session). follows k (g (suc i) y)) o false
    mapped k i None = refl
    mapped k i (Some y) = refl

    by_number : (k : ℤ) (s : ℕ) → is_session_of (sessions_of subs k) s ≡ follows_at k (map_by_number g 1 ys) s
    by_number k zero = none k
    by_number k (suc i) =
        told k i ∙ sym (ap (λ (o : Option Session). option_map_or (follows k) o false) (made i) ∙ mapped k i (slice_get ys i))

-- all who follow a buffer were told; those closed by it leave all buffers, and everybody leaves the
-- buffers for which `c` holds
pub all_retold : (capacity : ℕ) (n : ℤ) (c : ℤ → Bool) (subs later : Attachments) (xs new : List Kept) (ys : List Session)
    (f : Session → Session) (g : ℕ → Session → Session)
    → AreRising (sessions_of subs n)
    → AreSessions capacity subs xs ys
    → AllZip (IsSession capacity) new (sessions_updated f (sessions_of subs n) ys)
    → ((k : ℤ) (s : ℕ) → is_session_of (sessions_of later k) s
    ≡ cond (c k) false (not (is_closed_at new s && is_session_of (sessions_of subs n) s) && is_session_of (sessions_of subs k) s))
    → ((s : ℕ) (y : Session) (b : Bool) → follows n y ≡ b → g s y ≡ picked b f y)
    → ((s : ℕ) (k : ℤ) (y : Session) → IsQuiet y
    → follows k (g s y) ≡ cond (c k) false (not (is_some (g s y).closed && follows n y) && follows k y))
    → AreSessions capacity later new (map_by_number g 1 ys)
all_retold capacity n c subs later xs new ys f g rising old pairs left heard followed =
    sessions_made capacity later new (sessions_updated f (sessions_of subs n) ys) ys g pairs each none told
  where
    at_number : (i : ℕ) (o : Option Session) → is_session_of (sessions_of subs n) (suc i) ≡ option_map_or (follows n) o false
        → option_map (picked (is_session_of (sessions_of subs n) (suc i)) f) o ≡ option_map (g (suc i)) o
    at_number i None e = refl
    at_number i (Some y) e = ap (λ (z : Session). Some z) (sym (heard (suc i) y _ (sym e)))

    each : (i : ℕ) → slice_get (sessions_updated f (sessions_of subs n) ys) i ≡ option_map (g (suc i)) (slice_get ys i)
    each i = get-sessions_updated f (sessions_of subs n) ys i rising ∙ at_number i (slice_get ys i) (old.told n (suc i))

    nothing : (b x : Bool) → cond b false (x && false) ≡ false
    nothing true x = refl
    nothing false x = and-false x

    none : (k : ℤ) → is_session_of (sessions_of later k) 0 ≡ false
    none k =
        left k 0
        ∙ ap (λ (b : Bool). cond (c k) false (not (is_closed_at new 0 && is_session_of (sessions_of subs n) 0) && b)) (old.told k 0)
        ∙ nothing (c k) (not (is_closed_at new 0 && is_session_of (sessions_of subs n) 0))

    shut : (i : ℕ) → is_closed_at new (suc i) ≡ option_map_or (λ (z : Session). is_some z.closed) (option_map (g (suc i)) (slice_get ys i)) false
    shut i = closed_is capacity new (sessions_updated f (sessions_of subs n) ys) i pairs
        ∙ ap (λ (o : Option Session). option_map_or (λ (z : Session). is_some z.closed) o false) (each i)

    told_by : (k : ℤ) (i : ℕ) (o : Option Session) → ((y : Session) → o ≡ Some y → IsQuiet y)
        → is_closed_at new (suc i) ≡ option_map_or (λ (z : Session). is_some z.closed) (option_map (g (suc i)) o) false
        → is_session_of (sessions_of subs n) (suc i) ≡ option_map_or (follows n) o false
        → is_session_of (sessions_of subs k) (suc i) ≡ option_map_or (follows k) o false
        → cond (c k) false (not (is_closed_at new (suc i) && is_session_of (sessions_of subs n) (suc i)) && is_session_of (sessions_of subs k) (suc i))
        ≡ option_map_or (λ (y : Session). follows k (g (suc i) y)) o false
    told_by k i None quiet a b d =
        ap (λ (x : Bool). cond (c k) false (not (is_closed_at new (suc i) && is_session_of (sessions_of subs n) (suc i)) && x)) d
        ∙ nothing (c k) (not (is_closed_at new (suc i) && is_session_of (sessions_of subs n) (suc i)))
    told_by k i (Some y) quiet a b d =
        ap (λ (x : Bool). cond (c k) false (not (x && is_session_of (sessions_of subs n) (suc i)) && is_session_of (sessions_of subs k) (suc i))) a
        ∙ ap (λ (x : Bool). cond (c k) false (not (is_some (g (suc i) y).closed && x) && is_session_of (sessions_of subs k) (suc i))) b
        ∙ ap (λ (x : Bool). cond (c k) false (not (is_some (g (suc i) y).closed && follows n y) && x)) d
        ∙ sym (followed (suc i) k y (quiet y refl))

    told : (k : ℤ) (i : ℕ) → is_session_of (sessions_of later k) (suc i) ≡ option_map_or (λ (y : Session). follows k (g (suc i) y)) (slice_get ys i) false
    told k i =
        left k (suc i)
        ∙ told_by k i (slice_get ys i) (λ y e. quiet_at capacity xs ys i y old.pairs e) (shut i) (old.told n (suc i)) (old.told k (suc i))

-- one session was told by its number
pub one_retold : (capacity place : ℕ) (subs later : Attachments) (xs new : List Kept) (ys : List Session) (y : Session)
    (f : Session → Session) (g : ℕ → Session → Session)
    → AreSessions capacity subs xs ys
    → slice_get ys place ≡ Some y
    → AllZip (IsSession capacity) new (session_updated f (suc place) ys)
    → ((s : ℕ) (x : Session) → eqb (suc place) s ≡ false → g s x ≡ x)
    → g (suc place) y ≡ f y
    → ((k : ℤ) (s : ℕ) → eqb (suc place) s ≡ false → is_session_of (sessions_of later k) s ≡ is_session_of (sessions_of subs k) s)
    → ((k : ℤ) → is_session_of (sessions_of later k) (suc place) ≡ follows k (f y))
    → AreSessions capacity later new (map_by_number g 1 ys)
one_retold capacity place subs later xs new ys y f g old there pairs others own stay mine =
    sessions_made capacity later new (session_updated f (suc place) ys) ys g pairs
    (λ i. get-session_updated f (suc place) ys i ∙ each i (eqb (suc place) (suc i)) refl)
    (λ k. stay k 0 (not_zero place) ∙ old.told k 0)
    (λ k i. told k i (eqb (suc place) (suc i)) refl)
  where
    not_zero : (p : ℕ) → eqb (suc p) 0 ≡ false
    not_zero p = grind (arith, nat_tests)

    same_place : (i : ℕ) → eqb (suc place) (suc i) ≡ true → place ≡ i
    same_place i e = same_number place i (sym (eqb-suc-suc place i) ∙ e)

    unmade : (i : ℕ) (o : Option Session) → eqb (suc place) (suc i) ≡ false → o ≡ option_map (g (suc i)) o
    unmade i None e = refl
    unmade i (Some x) e = ap (λ (z : Session). Some z) (sym (others (suc i) x e))

    each : (i : ℕ) (b : Bool) → eqb (suc place) (suc i) ≡ b
        → option_map (picked b f) (slice_get ys i) ≡ option_map (g (suc i)) (slice_get ys i)
    each i true e =
        subst (λ (j : ℕ). option_map (picked true f) (slice_get ys j) ≡ option_map (g (suc j)) (slice_get ys j)) (same_place i e)
        (ap (λ (o : Option Session). option_map f o) there ∙ ap (λ (z : Session). Some z) (sym own) ∙ sym (ap (λ (o : Option Session). option_map (g (suc place)) o) there))
    each i false e = picked-none f (slice_get ys i) ∙ unmade i (slice_get ys i) e

    unheard : (k : ℤ) (i : ℕ) (o : Option Session) → eqb (suc place) (suc i) ≡ false
        → option_map_or (follows k) o false ≡ option_map_or (λ (x : Session). follows k (g (suc i) x)) o false
    unheard k i None e = refl
    unheard k i (Some x) e = ap (λ (z : Session). follows k z) (sym (others (suc i) x e))

    told : (k : ℤ) (i : ℕ) (b : Bool) → eqb (suc place) (suc i) ≡ b
        → is_session_of (sessions_of later k) (suc i) ≡ option_map_or (λ (x : Session). follows k (g (suc i) x)) (slice_get ys i) false
    told k i true e =
        subst (λ (j : ℕ). is_session_of (sessions_of later k) (suc j) ≡ option_map_or (λ (x : Session). follows k (g (suc j) x)) (slice_get ys j) false) (same_place i e)
        (mine k ∙ ap (λ (z : Session). follows k z) (sym own)
        ∙ sym (ap (λ (o : Option Session). option_map_or (λ (x : Session). follows k (g (suc place) x)) o false) there))
    told k i false e = stay k (suc i) e ∙ old.told k (suc i) ∙ unheard k i (slice_get ys i) e
