-- Mirrors that are kept, and what messages make of them.
use Rattle.std.proofs.Common.{◌≡◌, refl, ap, sym, ◌∙◌, ℕ, zero, suc, ℤ, Bool, true, false, true≢false, cond, List, [], ◌∷◌, ◌++◌, Some, None, slice_get, slice_set, get_or, Result, Ok, Err, OnOk, length, ◌<◌, ◌≤◌, subst, arith}
use Rattle.std.specs.Prelude.{◌==◌, ◌&&◌, is_some, unwrap_or, option_and_then}
use Rattle.std.specs.Ordering.{int_eq}
use Rattle.std.proofs.lemmas.Bool.Decides.{nat_tests, Decides-eqb}
use Rattle.nv_rpc.specs.Messages.{Sent, reply, lines_event, tick_event, detach_event, fault_event}
use Rattle.std.proofs.lemmas.Int.{ints}
use Rattle.std.proofs.Math.Bool.{and_assoc}
use Rattle.nv_model.proofs.Lookups.{same_int}
use Rattle.nv_subs.specs.Mirrors.{Mirror, absent, ticking, mirror_after, mirror_after_lines, event_lines}
use Rattle.nv_watch.specs.Folds.{Mirrors, mirror_left, mirrors_after, mirrors_behind, does_fit, do_fit}
use Rattle.nv_watch.specs.inside.Mirroring.{AreNotTwice, is_of, mirror_in, HasNone, IsFirstOf, buffer_of, mirror_for, mirrors_for}
use Rattle.nv_watch.specs.declared.mirror.Followed.{Followed}

some_same : {A : Type 0} (a b : A) → Some a ≡ Some b → a ≡ b
some_same a b e = cc

-- the mirror of the first
pub first_mirror : (fs : List Followed) (s : ℕ) (n : ℤ) (p : ℕ) (f : Followed) → IsFirstOf fs s n p → slice_get fs p ≡ Some f
    → mirror_in fs s n ≡ f.follower.mirror
first_mirror [] s n p f is there = absurd is
first_mirror (g ∷ fs) s n zero f is there =
    ap (λ (b : Bool). cond b g.follower.mirror (mirror_in fs s n)) is ∙ ap (λ (h : Followed). h.follower.mirror) (some_same g f there)
first_mirror (g ∷ fs) s n (suc p) f is there =
    ap (λ (b : Bool). cond b g.follower.mirror (mirror_in fs s n)) is.0 ∙ first_mirror fs s n p f is.1 there

pub none_mirror : (fs : List Followed) (s : ℕ) (n : ℤ) → HasNone fs s n → mirror_in fs s n ≡ absent
none_mirror [] s n none = refl
none_mirror (g ∷ fs) s n none = ap (λ (b : Bool). cond b g.follower.mirror (mirror_in fs s n)) none.0 ∙ none_mirror fs s n none.1

-- the test of a session and a buffer
both_are : (a b : Bool) → (a && b) ≡ true → (a ≡ true) × (b ≡ true)
both_are true true e = (refl, refl)
both_are true false e = absurd cc
both_are false b e = absurd cc

pub is_of_both : (f : Followed) (s : ℕ) (n : ℤ) → is_of s n f ≡ true → (f.session ≡ s) × (f.buffer ≡ n)
is_of_both f s n e =
    let both = both_are (f.session == s) (int_eq f.buffer n) e in
    ((Decides-eqb f.session s).0 both.0, same_int f.buffer n both.1)

-- one more behind, with a mirror that is absent
pub put_first : (fs : List Followed) (s : ℕ) (n : ℤ) (g : Followed) → HasNone fs s n → is_of s n g ≡ true → IsFirstOf (fs ++ g ∷ []) s n (length fs)
put_first [] s n g none is = is
put_first (f ∷ fs) s n g none is = (none.0, put_first fs s n g none.1 is)

pub put_same : (fs : List Followed) (g : Followed) (t : ℕ) (m : ℤ) → g.follower.mirror ≡ absent → mirror_in (fs ++ g ∷ []) t m ≡ mirror_in fs t m
put_same [] g t m none = by_test (is_of t m g)
  where
    by_test : (b : Bool) → cond b g.follower.mirror absent ≡ absent
    by_test true = none
    by_test false = refl
put_same (f ∷ fs) g t m none = ap (λ (mirror : Mirror). cond (is_of t m f) f.follower.mirror mirror) (put_same fs g t m none)

-- the first with another mirror
pub set_first : (fs : List Followed) (s : ℕ) (n : ℤ) (p : ℕ) (f g : Followed) → IsFirstOf fs s n p → slice_get fs p ≡ Some f
    → g.session ≡ f.session → g.buffer ≡ f.buffer → (t : ℕ) (m : ℤ)
    → mirror_in (slice_set fs p g) t m ≡ cond ((s == t) && int_eq n m) g.follower.mirror (mirror_in fs t m)
set_first [] s n p f g is there se be t m = absurd is
set_first (h ∷ fs) s n zero f g is there se be t m =
    let fh : h ≡ f = some_same h f there in
    let both = is_of_both h s n is in
    let hs : h.session ≡ s = both.0 in
    let hb : h.buffer ≡ n = both.1 in
    let gs : g.session ≡ s = se ∙ ap (λ (k : Followed). k.session) (sym fh) ∙ hs in
    let gb : g.buffer ≡ n = be ∙ ap (λ (k : Followed). k.buffer) (sym fh) ∙ hb in
    ap (λ (k : ℕ). cond ((k == t) && int_eq g.buffer m) g.follower.mirror (mirror_in fs t m)) gs
    ∙ ap (λ (k : ℤ). cond ((s == t) && int_eq k m) g.follower.mirror (mirror_in fs t m)) gb
    ∙ by_test ((s == t) && int_eq n m)
    ∙ ap (λ (k : ℕ). cond ((s == t) && int_eq n m) g.follower.mirror (cond ((k == t) && int_eq n m) h.follower.mirror (mirror_in fs t m))) (sym hs)
    ∙ ap (λ (k : ℤ). cond ((s == t) && int_eq n m) g.follower.mirror (cond ((h.session == t) && int_eq k m) h.follower.mirror (mirror_in fs t m))) (sym hb)
  where
    by_test : (b : Bool) → cond b g.follower.mirror (mirror_in fs t m) ≡ cond b g.follower.mirror (cond b h.follower.mirror (mirror_in fs t m))
    by_test true = refl
    by_test false = refl
set_first (h ∷ fs) s n (suc p) f g is there se be t m =
    ap (λ (mirror : Mirror). cond (is_of t m h) h.follower.mirror mirror) (set_first fs s n p f g is.1 there se be t m)
    ∙ by_tests (is_of t m h) ((s == t) && int_eq n m) refl refl
  where
    by_tests : (a b : Bool) → is_of t m h ≡ a → ((s == t) && int_eq n m) ≡ b
        → cond a h.follower.mirror (cond b g.follower.mirror (mirror_in fs t m)) ≡ cond b g.follower.mirror (cond a h.follower.mirror (mirror_in fs t m))
    by_tests false b x y = refl
    by_tests true false x y = refl
    by_tests true true x y =
        let both = both_are (s == t) (int_eq n m) y in
        let st : s ≡ t = (Decides-eqb s t).0 both.0 in
        let nm : n ≡ m = same_int n m both.1 in
        let again : is_of s n h ≡ true = ap (λ (k : ℕ). (h.session == k) && int_eq h.buffer n) st ∙ ap (λ (k : ℤ). (h.session == t) && int_eq h.buffer k) nm ∙ x in
        absurd (true≢false (sym again ∙ is.0))

-- a message about another buffer changes nothing
pub left_apart : (message : Sent) (n m : ℤ) (mirror : Mirror) → buffer_of message ≡ Some n → int_eq n m ≡ false → mirror_left m mirror message ≡ mirror
left_apart (reply msgid fault result) n m mirror about apart = absurd cc
left_apart (lines_event k tick first last lines) n m mirror about apart =
    let e : k ≡ n = some_same k n about in
    ap (λ (b : Bool). unwrap_or (cond b (option_and_then (mirror_after_lines mirror tick first last) (event_lines lines)) (Some mirror)) mirror) (ap (λ (j : ℤ). int_eq j m) e ∙ apart)
left_apart (tick_event k tick) n m mirror about apart =
    let e : k ≡ n = some_same k n about in
    ap (λ (b : Bool). cond b (ticking tick) mirror) (ap (λ (j : ℤ). int_eq j m) e ∙ apart)
left_apart (detach_event k) n m mirror about apart =
    let e : k ≡ n = some_same k n about in
    ap (λ (b : Bool). cond b absent mirror) (ap (λ (j : ℤ). int_eq j m) e ∙ apart)
left_apart (fault_event fault) n m mirror about apart = absurd cc

pub left_alone : (message : Sent) (m : ℤ) (mirror : Mirror) → buffer_of message ≡ None → mirror_left m mirror message ≡ mirror
left_alone (reply msgid fault result) m mirror none = refl
left_alone (lines_event k tick first last lines) m mirror none = absurd cc
left_alone (tick_event k tick) m mirror none = absurd cc
left_alone (detach_event k) m mirror none = absurd cc
left_alone (fault_event fault) m mirror none = refl

pub fits_alone : (message : Sent) (mirrors : Mirrors) → buffer_of message ≡ None → does_fit mirrors message ≡ true
fits_alone (reply msgid fault result) mirrors none = refl
fits_alone (lines_event k tick first last lines) mirrors none = absurd cc
fits_alone (tick_event k tick) mirrors none = absurd cc
fits_alone (detach_event k) mirrors none = absurd cc
fits_alone (fault_event fault) mirrors none = refl

pub fits_there : (message : Sent) (n : ℤ) (mirrors : Mirrors) → buffer_of message ≡ Some n → is_some (mirror_after n (mirrors n) message) ≡ does_fit mirrors message
fits_there (reply msgid fault result) n mirrors about = absurd cc
fits_there (lines_event k tick first last lines) n mirrors about =
    ap (λ (j : ℤ). is_some (mirror_after j (mirrors j) (lines_event k tick first last lines))) (sym (some_same k n about))
fits_there (tick_event k tick) n mirrors about = refl
fits_there (detach_event k) n mirrors about = refl
fits_there (fault_event fault) n mirrors about = absurd cc

-- mirrors that are the same for each buffer stay so
pub behind_same : (f g : Mirrors) → ((n : ℤ) → f n ≡ g n) → (ms : List Sent) (n : ℤ) → mirrors_behind f ms n ≡ mirrors_behind g ms n
behind_same f g same [] n = same n
behind_same f g same (m ∷ ms) n = behind_same (mirrors_after f m) (mirrors_after g m) (λ k. ap (λ (mirror : Mirror). mirror_left k mirror m) (same k)) ms n

pub fit_same : (f g : Mirrors) → ((n : ℤ) → f n ≡ g n) → (m : Sent) → does_fit f m ≡ does_fit g m
fit_same f g same (reply msgid fault result) = refl
fit_same f g same (lines_event k tick first last lines) = ap (λ (mirror : Mirror). is_some (mirror_after k mirror (lines_event k tick first last lines))) (same k)
fit_same f g same (tick_event k tick) = refl
fit_same f g same (detach_event k) = refl
fit_same f g same (fault_event fault) = refl

pub fits_same : (f g : Mirrors) → ((n : ℤ) → f n ≡ g n) → (ms : List Sent) → do_fit f ms ≡ do_fit g ms
fits_same f g same [] = refl
fits_same f g same (m ∷ ms) =
    ap (λ (b : Bool). b && do_fit (mirrors_after f m) ms) (fit_same f g same m)
    ∙ ap (λ (b : Bool). does_fit g m && b) (fits_same (mirrors_after f m) (mirrors_after g m) (λ k. ap (λ (mirror : Mirror). mirror_left k mirror m) (same k)) ms)

-- ---- none of the first so many
abbrev pub NoneTo : List Followed → ℕ → ℤ → ℕ → Type 0
NoneTo fs s n zero = Unit {0}
NoneTo [] s n (suc p) = ⊥
NoneTo (f ∷ fs) s n (suc p) = (is_of s n f ≡ false) × NoneTo fs s n p

pub none_more : (fs : List Followed) (s : ℕ) (n : ℤ) (p : ℕ) (f : Followed) → NoneTo fs s n p → slice_get fs p ≡ Some f → is_of s n f ≡ false
    → NoneTo fs s n (suc p)
none_more [] s n p f none there other = absurd cc
none_more (g ∷ fs) s n zero f none there other = (ap (is_of s n) (some_same g f there) ∙ other, tt)
none_more (g ∷ fs) s n (suc p) f none there other = (none.0, none_more fs s n p f none.1 there other)

pub first_here : (fs : List Followed) (s : ℕ) (n : ℤ) (p : ℕ) (f : Followed) → NoneTo fs s n p → slice_get fs p ≡ Some f → is_of s n f ≡ true
    → IsFirstOf fs s n p
first_here [] s n p f none there is = absurd cc
first_here (g ∷ fs) s n zero f none there is = ap (is_of s n) (some_same g f there) ∙ is
first_here (g ∷ fs) s n (suc p) f none there is = (none.0, first_here fs s n p f none.1 there is)

pub none_all : (fs : List Followed) (s : ℕ) (n : ℤ) (p : ℕ) → NoneTo fs s n p → length fs ≤ p → HasNone fs s n
none_all [] s n p none all = tt
none_all (f ∷ fs) s n zero none all = absurd (omega (arith, all))
none_all (f ∷ fs) s n (suc p) none all = (none.0, none_all fs s n p none.1 (omega (arith, all)))

pub first_within : (fs : List Followed) (s : ℕ) (n : ℤ) (p : ℕ) → IsFirstOf fs s n p → p < length fs
first_within [] s n p is = absurd is
first_within (f ∷ fs) s n zero is = omega arith
first_within (f ∷ fs) s n (suc p) is = let h = first_within fs s n p is.1 in omega (arith, h)

pub first_is : (fs : List Followed) (s : ℕ) (n : ℤ) (p : ℕ) (f : Followed) → IsFirstOf fs s n p → slice_get fs p ≡ Some f → is_of s n f ≡ true
first_is [] s n p f is there = absurd is
first_is (g ∷ fs) s n zero f is there = ap (is_of s n) (sym (some_same g f there)) ∙ is
first_is (g ∷ fs) s n (suc p) f is there = first_is fs s n p f is.1 there

-- ---- no two of one session and buffer
of_itself : (f : Followed) → is_of f.session f.buffer f ≡ true
of_itself f = ap (λ (b : Bool). b && int_eq f.buffer f.buffer) (let e : (f.session == f.session) ≡ true = grind (arith, nat_tests) in e) ∙ itself f.buffer
  where
    itself : (n : ℤ) → int_eq n n ≡ true
    itself n = grind (arith, ints)

-- the test is of both the same way round
turned : (f g : Followed) → is_of f.session f.buffer g ≡ is_of g.session g.buffer f
turned f g =
    ap (λ (b : Bool). b && int_eq g.buffer f.buffer) (let e : (g.session == f.session) ≡ (f.session == g.session) = grind (arith, nat_tests) in e)
    ∙ ap (λ (b : Bool). (f.session == g.session) && b) (int_turned g.buffer f.buffer)
  where
    int_turned : (a b : ℤ) → int_eq a b ≡ int_eq b a
    int_turned a b = grind (arith, ints)

none_put : (fs : List Followed) (s : ℕ) (n : ℤ) (g : Followed) → HasNone fs s n → is_of s n g ≡ false → HasNone (fs ++ g ∷ []) s n
none_put [] s n g none other = (other, tt)
none_put (f ∷ fs) s n g none other = (none.0, none_put fs s n g none.1 other)

pub put_apart : (fs : List Followed) (g : Followed) → HasNone fs g.session g.buffer → AreNotTwice fs → AreNotTwice (fs ++ g ∷ [])
put_apart [] g none apart = (tt, tt)
put_apart (f ∷ fs) g none apart =
    (none_put fs f.session f.buffer g apart.0 (turned f g ∙ none.0), put_apart fs g none.1 apart.1)

-- one with another mirror
same_test : (f g : Followed) (s : ℕ) (n : ℤ) → g.session ≡ f.session → g.buffer ≡ f.buffer → is_of s n g ≡ is_of s n f
same_test f g s n se be = ap (λ (k : ℕ). (k == s) && int_eq g.buffer n) se ∙ ap (λ (k : ℤ). (f.session == s) && int_eq k n) be

none_set : (fs : List Followed) (s : ℕ) (n : ℤ) (p : ℕ) (f g : Followed) → slice_get fs p ≡ Some f → g.session ≡ f.session → g.buffer ≡ f.buffer
    → HasNone fs s n → HasNone (slice_set fs p g) s n
none_set [] s n p f g there se be none = absurd cc
none_set (h ∷ fs) s n zero f g there se be none =
    (same_test f g s n se be ∙ ap (is_of s n) (sym (some_same h f there)) ∙ none.0, none.1)
none_set (h ∷ fs) s n (suc p) f g there se be none = (none.0, none_set fs s n p f g there se be none.1)

pub set_apart : (fs : List Followed) (p : ℕ) (f g : Followed) → slice_get fs p ≡ Some f → g.session ≡ f.session → g.buffer ≡ f.buffer
    → AreNotTwice fs → AreNotTwice (slice_set fs p g)
set_apart [] p f g there se be apart = absurd cc
set_apart (h ∷ fs) zero f g there se be apart =
    let hf : h ≡ f = some_same h f there in (
      subst (λ (k : ℕ). HasNone fs k g.buffer) (ap (λ (k : Followed). k.session) hf ∙ sym se)
          (subst (λ (k : ℤ). HasNone fs h.session k) (ap (λ (k : Followed). k.buffer) hf ∙ sym be) apart.0),
      apart.1,
    )
set_apart (h ∷ fs) (suc p) f g there se be apart =
    (none_set fs h.session h.buffer p f g there se be apart.0, set_apart fs p f g there se be apart.1)

-- ---- one of them, and the mirror of its session and buffer
pub its_mirror : (fs : List Followed) (p : ℕ) (f : Followed) → AreNotTwice fs → slice_get fs p ≡ Some f → mirror_in fs f.session f.buffer ≡ f.follower.mirror
its_mirror [] p f apart there = absurd cc
its_mirror (g ∷ fs) zero f apart there =
    let gf : g ≡ f = some_same g f there in
    ap (λ (b : Bool). cond b g.follower.mirror (mirror_in fs f.session f.buffer)) (ap (is_of f.session f.buffer) gf ∙ of_itself f)
    ∙ ap (λ (h : Followed). h.follower.mirror) gf
its_mirror (g ∷ fs) (suc p) f apart there =
    ap (λ (b : Bool). cond b g.follower.mirror (mirror_in fs f.session f.buffer)) (turned f g ∙ none_there fs p apart.0 there)
    ∙ its_mirror fs p f apart.1 there
  where
    none_there : (hs : List Followed) (q : ℕ) → HasNone hs g.session g.buffer → slice_get hs q ≡ Some f → is_of g.session g.buffer f ≡ false
    none_there [] q none at = absurd cc
    none_there (h ∷ hs) zero none at = ap (is_of g.session g.buffer) (sym (some_same h f at)) ∙ none.0
    none_there (h ∷ hs) (suc q) none at = none_there hs q none.1 at

-- ---- what a step of the fold makes of those that are kept
pub at_place : (fs : List Followed) (i : ℕ) (f : Followed) → i < length fs → f ≡ get_or fs i f → slice_get fs i ≡ Some f
at_place [] i f below is = absurd (omega (arith, below))
at_place (g ∷ fs) zero f below is = ap Some (sym is)
at_place (g ∷ fs) (suc i) f below is = at_place fs i f (omega (arith, below)) is

pub is_with : (g : Followed) (s : ℕ) (n : ℤ) → g.session ≡ s → g.buffer ≡ n → is_of s n g ≡ true
is_with g s n se be = ap (λ (k : ℕ). is_of k n g) (sym se) ∙ ap (λ (k : ℤ). is_of g.session k g) (sym be) ∙ of_itself g

pub none_with : (fs : List Followed) (g : Followed) (s : ℕ) (n : ℤ) → g.session ≡ s → g.buffer ≡ n → HasNone fs s n → HasNone fs g.session g.buffer
none_with fs g s n se be none = subst (λ (k : ℕ). HasNone fs k g.buffer) (sym se) (subst (λ (k : ℤ). HasNone fs s k) (sym be) none)

pub after_at : (fs : List Followed) (s : ℕ) (n : ℤ) (message : Sent) (mirror : Mirror) → buffer_of message ≡ Some n
    → mirror ≡ mirror_left n (mirror_in fs s n) message
    → (t : ℕ) (m : ℤ) → cond ((s == t) && int_eq n m) mirror (mirror_in fs t m) ≡ mirror_for s t m (mirror_in fs t m) message
after_at fs s n message mirror about is t m = by_tests (s == t) (int_eq n m) refl refl
  where
    by_tests : (a b : Bool) → (s == t) ≡ a → int_eq n m ≡ b
        → cond (a && b) mirror (mirror_in fs t m) ≡ cond a (mirror_left m (mirror_in fs t m) message) (mirror_in fs t m)
    by_tests false b x y = refl
    by_tests true false x y = sym (left_apart message n m (mirror_in fs t m) about y)
    by_tests true true x y =
        is ∙ ap (λ (k : ℕ). mirror_left n (mirror_in fs k n) message) ((Decides-eqb s t).0 x)
        ∙ ap (λ (k : ℤ). mirror_left k (mirror_in fs t k) message) (same_int n m y)

pub taken_at : (fs : List Followed) (s : ℕ) (n : ℤ) (p : ℕ) (f : Followed) (message : Sent) (mirror : Mirror) → IsFirstOf fs s n p
    → slice_get fs p ≡ Some f → f.follower.buffer ≡ f.buffer
    → mirror ≡ unwrap_or (mirror_after f.follower.buffer f.follower.mirror message) f.follower.mirror
    → mirror ≡ mirror_left n (mirror_in fs s n) message
taken_at fs s n p f message mirror is there about e =
    let keys = is_of_both f s n (first_is fs s n p f is there) in
    e ∙ ap (λ (k : ℤ). unwrap_or (mirror_after k f.follower.mirror message) f.follower.mirror) (about ∙ keys.1)
    ∙ ap (λ (k : Mirror). mirror_left n k message) (sym (first_mirror fs s n p f is there))

pub fits_at : (fs : List Followed) (s : ℕ) (n : ℤ) (p : ℕ) (f : Followed) (message : Sent) → IsFirstOf fs s n p
    → slice_get fs p ≡ Some f → f.follower.buffer ≡ f.buffer → buffer_of message ≡ Some n
    → is_some (mirror_after f.follower.buffer f.follower.mirror message) ≡ does_fit (mirror_in fs s) message
fits_at fs s n p f message is there same about =
    let keys = is_of_both f s n (first_is fs s n p f is there) in
    ap (λ (k : ℤ). is_some (mirror_after k f.follower.mirror message)) (same ∙ keys.1)
    ∙ ap (λ (k : Mirror). is_some (mirror_after n k message)) (sym (first_mirror fs s n p f is there))
    ∙ fits_there message n (mirror_in fs s) about

-- a message taken by a session is taken by its mirrors
own_after : (s : ℕ) (n : ℤ) (mirror : Mirror) (message : Sent) → mirror_for s s n mirror message ≡ mirror_left n mirror message
own_after s n mirror message =
    ap (λ (b : Bool). cond b (mirror_left n mirror message) mirror) (let e : (s == s) ≡ true = grind (arith, nat_tests) in e)

pub fits_more : (old new : List Followed) (s : ℕ) (message : Sent) (messages : List Sent) (fit fits both : Bool) (all : Bool)
    → fits ≡ does_fit (mirror_in old s) message
    → ((t : ℕ) (n : ℤ) → mirror_in new t n ≡ mirror_for s t n (mirror_in old t n) message)
    → both ≡ (fit && fits)
    → (fit && do_fit (mirror_in old s) (message ∷ messages)) ≡ all
    → (both && do_fit (mirror_in new s) messages) ≡ all
fits_more old new s message messages fit fits both all e after b before =
    ap (λ (k : Bool). k && do_fit (mirror_in new s) messages) (b ∙ ap (λ (k : Bool). fit && k) e)
    ∙ and_assoc fit (does_fit (mirror_in old s) message) (do_fit (mirror_in new s) messages)
    ∙ ap (λ (k : Bool). fit && (does_fit (mirror_in old s) message && k))
    (fits_same (mirror_in new s) (mirrors_after (mirror_in old s) message) (λ n. after s n ∙ own_after s n (mirror_in old s n) message) messages)
    ∙ before

pub after_more : (old new : List Followed) (s : ℕ) (message : Sent) (messages : List Sent) (t : ℕ) (n : ℤ) (all : Mirror)
    → ((u : ℕ) (k : ℤ) → mirror_in new u k ≡ mirror_for s u k (mirror_in old u k) message)
    → mirrors_for s t (mirror_in old t) (message ∷ messages) n ≡ all
    → mirrors_for s t (mirror_in new t) messages n ≡ all
after_more old new s message messages t n all after before = by_test (s == t) refl ∙ before
  where
    by_test : (b : Bool) → (s == t) ≡ b
        → cond b (mirrors_behind (mirror_in new t) messages) (mirror_in new t) n
        ≡ cond b (mirrors_behind (mirrors_after (mirror_in old t) message) messages) (mirror_in old t) n
    by_test true x =
        behind_same (mirror_in new t) (mirrors_after (mirror_in old t) message)
        (λ k. after t k ∙ ap (λ (b : Bool). cond b (mirror_left k (mirror_in old t k) message) (mirror_in old t k)) x) messages n
    by_test false x = after t n ∙ ap (λ (b : Bool). cond b (mirror_left n (mirror_in old t n) message) (mirror_in old t n)) x

pub none_to_take : (old : List Followed) (s t : ℕ) (n : ℤ) → mirrors_for s t (mirror_in old t) [] n ≡ mirror_in old t n
none_to_take old s t n = by_test (s == t)
  where
    by_test : (b : Bool) → cond b (mirror_in old t) (mirror_in old t) n ≡ mirror_in old t n
    by_test true = refl
    by_test false = refl

pub fit_true : (b : Bool) → (b && true) ≡ b
fit_true true = refl
fit_true false = refl

pub ok_on : {A E : Type 0} {P Q : Type 0} (r : Result A E) → (P → Q) → OnOk r P → OnOk r Q
ok_on (Ok a) f p = f p
ok_on (Err e) f p = p
