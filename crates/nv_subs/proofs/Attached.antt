-- The sessions of buffers after a change of one of them, or of all.
use Rattle.std.proofs.Common.{◌≡◌, ℕ, ℤ, List, [], ◌∷◌, ◌++◌, length, refl, sym, ap, subst, ◌∙◌, Bool, true, false, not, cond, eqb, Option, Some, None, unwrap_or, Result, Ok, Err, OnErr, ◌||◌, ◌&&◌, arith}
use Rattle.std.proofs.lemmas.Bool.{true≢false}
use Rattle.std.proofs.lemmas.Bool.Decides.{nat_tests}
use Rattle.std.proofs.lemmas.Map.{lookup-none}
use Rattle.std.proofs.lemmas.Map.Entries.{none_past_head}
use Rattle.std.proofs.lemmas.Map.Keys.{sorted_tail, IsDistinct-from_sorted}
use Rattle.std.specs.Cmp.{int_eq_equiv}
use Rattle.std.specs.List.{filter}
use Rattle.std.specs.List.Sorted.{IsStrictlySortedBy}
use Rattle.std.specs.Map.{lookup, keys_of}
use Rattle.std.specs.Map.Calls.{RetainsPairs}
use Rattle.std.proofs.lemmas.Map.Lookups.{exact_signed}
use Rattle.std.specs.Ordering.{int_eq, int_cmp, is_eq}
use Rattle.std.specs.declared.cmp.Ordering.{Ordering}
use Rattle.std.specs.declared.cmp.Ordering.TheVariants.{Less, Equal, Greater}
use Rattle.nv_subs.specs.Attachments.{Attachments, sessions_of, is_session_of, without_session, without_sessions, HasSessions}

by-test : (c : Bool) (w v : Option (List ℕ)) → unwrap_or (cond c w v) [] ≡ cond c (unwrap_or w []) (unwrap_or v [])
by-test true w v = refl
by-test false w v = refl

-- a map that has something else at one key
pub has-updated : (old new : Attachments) (buffer : ℤ) (w : Option (List ℕ))
    → ((q : ℤ) → lookup (int_eq q) new ≡ cond (int_eq buffer q) w (lookup (int_eq q) old))
    → HasSessions old new buffer (unwrap_or w [])
has-updated old new buffer w h b =
    ap (λ o. unwrap_or o []) (h b) ∙ by-test (int_eq buffer b) w (lookup (int_eq b) old)

-- the sessions that a buffer was found to have, or that it has none
pub sessions-found : (es : Attachments) (buffer : ℤ) (xs : List ℕ) → lookup (int_eq buffer) es ≡ Some xs → sessions_of es buffer ≡ xs
sessions-found es buffer xs h = ap (λ o. unwrap_or o []) h

pub sessions-none : (es : Attachments) (buffer : ℤ) → lookup (int_eq buffer) es ≡ None → sessions_of es buffer ≡ []
sessions-none es buffer h = ap (λ o. unwrap_or o []) h

-- what a look-up by a number found that is this buffer's
pub looked-up : (es : Attachments) (k buffer : ℤ) (o : Option (List ℕ)) → k ≡ buffer → o ≡ lookup (int_eq k) es → lookup (int_eq buffer) es ≡ o
looked-up es k buffer o same h = subst (λ b. lookup (int_eq b) es ≡ o) same (sym h)

pub updated-at : (old new : Attachments) (k buffer : ℤ) (w : Option (List ℕ)) → k ≡ buffer
    → ((q : ℤ) → lookup (int_eq q) new ≡ cond (int_eq k q) w (lookup (int_eq q) old))
    → HasSessions old new buffer (unwrap_or w [])
updated-at old new k buffer w same h =
    subst (λ b. HasSessions old new b (unwrap_or w [])) same (has-updated old new k w h)

-- equal numbers are one
is-equal : (o : Ordering) → is_eq o ≡ true → o ≡ Equal
is-equal Less h = absurd (true≢false (sym h))
is-equal Equal h = refl
is-equal Greater h = absurd (true≢false (sym h))

int_eq-exact : (a b : ℤ) → int_eq a b ≡ true → a ≡ b
int_eq-exact a b h = exact_signed a b (is-equal (int_cmp a b) h)

-- a buffer that has what it had
same-by : (c : Bool) (v w : List ℕ) → (c ≡ true → w ≡ v) → cond c v w ≡ w
same-by true v w h = sym (h refl)
same-by false v w h = refl

-- a buffer without sessions is let go
pub tidied : (old new : Attachments) (buffer : ℤ) → sessions_of old buffer ≡ [] → HasSessions old new buffer []
    → (b : ℤ) → sessions_of new b ≡ sessions_of old b
tidied old new buffer none h b =
    h b ∙ same-by (int_eq buffer b) [] (sessions_of old b)
    (λ same. ap (sessions_of old) (sym (int_eq-exact buffer b same)) ∙ none)

-- ---- several sessions
eqb-sym : (a b : ℕ) → eqb a b ≡ eqb b a
eqb-sym a b = grind (arith, nat_tests)

or-false : (b : Bool) → (b || false) ≡ b
or-false true = refl
or-false false = refl

or-or : (a b c : Bool) → (a || (b || c)) ≡ ((a || b) || c)
or-or true b c = refl
or-or false b c = refl

among-more : (gs : List ℕ) (g s : ℕ) → is_session_of (gs ++ g ∷ []) s ≡ (is_session_of gs s || eqb g s)
among-more [] g s = or-false (eqb g s)
among-more (x ∷ gs) g s = ap (λ b. eqb x s || b) (among-more gs g s) ∙ or-or (eqb x s) (is_session_of gs s) (eqb g s)

not-or : (a b : Bool) → not (a || b) ≡ (not a && not b)
not-or true b = refl
not-or false b = refl

-- a filter by two tests is a filter of a filter
fewer : (p q r : ℕ → Bool) → ((s : ℕ) → r s ≡ (p s && q s)) → (xs : List ℕ) → filter r xs ≡ filter q (filter p xs)
fewer p q r h [] = refl
fewer p q r h (x ∷ xs) = ap (λ b. cond b (x ∷ filter r xs) (filter r xs)) (h x) ∙ by (p x) (fewer p q r h xs)
  where
    by : (b : Bool) → filter r xs ≡ filter q (filter p xs)
        → cond (b && q x) (x ∷ filter r xs) (filter r xs) ≡ filter q (cond b (x ∷ filter p xs) (filter p xs))
    by true e = λ i. cond (q x) (x ∷ e i) (e i)
    by false e = e

pub one-more-left : (gs : List ℕ) (g : ℕ) (xs : List ℕ)
    → without_sessions (gs ++ g ∷ []) xs ≡ without_session g (without_sessions gs xs)
one-more-left gs g xs =
    fewer (λ s. not (is_session_of gs s)) (λ s. not (eqb s g)) (λ s. not (is_session_of (gs ++ g ∷ []) s))
    (λ s.
    ap not (among-more gs g s) ∙ not-or (is_session_of gs s) (eqb g s)
    ∙ ap (λ b. not (is_session_of gs s) && not b) (eqb-sym g s))
    xs

pub nobody-left : (xs : List ℕ) → without_sessions [] xs ≡ xs
nobody-left [] = refl
nobody-left (x ∷ xs) = ap (λ l. x ∷ l) (nobody-left xs)

-- ---- a session leaves all buffers
-- one entry of a map after another
an-entry : (k q : ℤ) (v : List ℕ) (es : Attachments) → sessions_of ((k, v) ∷ es) q ≡ cond (int_eq q k) v (sessions_of es q)
an-entry k q v es = by-test (int_eq q k) (Some v) (lookup (int_eq q) es)

an-entry-if : (b : Bool) (k q : ℤ) (w : List ℕ) (rest : Attachments)
    → sessions_of (cond b ((k, w) ∷ rest) rest) q ≡ cond b (cond (int_eq q k) w (sessions_of rest q)) (sessions_of rest q)
an-entry-if true k q w rest = an-entry k q w rest
an-entry-if false k q w rest = refl

is-nobody : (w : List ℕ) → false ≡ not (eqb (length w) 0) → w ≡ []
is-nobody [] h = refl
is-nobody (x ∷ xs) h =
    let some : eqb (length (x ∷ xs)) 0 ≡ false = grind (arith, nat_tests) in
    absurd (true≢false (sym (h ∙ ap not some)))

one-left : (s : ℕ) (b c : Bool) (w v r o : List ℕ) → b ≡ not (eqb (length w) 0) → w ≡ without_session s v
    → r ≡ without_session s o → (c ≡ true → o ≡ [])
    → cond b (cond c w r) r ≡ without_session s (cond c v o)
one-left s true true w v r o kept is rest none = is
one-left s true false w v r o kept is rest none = rest
one-left s false false w v r o kept is rest none = rest
one-left s false true w v r o kept is rest none =
    rest ∙ ap (without_session s) (none refl) ∙ sym (is-nobody w kept) ∙ is

pub all-left : {F : Type 0} (T : F → ℤ → List ℕ → Bool → List ℕ → F → Type 0) (f : F) (s : ℕ)
    → ((k : ℤ) (v : List ℕ) (b : Bool) (w : List ℕ) (f' : F) → T f k v b w f'
    → (b ≡ not (eqb (length w) 0)) × (w ≡ without_session s v) × (f' ≡ f))
    → (es kept : Attachments) → IsStrictlySortedBy int_cmp (keys_of es) → RetainsPairs T f es kept
    → (q : ℤ) → sessions_of kept q ≡ without_session s (sessions_of es q)
all-left T f s call [] kept order h q = ap (λ l. sessions_of l q) h
all-left T f s call (e ∷ es) kept order h q =
    let said = call e.0 e.1 h.0 h.1 h.2 h.4 in
    let more = subst (λ g. RetainsPairs T g es h.3) said.2 h.5 in
    let rest : sessions_of h.3 q ≡ without_session s (sessions_of es q) =
    all-left T f s call es h.3 (sorted_tail int_cmp e.0 (keys_of es) order) more q in
    let none : int_eq q e.0 ≡ true → sessions_of es q ≡ [] =
    λ same. sessions-none es q
    (lookup-none (int_eq q) es
    (none_past_head int_eq_equiv q e es (IsDistinct-from_sorted int_cmp (keys_of (e ∷ es)) order) same)) in
    ap (λ l. sessions_of l q) h.6 ∙ an-entry-if h.0 e.0 q h.1 h.3
    ∙ one-left s h.0 (int_eq q e.0) h.1 e.1 (sessions_of h.3 q) (sessions_of es q) said.0 said.1 rest none
    ∙ ap (without_session s) (sym (an-entry e.0 q e.1 es))

-- what holds whatever was wanting
pub on-err : {A B : Type 0} (r : Result A B) (P : Type 0) → P → OnErr r P
on-err (Ok x) P p = tt
on-err (Err e) P p = p
