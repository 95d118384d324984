-- Sessions by their numbers, and what stops them.
use Rattle.std.proofs.Common.{◌≡◌, ℕ, min, zero, suc, ◌+◌, ◌*◌, ◌<◌, ◌≤◌, ◌⊎◌, inl, inr, Bool, true, false, not, ◌||◌, leb, List, [], ◌∷◌, ◌++◌, length, take, get_or, refl, sym, ap, ◌∙◌, subst, Option, Some, None, option_map, slice_get, arith, map}
use Rattle.std.specs.List.{AllZip, list_any}
use Rattle.std.proofs.lemmas.Bool.Decides.{nat_tests}
use Rattle.std.proofs.lemmas.List.{take_more, take_all}
use Rattle.std.proofs.lemmas.List.Folds.{list_any-append}
use Rattle.std.proofs.lemmas.Option.{slice_get_past}
use Rattle.nv_rpc.specs.Calls.{Call}
use Rattle.nv_rpc.specs.Messages.{Sent}
use Rattle.nv_editor.specs.Facts.{fact_of, facts_of}
use Rattle.nv_editor.specs.declared.happened.Fact.{Fact}
use Rattle.nv_history.specs.Events.{Cause, held_with}
use Rattle.nv_history.specs.Sessions.{Session, has_quit, is_quit}
use Rattle.nv_history.specs.Worlds.{World, Outcome, refuses, session_of, held_outcome, is_nothing_due, live_request_outcome}
use Rattle.nv_world.specs.declared.session.Session.{Session as Kept}
use Rattle.nv_world.specs.inside.Sessions.{IsSession}
use Rattle.nv_world.proofs.Owning.{there_is, caller_there}
use Rattle.nv_world.proofs.Rounds.{kept_at}

pub session_there : (w : World) (session place : ℕ) → session ≡ place + 1 → session_of w session ≡ slice_get w.sessions place
session_there w session place number =
    let e : suc place ≡ session = omega arith in
    sym (ap (λ (s : ℕ). session_of w s) e)

pub session_absent : (w : World) (session : ℕ) → (session ≡ 0) ⊎ (length w.sessions < session) → session_of w session ≡ None
session_absent w zero none = refl
session_absent w (suc place) none = slice_get_past w.sessions place (by none)
  where
    by : (suc place ≡ 0) ⊎ (length w.sessions < suc place) → length w.sessions ≤ place
    by (inl e) = absurd (omega arith)
    by (inr h) = omega arith

-- the session of a number, in the model and as it is kept
pub record Found (capacity : ℕ) (xs : List Kept) (w : World) (session place : ℕ) (d : Kept) : Type 0 where
  pub y : Session
  pub there : slice_get w.sessions place ≡ Some y
  pub is_of : session_of w session ≡ Some y
  pub is : IsSession capacity (get_or xs place d) y

pub found : (capacity : ℕ) (xs : List Kept) (w : World) (session place : ℕ) (d : Kept) → session ≡ place + 1 → place < length xs
    → AllZip (IsSession capacity) xs w.sessions → Found capacity xs w session place d
found capacity xs w session place d number within pairs =
    let p = caller_there capacity xs w.sessions place pairs (omega arith) in
    record { y = p.0; there = p.1; is_of = session_there w session place number ∙ p.1; is = kept_at capacity xs w.sessions place d p.0 pairs p.1 }

-- a session whose outbox is half full
pub held_is : (w : World) (s : ℕ) (y : Session) (call : Call) (capacity waiting told : ℕ) → w.capacity ≡ capacity → y.closed ≡ None
    → waiting ≡ length y.waiting → capacity ≤ 2 * waiting → told ≡ waiting
    → live_request_outcome y.closed w s y call ≡ refuses (held_with told)
held_is w s y call capacity waiting told same live count half is =
    let test : leb w.capacity (2 * length y.waiting) ≡ true = le_is w.capacity capacity waiting (length y.waiting) same count half in
    ap (λ (o : Option Cause). live_request_outcome o w s y call) live
    ∙ ap (λ (b : Bool). held_outcome b w s y call) test
    ∙ ap (λ (n : ℕ). refuses (held_with n)) (sym (is ∙ count))
  where
    le_is : (a b n m : ℕ) → a ≡ b → n ≡ m → b ≤ 2 * n → leb a (2 * m) ≡ true
    le_is a b n m p q h = grind (arith, nat_tests)

-- whether anything is due
pub any_waits : (n : ℕ) (messages : List Sent) (due : Bool) → n ≡ length messages → 0 < n → true ≡ not (is_nothing_due messages due)
any_waits n [] due e some = absurd (omega arith)
any_waits n (message ∷ messages) due e some = refl

pub nothing_is : (a b : Bool) → a ≡ not b → a ≡ false → b ≡ true
nothing_is a true e f = refl
nothing_is a false e f = absurd (let g = sym e ∙ f in cc)

pub something_is : (a b : Bool) → a ≡ not b → a ≡ true → b ≡ false
something_is a true e f = absurd (let g = sym e ∙ f in cc)
something_is a false e f = refl

pub none_waits : (n : ℕ) (messages : List Sent) (due : Bool) → n ≡ length messages → n ≤ 0 → due ≡ not (is_nothing_due messages due)
none_waits n [] true e none = refl
none_waits n [] false e none = refl
none_waits n (message ∷ messages) due e none = absurd (omega arith)

-- facts that tell of the end
or_false : (b : Bool) → (b || false) ≡ b
or_false true = refl
or_false false = refl

or_turned : (a b c : Bool) → (a || (b || c)) ≡ ((a || b) || c)
or_turned true b c = refl
or_turned false b c = refl

quits-push : (facts : List Fact) (fact : Fact) → has_quit (facts_of (facts ++ fact ∷ [])) ≡ (has_quit (facts_of facts) || is_quit (fact_of fact))
quits-push [] fact = or_false (is_quit (fact_of fact))
quits-push (f ∷ facts) fact =
    ap (λ (b : Bool). is_quit (fact_of f) || b) (quits-push facts fact)
    ∙ or_turned (is_quit (fact_of f)) (has_quit (facts_of facts)) (is_quit (fact_of fact))

pub quits_next : (facts : List Fact) (i : ℕ) (d : Fact) → i < length facts → is_quit (fact_of (get_or facts i d)) ≡ false
    → has_quit (facts_of (take i facts)) ≡ false → has_quit (facts_of (take (i + 1) facts)) ≡ false
quits_next facts i d within isnt none =
    ap (λ (l : List Fact). has_quit (facts_of l)) (take_more facts i d within)
    ∙ quits-push (take i facts) (get_or facts i d)
    ∙ ap (λ (b : Bool). b || is_quit (fact_of (get_or facts i d))) none ∙ isnt

pub quits_here : (facts : List Fact) (i : ℕ) (d : Fact) → i < length facts → is_quit (fact_of (get_or facts i d)) ≡ true
    → true ≡ has_quit (facts_of facts)
quits_here [] i d within it_is = absurd (omega arith)
quits_here (f ∷ facts) zero d within it_is = sym (ap (λ (b : Bool). b || has_quit (facts_of facts)) it_is)
quits_here (f ∷ facts) (suc i) d within it_is =
    sym (ap (λ (b : Bool). is_quit (fact_of f) || b) (sym (quits_here facts i d (omega arith) it_is)) ∙ or_true (is_quit (fact_of f)))
  where
    or_true : (b : Bool) → (b || true) ≡ true
    or_true true = refl
    or_true false = refl

pub quits_never : (facts : List Fact) (i : ℕ) → length facts ≤ i → has_quit (facts_of (take i facts)) ≡ false → false ≡ has_quit (facts_of facts)
quits_never facts i past none = sym (ap (λ (l : List Fact). has_quit (facts_of l)) (sym (take_all i facts past)) ∙ none)

pub min_is : (a b m : ℕ) → m ≡ min a b → a ≤ b → m ≡ a
min_is a b m e h = omega arith
