-- Loops over sessions and over facts.
use Rattle.std.proofs.Common.{◌≡◌, ℕ, zero, suc, ◌+◌, ◌<◌, ◌≤◌, ◌⊎◌, inl, inr, List, [], ◌∷◌, length, drop, get_or, set, slice_get, Some, refl, sym, ap, ◌∙◌, subst, arith, add-one, drop-cons}
use Rattle.std.specs.List.{AllZip}
use Rattle.std.proofs.lemmas.Grind.{common_steps}
use Rattle.std.proofs.lemmas.Option.{get_or_from_slice_get}
use Rattle.nv_world.proofs.Places.{AllZip-updated}
use Rattle.nv_world.proofs.Retelling.{pair_at}
use Rattle.nv_history.specs.Sessions.{Session}
use Rattle.nv_world.specs.declared.session.Session.{Session as Kept}
use Rattle.nv_world.specs.inside.Sessions.{IsSession}
use Rattle.nv_world.specs.inside.Tellings.{session_updated, sessions_updated, updated_place}

-- once those of the first `i` numbers are made anew, those of the others are left
pub record Leaves (capacity : ℕ) (f : Session → Session) (now : List Kept) (several : List ℕ) (i : ℕ) (ys : List Session) : Type 0 where
  pub zs : List Session
  pub pairs : AllZip (IsSession capacity) now zs
  pub left : sessions_updated f (drop i several) zs ≡ sessions_updated f several ys

pub leaves_none : (capacity : ℕ) (f : Session → Session) (now : List Kept) (several : List ℕ) (ys : List Session)
    → AllZip (IsSession capacity) now ys → Leaves capacity f now several 0 ys
leaves_none capacity f now several ys pairs = record { zs = ys; pairs = pairs; left = refl }

drop_cons : (xs : List ℕ) (i d : ℕ) → i < length xs → drop i xs ≡ get_or xs i d ∷ drop (i + 1) xs
drop_cons xs i d within = rw add-one (drop-cons xs i d within)

next_left : (f : Session → Session) (several : List ℕ) (i s : ℕ) (zs : List Session) → i < length several → s ≡ get_or several i s
    → sessions_updated f (drop (i + 1) several) (session_updated f s zs) ≡ sessions_updated f (drop i several) zs
next_left f several i s zs within is =
    let e : drop i several ≡ s ∷ drop (i + 1) several =
    drop_cons several i s within ∙ ap (λ (n : ℕ). n ∷ drop (i + 1) several) (sym is) in
    sym (ap (λ (l : List ℕ). sessions_updated f l zs) e)

pub leaves_next : (capacity : ℕ) (f : Session → Session) (now later : List Kept) (several : List ℕ) (i s : ℕ) (ys : List Session)
    → i < length several → s ≡ get_or several i s
    → ((zs : List Session) → AllZip (IsSession capacity) now zs → AllZip (IsSession capacity) later (session_updated f s zs))
    → Leaves capacity f now several i ys → Leaves capacity f later several (i + 1) ys
leaves_next capacity f now later several i s ys within is step old = record {
  zs = session_updated f s old.zs;
  pairs = step old.zs old.pairs;
  left = next_left f several i s old.zs within is ∙ old.left;
}

pub leaves_all : (capacity : ℕ) (f : Session → Session) (now : List Kept) (several : List ℕ) (i : ℕ) (ys : List Session)
    → length several ≤ i → Leaves capacity f now several i ys → AllZip (IsSession capacity) now (sessions_updated f several ys)
leaves_all capacity f now several i ys past old =
    let none : drop i several ≡ [] = drop_past several i past in
    subst (λ (l : List Session). AllZip (IsSession capacity) now l)
    (ap (λ (l : List ℕ). sessions_updated f l old.zs) (sym none) ∙ old.left) old.pairs
  where
    drop_past : (xs : List ℕ) (n : ℕ) → length xs ≤ n → drop n xs ≡ []
    drop_past xs n h = grind (arith, common_steps)

-- the session of a number that isn't there
updated_past : (f : Session → Session) (place : ℕ) (ys : List Session) → length ys ≤ place → updated_place f place ys ≡ ys
updated_past f place [] past = refl
updated_past f zero (y ∷ ys) past = absurd (omega arith)
updated_past f (suc place) (y ∷ ys) past = ap (λ (l : List Session). y ∷ l) (updated_past f place ys (omega arith))

pub nobody_updated : (f : Session → Session) (s : ℕ) (ys : List Session) → (s ≡ 0) ⊎ (length ys < s) → session_updated f s ys ≡ ys
nobody_updated f zero ys none = refl
nobody_updated f (suc place) ys none = updated_past f place ys (by none)
  where
    by : (suc place ≡ 0) ⊎ (length ys < suc place) → length ys ≤ place
    by (inl e) = absurd (omega arith)
    by (inr h) = omega arith

-- the session as it is kept at the place of one of the model
pub kept_at : (capacity : ℕ) (xs : List Kept) (ys : List Session) (place : ℕ) (d : Kept) (y : Session) → AllZip (IsSession capacity) xs ys
    → slice_get ys place ≡ Some y → IsSession capacity (get_or xs place d) y
kept_at capacity xs ys place d y pairs there =
    let p = pair_at (IsSession capacity) xs ys place y pairs there in
    let same : p.0 ≡ get_or xs place d = sym (get_or_from_slice_get xs place p.0 d p.1) in
    subst (λ (w : Kept). IsSession capacity w y) same p.2

-- the session of a number, which stands at the place before it
pub put_in_place : (capacity : ℕ) (f : Session → Session) (xs : List Kept) (ys : List Session) (session place : ℕ) (d new : Kept)
    → session ≡ place + 1 → AllZip (IsSession capacity) xs ys
    → ((y : Session) → IsSession capacity (get_or xs place d) y → IsSession capacity new (f y))
    → AllZip (IsSession capacity) (set xs place new) (session_updated f session ys)
put_in_place capacity f xs ys session place d new number pairs made =
    let e : suc place ≡ session = omega arith in
    subst (λ (s : ℕ). AllZip (IsSession capacity) (set xs place new) (session_updated f s ys)) e
    (AllZip-updated (IsSession capacity) f xs ys place new pairs (λ y there. made y (kept_at capacity xs ys place d y pairs there)))

pub at_index : (xs : List ℕ) (i d : ℕ) → i < length xs → get_or xs i d ≡ get_or xs i (get_or xs i d)
at_index xs i d within = grind (arith, common_steps)
