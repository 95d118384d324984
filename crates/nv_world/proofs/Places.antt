-- Lists by their places: what stands where once some are made anew.
use Rattle.std.proofs.Common.{◌≡◌, ℕ, zero, suc, ◌+◌, Bool, true, false, ◌||◌, eqb, List, [], ◌∷◌, map, refl, sym, ap, ◌∙◌, subst, set, arith, Option, Some, None, option_map, slice_get, length, ◌<◌}
use Rattle.std.specs.List.{AllZip}
use Rattle.std.proofs.Math.Dec.{eqb-suc-suc, eqb-zero-suc, eqb-suc-zero}
use Rattle.std.proofs.lemmas.Option.{none-some, same_Some}
use Rattle.nv_history.specs.Sessions.{Session}
use Rattle.nv_world.specs.inside.Tellings.{map_by_number, updated_place, session_updated}

-- what is made anew where this holds
abbrev pub picked : Bool → (Session → Session) → Session → Session
picked true f y = f y
picked false f y = y

pub picked-none : (f : Session → Session) (o : Option Session) → option_map (picked false f) o ≡ o
picked-none f None = refl
picked-none f (Some y) = refl

pub picked-then : (f : Session → Session) (a b : Bool) (o : Option Session) → (a ≡ true → b ≡ false)
    → option_map (picked b f) (option_map (picked a f) o) ≡ option_map (picked (a || b) f) o
picked-then f a b None only = refl
picked-then f true true (Some y) only = absurd (let e : true ≡ false = only refl in cc)
picked-then f true false (Some y) only = refl
picked-then f false true (Some y) only = refl
picked-then f false false (Some y) only = refl

-- the sessions made anew by their numbers
pub get-by_number : (f : ℕ → Session → Session) (k : ℕ) (ys : List Session) (i : ℕ)
    → slice_get (map_by_number f k ys) i ≡ option_map (f (k + i)) (slice_get ys i)
get-by_number f k [] i = refl
get-by_number f k (y ∷ ys) zero =
    let e : k ≡ k + 0 = omega arith in ap (λ (n : ℕ). Some (f n y)) e
get-by_number f k (y ∷ ys) (suc i) =
    let e : (k + 1) + i ≡ k + suc i = omega arith in
    get-by_number f (k + 1) ys i ∙ ap (λ (n : ℕ). option_map (f n) (slice_get ys i)) e

pub length-by_number : (f : ℕ → Session → Session) (k : ℕ) (ys : List Session)
    → length (map_by_number f k ys) ≡ length ys
length-by_number f k [] = refl
length-by_number f k (y ∷ ys) = ap suc (length-by_number f (k + 1) ys)

-- lists with the same at each place are the same
pub same_by_get : {A : Type 0} (xs ys : List A) → ((i : ℕ) → slice_get xs i ≡ slice_get ys i) → xs ≡ ys
same_by_get [] [] h = refl
same_by_get [] (y ∷ ys) h = absurd (none-some y (h 0))
same_by_get (x ∷ xs) [] h = absurd (none-some x (sym (h 0)))
same_by_get (x ∷ xs) (y ∷ ys) h =
    let e = same_Some x y (h 0) in
    let rest = same_by_get xs ys (λ i. h (suc i)) in
    cc

-- the session at a place made anew
pub get-updated_place : (f : Session → Session) (place : ℕ) (ys : List Session) (i : ℕ)
    → slice_get (updated_place f place ys) i ≡ option_map (picked (eqb place i) f) (slice_get ys i)
get-updated_place f place [] i = refl
get-updated_place f zero (y ∷ ys) zero = refl
get-updated_place f zero (y ∷ ys) (suc i) =
    sym (picked-none f (slice_get ys i))
    ∙ ap (λ (b : Bool). option_map (picked b f) (slice_get ys i)) (sym (eqb-zero-suc i))
get-updated_place f (suc place) (y ∷ ys) zero =
    ap (λ (b : Bool). option_map (picked b f) (Some y)) (sym (eqb-suc-zero place))
get-updated_place f (suc place) (y ∷ ys) (suc i) =
    get-updated_place f place ys i
    ∙ ap (λ (b : Bool). option_map (picked b f) (slice_get ys i)) (sym (eqb-suc-suc place i))

-- the session of a number made anew
pub get-session_updated : (f : Session → Session) (s : ℕ) (ys : List Session) (i : ℕ)
    → slice_get (session_updated f s ys) i ≡ option_map (picked (eqb s (suc i)) f) (slice_get ys i)
get-session_updated f zero ys i =
    sym (picked-none f (slice_get ys i))
    ∙ ap (λ (b : Bool). option_map (picked b f) (slice_get ys i)) (sym (eqb-zero-suc i))
get-session_updated f (suc place) ys i =
    get-updated_place f place ys i
    ∙ ap (λ (b : Bool). option_map (picked b f) (slice_get ys i)) (sym (eqb-suc-suc place i))

-- pairs of two lists, one pair of which is made anew
pub AllZip-updated : {A : Type 0} (R : A → Session → Type 0) (f : Session → Session) (xs : List A) (ys : List Session) (place : ℕ) (x : A)
    → AllZip R xs ys → ((y : Session) → slice_get ys place ≡ Some y → R x (f y))
    → AllZip R (set xs place x) (updated_place f place ys)
AllZip-updated R f [] [] place x pairs made = tt
AllZip-updated R f [] (y ∷ ys) place x pairs made = absurd pairs
AllZip-updated R f (w ∷ xs) [] place x pairs made = absurd pairs
AllZip-updated R f (w ∷ xs) (y ∷ ys) zero x pairs made = (made y refl, pairs.1)
AllZip-updated R f (w ∷ xs) (y ∷ ys) (suc place) x pairs made =
    (pairs.0, AllZip-updated R f xs ys place x pairs.1 made)

pub AllZip-set : {A B : Type 0} (R : A → B → Type 0) (xs : List A) (ys : List B) (place : ℕ) (x : A) (y : B)
    → AllZip R xs ys → R x y → AllZip R (set xs place x) (set ys place y)
AllZip-set R [] [] place x y pairs made = tt
AllZip-set R [] (v ∷ ys) place x y pairs made = absurd pairs
AllZip-set R (w ∷ xs) [] place x y pairs made = absurd pairs
AllZip-set R (w ∷ xs) (v ∷ ys) zero x y pairs made = (made, pairs.1)
AllZip-set R (w ∷ xs) (v ∷ ys) (suc place) x y pairs made =
    (pairs.0, AllZip-set R xs ys place x y pairs.1 made)
