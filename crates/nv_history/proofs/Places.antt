-- Sessions by their places.
use Rattle.std.proofs.Common.{◌≡◌, ◌≢◌, ℕ, zero, suc, ◌+◌, List, [], ◌∷◌, ◌++◌, refl, ap, ◌∙◌, arith, slice_get, slice_set, Option, Some, None}
use Rattle.std.specs.Prelude.{option_map, ◌==◌}
use Rattle.std.proofs.lemmas.Option.{none-some}
use Rattle.nv_rpc.specs.Messages.{Sent}
use Rattle.nv_model.specs.Answers.{Fact}
use Rattle.nv_history.specs.Sessions.{Session, session_after_call, sessions_after_call}

module _ {A : Type 0} where
  pub set_here : (xs : List A) (p : ℕ) (x y : A) → slice_get xs p ≡ Some x → slice_get (slice_set xs p y) p ≡ Some y
  set_here [] p x y e = absurd (none-some x e)
  set_here (z ∷ zs) zero x y e = refl
  set_here (z ∷ zs) (suc p) x y e = set_here zs p x y e

  pub set_there : (xs : List A) (p i : ℕ) (y : A) → p ≢ i → slice_get (slice_set xs p y) i ≡ slice_get xs i
  set_there [] p i y d = refl
  set_there (z ∷ zs) zero zero y d = absurd (d refl)
  set_there (z ∷ zs) zero (suc i) y d = refl
  set_there (z ∷ zs) (suc p) zero y d = refl
  set_there (z ∷ zs) (suc p) (suc i) y d = set_there zs p i y (λ e. d (ap (λ j. suc j) e))

  -- behind others
  pub get_push : (P : Option A → Type 0) (xs : List A) (x : A) (i : ℕ) → (slice_get xs i ≡ None → P (Some x)) → P (slice_get xs i) → P (slice_get (xs ++ x ∷ []) i)
  get_push P [] x zero f h = f refl
  get_push P [] x (suc i) f h = h
  get_push P (z ∷ zs) x zero f h = h
  get_push P (z ∷ zs) x (suc i) f h = get_push P zs x i f h

-- each session hears a call by its own number
pub get_after_call : (at capacity caller k : ℕ) (facts : List Fact) (answer : Option Sent) (xs : List Session) (i : ℕ)
    → slice_get (sessions_after_call at capacity caller k facts answer xs) i
    ≡ option_map (session_after_call at capacity ((k + i) == caller) facts answer) (slice_get xs i)
get_after_call at capacity caller k facts answer [] i = refl
get_after_call at capacity caller k facts answer (x ∷ xs) zero =
    ap (λ (j : ℕ). Some (session_after_call at capacity (j == caller) facts answer x)) (omega arith)
get_after_call at capacity caller k facts answer (x ∷ xs) (suc i) =
    get_after_call at capacity caller (k + 1) facts answer xs i
    ∙ ap (λ (j : ℕ). option_map (session_after_call at capacity (j == caller) facts answer) (slice_get xs i)) (omega arith)
