-- Which buffers a session is attached to.
use Rattle.std.proofs.Common.{◌≡◌, ℤ, List, [], ◌∷◌, refl, ap, ◌∙◌, sym, arith, Bool, true, false, not, cond, filter}
use Rattle.std.specs.Prelude.{◌||◌}
use Rattle.std.specs.List.{list_any}
use Rattle.std.specs.Ordering.{int_eq}
use Rattle.std.proofs.lemmas.Int.{ints}
use Rattle.nv_model.proofs.Lookups.{same_int}

-- whether a buffer is among some
abbrev pub is_among : ℤ → List ℤ → Bool
is_among n buffers = list_any (λ k. int_eq k n) buffers

among-same : (k n : ℤ) (buffers : List ℤ) → int_eq k n ≡ true → is_among k buffers ≡ is_among n buffers
among-same k n buffers e = ap (λ (j : ℤ). is_among j buffers) (same_int k n e)

pub among_of : (k n : ℤ) (buffers : List ℤ) (there : Bool) → int_eq k n ≡ true → is_among k buffers ≡ there → is_among n buffers ≡ there
among_of k n buffers there e f = sym (among-same k n buffers e) ∙ f

step_apart : (j k n : ℤ) (rest : Bool) (ks : List ℤ) → int_eq k n ≡ false → is_among n ks ≡ rest → (b : Bool) → int_eq j k ≡ b → is_among n (cond (not b) (j ∷ ks) ks) ≡ (int_eq j n || rest)
step_apart j k n rest ks e h true f = let apart : int_eq j n ≡ false = grind (arith, ints) in h ∙ ap (λ (b : Bool). b || rest) (sym apart)
step_apart j k n rest ks e h false f = ap (λ (b : Bool). int_eq j n || b) h

-- another buffer left
pub among-apart : (k n : ℤ) (buffers : List ℤ) → int_eq k n ≡ false → is_among n (filter (λ j. not (int_eq j k)) buffers) ≡ is_among n buffers
among-apart k n [] e = refl
among-apart k n (j ∷ js) e = step_apart j k n (is_among n js) (filter (λ i. not (int_eq i k)) js) e (among-apart k n js e) (int_eq j k) refl

step_left : (j k n : ℤ) (ks : List ℤ) → int_eq k n ≡ true → is_among n ks ≡ false → (b : Bool) → int_eq j k ≡ b → is_among n (cond (not b) (j ∷ ks) ks) ≡ false
step_left j k n ks e h true f = h
step_left j k n ks e h false f = let apart : int_eq j n ≡ false = grind (arith, ints) in ap (λ (b : Bool). b || is_among n ks) apart ∙ h

-- this one left
pub among-left : (k n : ℤ) (buffers : List ℤ) → int_eq k n ≡ true → is_among n (filter (λ j. not (int_eq j k)) buffers) ≡ false
among-left k n [] e = refl
among-left k n (j ∷ js) e = step_left j k n (filter (λ i. not (int_eq i k)) js) e (among-left k n js e) (int_eq j k) refl
