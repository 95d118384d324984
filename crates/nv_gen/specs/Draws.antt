-- Numbers drawn one after another, each from the one before (own rule).
use Rattle.std.specs.Prelude.{ℕ, zero, suc, ◌+◌, ◌*◌, ◌/◌, ◌%◌, ◌^◌, List, [], ◌∷◌}

-- what is drawn from a number, and the number that comes next
abbrev pub Draws : Type 0 → Type 0
Draws A = ℕ → A × ℕ

-- one draw and then others, which may look at it
infixl 10 ◌>>=◌
abbrev pub ◌>>=◌ : {A B : Type 0} → Draws A → (A → Draws B) → Draws B
(d >>= f) x = f (d x).0 (d x).1

-- this, and no further draw
abbrev pub drawn : {A : Type 0} → A → Draws A
drawn a x = (a, x)

-- the number after a number, modulo 2^64
unfoldable pub number_after : ℕ → ℕ
number_after x = (x * 6364136223846793005 + 1442695040888963407) % 2 ^ 64

-- a number below k, by the upper 31 bits of the next number
unfoldable pub number_below : ℕ → ℕ → ℕ
number_below k x = x / 2 ^ 33 % k

abbrev pub draw : ℕ → Draws ℕ
draw k x = (number_below k (number_after x), number_after x)

-- so many draws of one kind, in their order
abbrev pub several : {A : Type 0} → ℕ → Draws A → Draws (List A)
several zero d = drawn []
several (suc n) d = do
  first ← d
  others ← several n d
  drawn (first ∷ others)
