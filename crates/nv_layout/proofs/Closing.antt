-- How many windows closing leaves.
use Rattle.std.proofs.Common.{◌≡◌, ℕ, ℤ, zero, suc, ◌+◌, ◌<◌, Bool, true, false, IsTrue, Option, ◌∷◌, length, length-append, refl, ap, sym, ◌∙◌, arith}
use Rattle.nv_layout.specs.Content.{Shape}
use Rattle.nv_layout.specs.Least.{leaves_of}
use Rattle.nv_layout.specs.Changes.{holds, close}
use Rattle.nv_layout.specs.Kept.{leaves_left}
use Rattle.nv_layout.proofs.LeafOrder.{close_takes_away}

pub closed_count : (w : ℤ) (t : Shape) (o : Option Shape) → holds w t ≡ true → o ≡ close w t → length (leaves_of t) ≡ 1 + length (leaves_left o)
closed_count w t o h e =
    let taken = close_takes_away w t h in
    omega (arith, ap length taken.3.stands, length-append taken.0 (taken.1 ∷ taken.2), ap length taken.4, length-append taken.0 taken.2, ap (λ p. length (leaves_left p)) e)

-- a tree of which nothing is left had no other window
pub none_else : (w : ℤ) (t : Shape) (o : Option Shape) → holds w t ≡ true → o ≡ close w t → length (leaves_left o) ≡ 0 → 1 < length (leaves_of t) → ⊥
none_else w t o h e none more = omega (arith, closed_count w t o h e)

pub some_else : (w : ℤ) (t : Shape) (o : Option Shape) → holds w t ≡ true → o ≡ close w t → 0 < length (leaves_left o) → 1 < length (leaves_of t)
some_else w t o h e some = omega (arith, closed_count w t o h e)

pub never : false ≡ true → ⊥
never e = cc

-- what a test answers of a number
pub none_by_test : (n : ℕ) (b : Bool) → b ≡ false → (0 < n → IsTrue b) → n ≡ 0
none_by_test zero b e f = refl
none_by_test (suc n) b e f = absurd (never (sym e ∙ f (omega arith)))

pub some_by_test : (n : ℕ) (b : Bool) → b ≡ true → (IsTrue b → 0 < n) → 0 < n
some_by_test n b e f = f e
