-- Passes with neighbouring numbers, joined in order.
use Rattle.std.proofs.Common.{◌≡◌, ℕ, zero, suc, ◌+◌, ◌<◌, ◌≤◌, [], ◌∷◌, ◌++◌, ap, subst, ◌∙◌, arith}
use mathlib.Core.Logic.{dite}
use native.Mathlib.Decide.{ℕ_discrete}
use Rattle.std.specs.List.{range_with_len}
use Rattle.nv_turn.specs.Story.{Has, HasEachUpTo}
use Rattle.nv_turn.proofs.Entries.{has_one, has_left, has_right}

pub range_join : (a m n : ℕ) → range_with_len a m ++ range_with_len (a + m) n ≡ range_with_len a (m + n)
range_join a zero n =
    let here : a + zero ≡ a = omega arith in
    let none : n ≡ zero + n = omega arith in
    ap (λ k. range_with_len k n) here ∙ ap (range_with_len a) none
range_join a (suc m) n =
    let there : a + suc m ≡ a + 1 + m = omega arith in
    let more : suc (m + n) ≡ suc m + n = omega arith in
    ap (λ k. a ∷ (range_with_len (a + 1) m ++ range_with_len k n)) there ∙ (ap (λ z. a ∷ z) (range_join (a + 1) m n) ∙ ap (range_with_len a) more)

has_range : (a n c : ℕ) → a ≤ c → c < a + n → Has c (range_with_len a n)
has_range a zero c le lt = absurd (omega arith)
has_range a (suc n) c le lt =
    dite (ℕ_discrete a c) (λ e. has_left c (a ∷ []) (range_with_len (a + 1) n) (subst (λ k. Has k (a ∷ [])) e (has_one a)))
    (λ ne. has_right c (a ∷ []) (range_with_len (a + 1) n) (has_range (a + 1) n c (omega arith) (omega arith)))

-- the numbers from 1 to n are all
pub has_all : (n : ℕ) → HasEachUpTo n (range_with_len 1 n)
has_all n c pos le = has_range 1 n c (omega arith) (omega arith)
