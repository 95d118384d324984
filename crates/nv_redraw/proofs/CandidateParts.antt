-- The items of lists of values, and what is behind them.
use Rattle.std.proofs.Common.{ℕ, zero, suc, ◌<◌, ◌≤◌, ◌≡◌, List, [], ◌∷◌, length, get_or, refl, sym, ap, ◌∙◌, arith}
use Rattle.nv_value.specs.Content.{nil}
use Rattle.nv_value.specs.View.{content, contents}
use Rattle.nv_value.specs.declared.value.Value.{Value}
use Rattle.nv_linegrid.specs.declared.event.Run.TheVariants.{Same, One, Times}
use Rattle.nv_redraw.specs.inside.Candidates.{nth_tree, bytes_in, id_or_0, size_in, run_in}

nth_is_at : (vs : List Value) (n : ℕ) (d : Value) → n < length vs → nth_tree (contents vs) n ≡ content (get_or vs n d)
nth_is_at [] n d h = absurd (omega arith)
nth_is_at (v ∷ vs) zero d h = refl
nth_is_at (v ∷ vs) (suc n) d h = nth_is_at vs n d (omega arith)

pub nth_is : (vs : List Value) (n : ℕ) (v : Value) → n < length vs → v ≡ get_or vs n v → nth_tree (contents vs) n ≡ content v
nth_is vs n v h is = nth_is_at vs n v h ∙ ap content (sym is)

pub nth_is_nil : (vs : List Value) (n : ℕ) → length vs ≤ n → nth_tree (contents vs) n ≡ nil
nth_is_nil [] n h = refl
nth_is_nil (v ∷ vs) zero h = absurd (omega arith)
nth_is_nil (v ∷ vs) (suc n) h = nth_is_nil vs n (omega arith)

-- ---- runs by the number of their parts

pub run_of_few : (vs : List Value) → length vs < 2 → run_in (contents vs) ≡ Same (bytes_in (nth_tree (contents vs) 0))
run_of_few [] h = refl
run_of_few (a ∷ []) h = refl
run_of_few (a ∷ b ∷ vs) h = absurd (omega arith)

pub run_of_two : (vs : List Value) → length vs ≡ 2 → run_in (contents vs) ≡ One (bytes_in (nth_tree (contents vs) 0)) (id_or_0 (nth_tree (contents vs) 1))
run_of_two [] h = absurd (omega (arith, h))
run_of_two (a ∷ []) h = absurd (omega (arith, h))
run_of_two (a ∷ b ∷ []) h = refl
run_of_two (a ∷ b ∷ c ∷ vs) h = absurd (omega (arith, h))

pub run_of_many : (vs : List Value) → 2 < length vs
    → run_in (contents vs) ≡ Times (bytes_in (nth_tree (contents vs) 0)) (id_or_0 (nth_tree (contents vs) 1)) (size_in (nth_tree (contents vs) 2))
run_of_many [] h = absurd (omega arith)
run_of_many (a ∷ []) h = absurd (omega arith)
run_of_many (a ∷ b ∷ []) h = absurd (omega arith)
run_of_many (a ∷ b ∷ c ∷ vs) h = refl
