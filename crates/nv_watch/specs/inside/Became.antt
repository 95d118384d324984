-- What a step is shown to.
use Rattle.std.specs.Prelude.{◌≡◌, ◌↔◌, ℕ, ◌≤◌, ◌<◌, List, [], ◌∷◌, ◌++◌, length, slice_get, Some}
use Rattle.nv_watch.specs.Verdicts.{Rule, Sight}

-- each of the first so many items became another, and the others are as they were
pub record HaveBecome {B : Type 0} (old new : List B) (place : ℕ) (Became : B → B → Type 0)
    : Type 0 where
  pub count : length new ≡ length old
  pub shown : (i : ℕ) (a b : B) → i < place → slice_get old i ≡ Some a → slice_get new i ≡ Some b
      → Became a b
  pub others : (i : ℕ) → place ≤ i → slice_get new i ≡ slice_get old i

-- what one becomes that is shown a sight: that is behind what it had seen, and its rule stays
pub record HasBeenShown (x : Sight) (Saw Sees : List Sight → Type 0) (Broke Breaks : Rule)
    : Type 0 where
  pub seen : (before : List Sight) → Saw before → Sees (before ++ x ∷ [])
  pub rule : (before : List Sight) (y : Sight) → Broke before y ↔ Breaks before y
