-- What watchers become that look at a step.
use Rattle.std.specs.Prelude.{◌↔◌, List, [], ◌∷◌, ◌++◌}
use Rattle.nv_world.specs.Worlds.{WorldRecord}
use Rattle.nv_watch.specs.Verdicts.{FollowsNext, FollowsQuietly, IsLastWorld, Rule, Sight}

-- what one becomes that glanced at a sight which follows: that is behind what it had seen, and its
-- rule stays
pub record HasGlanced (x : Sight) (Saw Lagged Lags : List Sight → Type 0) (Broke Breaks : Rule)
    : Type 0 where
  pub first : (before : List Sight) → Saw before → FollowsNext before x → Lags (before ++ x ∷ [])
  pub later : (before : List Sight) → Lagged before → FollowsQuietly before x
      → Lags (before ++ x ∷ [])
  pub rule : (before : List Sight) (y : Sight) → Broke before y ↔ Breaks before y

-- what one becomes that looked at what was left of a world, and its rule stays
pub record HasCaughtUp (k : WorldRecord) (Saw Lagged Sees : List Sight → Type 0)
    (Broke Breaks : Rule) : Type 0 where
  pub seen : (before : List Sight) → Lagged before → IsLastWorld before k → Sees before
  pub same : (before : List Sight) → Saw before → Sees before
  pub rule : (before : List Sight) (y : Sight) → Broke before y ↔ Breaks before y
