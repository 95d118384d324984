-- inside: what watchers have seen while a history is gone over.
use Rattle.std.specs.Prelude.{◌≡◌, ◌↔◌, ◌⊎◌, Bool, true, false, ℕ, ◌<◌, List, [], ◌∷◌, ◌++◌, length, slice_get, Option, Some, None, if◌then◌else◌, nat_lt}
use Rattle.nv_world.specs.Worlds.{WorldRecord}
use Rattle.nv_watch.specs.Verdicts.{FollowsNext, FollowsQuietly, Sight, Rule, IsLastWorld, IsVerdict}
use Rattle.nv_watch.specs.declared.verdict.Verdict.{Verdict}
use Rattle.nv_watch.specs.declared.verdict.Verdict.TheVariants.{Yes, No}

-- what a watcher keeps that followed a run to a world, behind others: before the first step it has
-- seen those, and then all of this, or it has still to look at what it put off in this world
abbrev pub KeepsUp : Bool → (List Sight → Type 0) → (List Sight → Type 0) → List Sight
    → List Sight → WorldRecord → Type 0
KeepsUp false Sees Lags before seen k = (seen ≡ []) × Sees before
KeepsUp true Sees Lags before seen k =
    (Sees (before ++ seen) ⊎ Lags (before ++ seen)) × IsLastWorld seen k

-- watchers followed these steps to a world, behind all that they had seen, and their rules stayed
pub record AreFollowing {B : Type 0} (old new : List B) (follows : Bool) (seen : List Sight)
    (k : WorldRecord) (HasSeen IsBehind : B → List Sight → Type 0)
    (Breaks : B → Rule) : Type 0 where
  pub count : length new ≡ length old
  pub kept : (i : ℕ) (a b : B) (before : List Sight) → slice_get old i ≡ Some a
      → slice_get new i ≡ Some b → HasSeen a before
      → KeepsUp follows (HasSeen b) (IsBehind b) before seen k
  pub rule : (i : ℕ) (a b : B) (before : List Sight) (x : Sight) → slice_get old i ≡ Some a
      → slice_get new i ≡ Some b → Breaks a before x ↔ Breaks b before x

-- what one becomes before an entry that may splice, or may not: in the first case it looked at what
-- it had put off
pub record IsPrepared (splices : Bool) (k : WorldRecord)
    (Saw Lagged Sees Lags : List Sight → Type 0) (Broke Breaks : Rule) : Type 0 where
  pub same : (before : List Sight) → Saw before → Sees before
  pub stays : splices ≡ false → (before : List Sight) → Lagged before → Lags before
  pub caught : splices ≡ true → (before : List Sight) → Lagged before → IsLastWorld before k
      → Sees before
  pub rule : (before : List Sight) (y : Sight) → Broke before y ↔ Breaks before y

-- what one becomes that looked at a step, which follows those before or is the first
pub record HasLookedOn (follows : Bool) (x : Sight) (Saw Lagged Sees Lags : List Sight → Type 0)
    (Broke Breaks : Rule) : Type 0 where
  pub first : follows ≡ false → (before : List Sight) → Saw before → Sees (before ++ x ∷ [])
  pub next : follows ≡ true → (before : List Sight) → Saw before → FollowsNext before x
      → Lags (before ++ x ∷ [])
  pub later : follows ≡ true → (before : List Sight) → Lagged before → FollowsQuietly before x
      → Lags (before ++ x ∷ [])
  pub rule : (before : List Sight) (y : Sight) → Broke before y ↔ Breaks before y

-- what one becomes by a step behind a world, where there is one
pub record GoesAlong (follows : Bool) (k : WorldRecord) (x : Sight)
    (Saw Lagged Sees Lags : List Sight → Type 0) (Broke Breaks : Rule) : Type 0 where
  pub first : follows ≡ false → (before : List Sight) → Saw before → Sees (before ++ x ∷ [])
  pub next : follows ≡ true → (before : List Sight) → Saw before ⊎ Lagged before
      → IsLastWorld before k → Lags (before ++ x ∷ [])
  pub rule : (before : List Sight) (y : Sight) → Broke before y ↔ Breaks before y

-- watchers have seen these steps behind all that they had seen, and their rules stayed
pub record AreWatching {B : Type 0} (old new : List B) (seen : List Sight)
    (HasSeen : B → List Sight → Type 0) (Breaks : B → Rule) : Type 0 where
  pub count : length new ≡ length old
  pub saw : (i : ℕ) (a b : B) (before : List Sight) → slice_get old i ≡ Some a
      → slice_get new i ≡ Some b → HasSeen a before → HasSeen b (before ++ seen)
  pub rule : (i : ℕ) (a b : B) (before : List Sight) (x : Sight) → slice_get old i ≡ Some a
      → slice_get new i ≡ Some b → Breaks a before x ↔ Breaks b before x

-- the first so many watchers said these verdicts
pub record HaveSaid {B : Type 0} (watchers : List B) (verdicts : List Verdict)
    (HasSeen : B → List Sight → Type 0) (Breaks : B → Rule) : Type 0 where
  pub said : (i : ℕ) (w : B) (v : Verdict) (seen : List Sight) → slice_get watchers i ≡ Some w
      → slice_get verdicts i ≡ Some v → HasSeen w seen → IsVerdict (Breaks w) seen v

-- the one that says no first, once one more has said this
abbrev pub sooner : Option (ℕ × ℕ) → ℕ → Verdict → Option (ℕ × ℕ)
sooner told place Yes = told
sooner None place (No n) = Some (place, n)
sooner (Some first) place (No n) = if nat_lt n first.1 then Some (place, n) else Some first
