-- What a watcher sees, and when a rule is broken (own rule).
use Rattle.std.specs.Prelude.{◌≡◌, ℕ, ◌≤◌, Bool, false, List, [], ◌∷◌, ◌++◌, fold, length, if◌then◌else◌, min, Option, Some, None, IsSome}
use Rattle.nv_history.specs.Events.{Entry}
use Rattle.nv_history.specs.Worlds.{World as ModelWorld}
use Rattle.nv_core.specs.Contents.{plain_entries}
use Rattle.nv_world.specs.Steps.{splices_of_event}
use Rattle.nv_world.specs.Worlds.{WorldRecord, model_of}
use Rattle.nv_world.specs.declared.step.Step.{Step}
use Rattle.nv_watch.specs.declared.verdict.Verdict.{Verdict}
use Rattle.nv_watch.specs.declared.verdict.Verdict.TheVariants.{Yes, No}

-- a step of a history, and the world after it
pub record Sight : Type 0 where
  pub world : WorldRecord
  pub step : Step

abbrev pub sight : WorldRecord → Step → Sight
sight world step = record { world = world; step = step }

-- a rule: whether a sight breaks it, behind those that were seen before
abbrev pub Rule : Type 1
Rule = List Sight → Sight → Type 0

-- a sight of an entry of this number breaks the rule
pub record IsBrokenAt (breaks : Rule) (seen : List Sight) (n : ℕ) : Type 0 where
  pub before : List Sight
  pub here : Sight
  pub behind : List Sight
  pub whole : seen ≡ before ++ here ∷ behind
  pub breaks_here : breaks before here
  pub number : here.step.at ≡ n

-- what is said of all that was seen: the least number of an entry after which the rule is broken,
-- where there is one
abbrev pub IsVerdict : Rule → List Sight → Verdict → Type 0
IsVerdict breaks seen Yes = (n : ℕ) → IsBrokenAt breaks seen n → ⊥
IsVerdict breaks seen (No n) =
    IsBrokenAt breaks seen n × ((m : ℕ) → IsBrokenAt breaks seen m → n ≤ m)

-- a verdict once an entry of this number was looked at too
abbrev pub verdict_with : Verdict → ℕ → Bool → Verdict
verdict_with Yes n broken = if broken then No n else Yes
verdict_with (No m) n broken = if broken then No (min m n) else No m

-- ---- sights one after another

-- the last that was seen
abbrev pub latest : Option Sight → Sight → Option Sight
latest last x = Some x

abbrev pub last_sight : List Sight → Option Sight
last_sight seen = fold latest None seen

-- a world is that of the last that was seen
pub record IsLastWorld (seen : List Sight) (k : WorldRecord) : Type 0 where
  pub last : Sight
  pub last_is : last_sight seen ≡ Some last
  pub world_is : last.world ≡ k

-- a world has one entry more than another, behind the same beginning, and neither is spent
pub record HasOneMore (k later : WorldRecord) (entry : Entry) : Type 0 where
  pub capacity : later.capacity ≡ k.capacity
  pub limits : later.limits ≡ k.limits
  pub history : plain_entries later.history ≡ plain_entries k.history ++ entry ∷ []
  pub known : k.spent ≡ false
  pub later_known : later.spent ≡ false
  pub runs : IsSome (model_of later)

-- a sight follows those that were seen: its world has one entry more than that of the last, which
-- is its step's, and its splices are those that this entry makes
pub record FollowsNext (seen : List Sight) (x : Sight) : Type 0 where
  pub last : Sight
  pub last_is : last_sight seen ≡ Some last
  pub entry : Entry
  pub more : HasOneMore last.world x.world entry
  pub number : x.step.at ≡ length (plain_entries last.world.history)
  pub splices : (w : ModelWorld) → model_of last.world ≡ Some w
      → x.step.splices.items ≡ splices_of_event w entry.event

-- and spliced nothing
pub record FollowsQuietly (seen : List Sight) (x : Sight) : Type 0 where
  pub next : FollowsNext seen x
  pub quiet : x.step.splices.items ≡ []
