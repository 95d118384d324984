-- inside: lanes with their passes.
use Rattle.std.specs.Prelude.{◌≡◌, ◌⊎◌, ℕ, ◌*◌, ◌<◌, Bool, true, false, List, length, slice_index_or, Option, Some, None}
use Rattle.nv_turn.specs.Story.{Has}
use Rattle.nv_turn.specs.Passes.{IsSamePass, SeesMore, PassState, TurnId, first_pass, first_passes}
use Rattle.nv_core.specs.declared.entry.Entry.{Entry as WorldEntry}
use Rattle.nv_core.specs.declared.start.Start.{Start}
use Rattle.nv_halves.specs.Passes.{plain_pass}
use Rattle.nv_serve.specs.Links.{LanesWords}
use Rattle.nv_serve.specs.declared.job.Job.{Job}
use Rattle.nv_serve.specs.declared.job.LaneEnd.{LaneEnd}
use Rattle.nv_serve.specs.declared.job.LaneEnd.TheVariants.{Done, Failed, Quit, Spent}
use Rattle.nv_serve.specs.inside.Sharing.{first_number, second_number}
use Rattle.nv_serve.specs.inside.Lanes.{ServesAll}

-- whether a lane failed, and whether it saw that memory was wanting to the world
abbrev pub is_failed : Option LaneEnd → Bool
is_failed None = false
is_failed (Some Done) = false
is_failed (Some Failed) = true
is_failed (Some Quit) = false
is_failed (Some Spent) = false

abbrev pub saw_spent : Option LaneEnd → Bool
saw_spent None = false
saw_spent (Some Done) = false
saw_spent (Some Failed) = false
saw_spent (Some Quit) = false
saw_spent (Some Spent) = true

-- the passes of a lane, where they are there
abbrev pub PassesOf : Type 0
PassesOf = PassState WorldEntry Start × PassState WorldEntry Start

module _ {C L : Type 0} where
  -- a lane has its two passes, as they were made
  abbrev pub HasFirstPasses : TurnId → Option Start → ℕ → Job C L → Type 0
  HasFirstPasses turn start i job =
      job.passes
      ≡ Some (first_pass turn start (first_number i), first_pass turn start (second_number i))

  -- it has two passes that have seen nothing
  pub record IsReadyJob (turn : TurnId) (i : ℕ) (job : Job C L) : Type 0 where
    pub start : Option Start
    pub passes_are : HasFirstPasses turn start i job

  -- passes were dealt to the lanes before and after
  pub record IsDealt (turn : TurnId) (start : Option Start) (i : ℕ) (old new : Job C L) : Type 0
    where
      pub lane_is : new.lane ≡ old.lane
      pub passes_are : HasFirstPasses turn start i new

  abbrev pub AreDealt : TurnId → Option Start → List (Job C L) → List (Job C L) → Type 0
  AreDealt turn start olds news =
      (i : ℕ) (d : Job C L) → i < length olds
      → IsDealt turn start i (slice_index_or olds i d) (slice_index_or news i d)

  -- the passes that a turn was made with are dealt to as many lanes as there are pairs of them
  abbrev pub DealsAll : TurnId → List (PassState WorldEntry Start) → List (Job C L) → List (Job C L)
      → Type 0
  DealsAll turn passes olds news =
      (start : Option Start) → passes ≡ first_passes turn start (2 * length olds)
      → AreDealt turn start olds news

  abbrev pub AreReady : TurnId → List (Job C L) → Type 0
  AreReady turn jobs =
      (i : ℕ) (d : Job C L) → i < length jobs → IsReadyJob turn i (slice_index_or jobs i d)

-- a lane was served, by passes that it still has, and ended
pub record ServesJob {C L I S : Type 0} (t : LanesWords L I S) (old new : Job C L) : Type 0 where
  pub before : PassesOf
  pub after : PassesOf
  pub had : old.passes ≡ Some before
  pub has : new.passes ≡ Some after
  pub end : LaneEnd
  pub end_is : new.end ≡ Some end
  pub first : IsSamePass before.0 after.0
  pub second : IsSamePass before.1 after.1
  pub serves : ServesAll t before.0.start before.0.number before.1.number end old.lane new.lane
      (plain_pass after.0).seen (plain_pass after.1).seen

-- each of them
abbrev pub ServesJobs : {C L I S : Type 0} → LanesWords L I S → List (Job C L) → List (Job C L)
    → Type 0
ServesJobs t olds news =
    (i : ℕ) (d : _) → i < length olds
    → ServesJob t (slice_index_or olds i d) (slice_index_or news i d)

-- a pass has seen all that two others have, and has all their numbers
pub record Covers (caller : WorldEntry → ℕ) (p q r : PassState WorldEntry Start) : Type 0 where
  pub one : SeesMore caller p r
  pub other : SeesMore caller q r
  pub has : (c : ℕ) → Has c p.numbers ⊎ Has c q.numbers → Has c r.numbers

module _ {C L : Type 0} where
  -- a lane has two passes of this turn
  pub record HasPasses (turn : TurnId) (job : Job C L) : Type 0 where
    pub passes : PassesOf
    pub passes_are : job.passes ≡ Some passes
    pub first : passes.0.turn ≡ turn
    pub second : passes.1.turn ≡ turn

  abbrev pub HavePasses : TurnId → List (Job C L) → Type 0
  HavePasses turn jobs =
      (i : ℕ) (d : Job C L) → i < length jobs → HasPasses turn (slice_index_or jobs i d)

  -- a pass tells the start that the first pass of a lane does
  abbrev pub StartsAsLane : Job C L → PassState WorldEntry Start → Type 0
  StartsAsLane job r =
      (passes : PassesOf) → job.passes ≡ Some passes → r.start ≡ passes.0.start

  -- the passes of a lane were joined into one that covers them
  pub record IsJoined (caller : WorldEntry → ℕ) (old new : Job C L)
      (r : PassState WorldEntry Start) : Type 0 where
    pub lane_is : new.lane ≡ old.lane
    pub covers : (passes : PassesOf) → old.passes ≡ Some passes
        → Covers caller passes.0 passes.1 r

  abbrev pub AreJoined : (WorldEntry → ℕ) → List (Job C L) → List (Job C L)
      → PassState WorldEntry Start → Type 0
  AreJoined caller olds news r =
      (i : ℕ) (d : Job C L) → i < length olds
      → IsJoined caller (slice_index_or olds i d) (slice_index_or news i d) r

  -- a lane of these ended so, and none of them did
  abbrev pub HasOneEnded : (Option LaneEnd → Bool) → List (Job C L) → Type 0
  HasOneEnded so jobs =
      (i : ℕ) × (i < length jobs) × ((d : Job C L) → so (slice_index_or jobs i d).end ≡ true)

  abbrev pub HasNoneEnded : (Option LaneEnd → Bool) → List (Job C L) → Type 0
  HasNoneEnded so jobs =
      (i : ℕ) (d : Job C L) → i < length jobs → so (slice_index_or jobs i d).end ≡ false
