-- How the replay of a file ends (own rule).
use Rattle.std.specs.Prelude.{◌≡◌, ◌⊎◌, ℕ, Bool, true, false, List, [], ◌∷◌, ◌++◌, slice_get, Option, Some}
use Rattle.nv_io.specs.Faults.{Rose}
use Rattle.nv_io.specs.Known.{append_items, IsUnused}
use Rattle.nv_io.specs.Streams.{Gave}
use Rattle.nv_io.specs.Words.{SourceWords}
use Rattle.nv_dispatch.specs.Runs.{usual_limits}
use Rattle.nv_history.specs.Events.{Entry}
use Rattle.nv_watch.specs.Verdicts.{IsVerdict, Rule, Sight}
use Rattle.nv_watch.specs.declared.verdict.Verdict.{Verdict}
use Rattle.nv_replay.specs.Ends.{CheckEnds, ReplayEnds}
use Rattle.nv_replay.specs.declared.ending.ReplayEnd.{ReplayEnd}
use Rattle.nv_replay.specs.declared.ending.ReplayEnd.TheVariants.{NoMemory, ReadFault}

-- what watchers say of what was seen: each by what it saw before and what breaks its law
abbrev pub AreVerdicts : {W : Type 0} → (W → List Sight → Type 0) → (W → Rule) → List W
    → List Sight → List Verdict → Type 0
AreVerdicts {W} HasSeen Breaks watchers seen verdicts =
    (i : ℕ) (w : W) (v : Verdict) (before : List Sight)
    → slice_get watchers i ≡ Some w → slice_get verdicts i ≡ Some v
    → HasSeen w before → IsVerdict (Breaks w) (before ++ seen) v

-- A book is replayed, or it is checked by so many watchers, each of which says what `Say` has of
-- what was seen; `found` is what the kept history was before.
abbrev pub PlaysBook : Bool → ℕ → (List Sight → List Verdict → Type 0) → ReplayEnd → List ℕ
    → Option (List ℕ) → List Entry → List Entry → Option (List ℕ) → Option (List ℕ) → Type 0
PlaysBook true count Say ended bytes left found kept before after =
    (seen : List Sight) × (verdicts : List Verdict)
    × CheckEnds usual_limits ended bytes left found kept before after count seen verdicts
    × Say seen verdicts
PlaysBook false count Say ended bytes left found kept before after =
    ReplayEnds usual_limits ended bytes left found kept before after

module _ {I : Type 0} (words : I → SourceWords) (ended : ReplayEnd) where
  -- A fresh source was given for the book, and came back; the bytes that were read of it were
  -- played so.
  pub record FileBack (Plays : List ℕ → Option (List ℕ) → Type 0) (before after : Option (List I))
      : Type 0 where
    pub given : I
    pub back : I
    pub fresh : IsUnused (words given).taken (words given).faults
    pub returned : after ≡ append_items before (back ∷ [])
    pub bytes : List ℕ
    pub read : Gave (words given).taken (words back).taken (words given).left (words back).left
        bytes
    pub plays : Plays bytes (words back).left
    pub fault : ended ≡ ReadFault → Rose (words given).faults (words back).faults

  -- Or none was given, where memory was wanting or the count of faults of the files rose, as
  -- `rose` says; and nothing was done.
  pub record NoFile (rose nothing : Type 0) (before after : Option (List I)) : Type 0 where
    pub why : (ended ≡ NoMemory) ⊎ ((ended ≡ ReadFault) × rose)
    pub same : after ≡ before
    pub none : nothing

  abbrev pub LeavesFile : Type 0 → Type 0 → (List ℕ → Option (List ℕ) → Type 0)
      → Option (List I) → Option (List I) → Type 0
  LeavesFile rose nothing Plays before after =
      FileBack Plays before after ⊎ NoFile rose nothing before after
