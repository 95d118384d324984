-- How a replay of a book ends, with what it holds compared or not, and what is written then (own
-- rule).
use Rattle.std.specs.Prelude.{◌≡◌, ◌⊎◌, ◌<◌, ◌≤◌, ℕ, List, [], ◌∷◌, ◌++◌, length, take, slice_get, Option, Some, None, IsSome}
use Rattle.std.specs.List.{AllByRecursion}
use Rattle.std.specs.Io.KnownBytes.{append_known}
use Rattle.nv_model.specs.declared.parts.Limits.{Limits}
use Rattle.nv_history.specs.Events.{Entry}
use Rattle.nv_history.specs.Runs.{run}
use Rattle.nv_core.specs.declared.start.Start.{Start}
use Rattle.nv_book.specs.Books.{Recorded, entries_of_records, IsBook}
use Rattle.nv_book.specs.Outputs.{AreOutputs}
use Rattle.nv_book.specs.Reading.{IsReadOut, IsMalformed}
use Rattle.nv_book.specs.Writing.{WroteBook, WroteBookFront, WroteReplay, WroteReplayFront}
use Rattle.nv_watch.specs.Verdicts.{Sight}
use Rattle.nv_watch.specs.declared.verdict.Verdict.{Verdict}
use Rattle.nv_watch.specs.declared.verdict.Verdict.TheVariants.{Yes, No}
use Rattle.nv_replay.specs.Comparing.{first_difference}
use Rattle.nv_replay.specs.Sights.{AreSights}
use Rattle.nv_replay.specs.Summary.{summary_line}
use Rattle.nv_replay.specs.declared.ending.ReplayEnd.{ReplayEnd}
use Rattle.nv_replay.specs.declared.ending.ReplayEnd.TheVariants.{Done, NoMemory, ReadFault, WriteFault, Malformed, Differs, Objects}
use Rattle.nv_replay.specs.declared.ending.WriteEnd.{WriteEnd}
use Rattle.nv_replay.specs.declared.ending.WriteEnd.TheVariants as write

-- what a world with these limits begins with
abbrev pub start_within : ℕ → Limits → Start
start_within outbox limits = record { outbox = outbox; limits = limits }

-- a source was read to its end, its bytes are this book, and its history is kept
pub record HasBookRead (limits : Limits) (bytes : List ℕ) (left : Option (List ℕ)) (outbox : ℕ)
    (records : List Recorded) (kept : List Entry) : Type 0 where
  pub read_out : IsReadOut left bytes
  pub book : IsBook bytes outbox records
  pub kept_is : kept ≡ entries_of_records records
  pub runs : IsSome (run outbox limits kept)

-- what is kept is what was found there, and nothing was written
abbrev pub IsNothingDone : List Entry → List Entry → Option (List ℕ) → Option (List ℕ) → Type 0
IsNothingDone found kept before after = (kept ≡ found) × (after ≡ before)

-- ---- without a comparison

-- a book was read, and all outputs of its history went out
pub record HasReplayed (limits : Limits) (bytes : List ℕ) (left : Option (List ℕ))
    (kept : List Entry) (before after : Option (List ℕ)) : Type 0 where
  pub outbox : ℕ
  pub records : List Recorded
  pub read : HasBookRead limits bytes left outbox records kept
  pub wrote : WroteReplay (start_within outbox limits) kept before after

-- a book was read, and a prefix of these outputs went out
pub record HasReplayedInPart (limits : Limits) (bytes : List ℕ) (left : Option (List ℕ))
    (kept : List Entry) (before after : Option (List ℕ)) : Type 0 where
  pub outbox : ℕ
  pub records : List Recorded
  pub read : HasBookRead limits bytes left outbox records kept
  pub wrote : WroteReplayFront (start_within outbox limits) kept before after

-- how a replay without a comparison ends, where this history was found in what is kept
abbrev pub ReplayEnds : Limits → ReplayEnd → List ℕ → Option (List ℕ) → List Entry → List Entry
    → Option (List ℕ) → Option (List ℕ) → Type 0
ReplayEnds limits Done bytes left found kept before after =
    HasReplayed limits bytes left kept before after
ReplayEnds limits WriteFault bytes left found kept before after =
    HasReplayedInPart limits bytes left kept before after
ReplayEnds limits NoMemory bytes left found kept before after =
    IsNothingDone found kept before after ⊎ HasReplayedInPart limits bytes left kept before after
ReplayEnds limits ReadFault bytes left found kept before after =
    IsNothingDone found kept before after
ReplayEnds limits (Malformed n) bytes left found kept before after =
    IsMalformed limits bytes left n × IsNothingDone found kept before after
ReplayEnds limits (Differs n) bytes left found kept before after = ⊥
ReplayEnds limits (Objects place n) bytes left found kept before after = ⊥

-- ---- with a comparison

-- a book was read and its history gone over: these are its entries with the outputs that they give,
-- and this was seen
pub record HasGoneOver (limits : Limits) (bytes : List ℕ) (left : Option (List ℕ))
    (kept : List Entry) (outbox : ℕ) (records played : List Recorded) (seen : List Sight)
    : Type 0 where
  pub read : HasBookRead limits bytes left outbox records kept
  pub same : entries_of_records played ≡ entries_of_records records
  pub outputs : AreOutputs (start_within outbox limits) played
  pub sights : AreSights (start_within outbox limits) [] played seen

-- so many watchers all say yes
abbrev pub AllSayYes : ℕ → List Verdict → Type 0
AllSayYes count verdicts = (length verdicts ≡ count) × AllByRecursion (λ v. v ≡ Yes) verdicts

-- of so many watchers the one at this place says no at the entry of this number, none does at an
-- entry before that, and none in front of it does at that one
pub record IsFirstNo (count : ℕ) (verdicts : List Verdict) (place n : ℕ) : Type 0 where
  pub all : length verdicts ≡ count
  pub there : slice_get verdicts place ≡ Some (No n)
  pub first : (i m : ℕ) → slice_get verdicts i ≡ Some (No m) → (n < m) ⊎ ((n ≡ m) × (place ≤ i))

-- the outputs of a book are those that its history gives, and so many watchers all say yes
pub record IsAllWell (limits : Limits) (bytes : List ℕ) (left : Option (List ℕ))
    (kept : List Entry) (count : ℕ) (seen : List Sight) (verdicts : List Verdict)
    (Wrote : List ℕ → Type 0) : Type 0 where
  pub outbox : ℕ
  pub records : List Recorded
  pub over : HasGoneOver limits bytes left kept outbox records records seen
  pub yes : AllSayYes count verdicts
  pub wrote : Wrote (summary_line records)

-- an output of the book isn't the one that the entry of this number gives, and it is the first such
pub record IsDifferent (limits : Limits) (bytes : List ℕ) (left : Option (List ℕ))
    (kept : List Entry) (seen : List Sight) (n : ℕ) : Type 0 where
  pub outbox : ℕ
  pub records : List Recorded
  pub played : List Recorded
  pub over : HasGoneOver limits bytes left kept outbox records played seen
  pub differs : first_difference 0 records played ≡ Some n

-- no output differs, and a watcher says no
pub record IsObjected (limits : Limits) (bytes : List ℕ) (left : Option (List ℕ))
    (kept : List Entry) (count : ℕ) (seen : List Sight) (verdicts : List Verdict)
    (place n : ℕ) : Type 0 where
  pub outbox : ℕ
  pub records : List Recorded
  pub over : HasGoneOver limits bytes left kept outbox records records seen
  pub no : IsFirstNo count verdicts place n

-- how a comparison by so many watchers ends: what was seen, and what each of them said
abbrev pub CheckEnds : Limits → ReplayEnd → List ℕ → Option (List ℕ) → List Entry → List Entry
    → Option (List ℕ) → Option (List ℕ) → ℕ → List Sight → List Verdict → Type 0
CheckEnds limits Done bytes left found kept before after count seen verdicts =
    IsAllWell limits bytes left kept count seen verdicts
    (λ line. after ≡ append_known before line)
CheckEnds limits WriteFault bytes left found kept before after count seen verdicts =
    IsAllWell limits bytes left kept count seen verdicts
    (λ line. (n : ℕ) × (after ≡ append_known before (take n line)))
CheckEnds limits NoMemory bytes left found kept before after count seen verdicts =
    IsNothingDone found kept before after
CheckEnds limits ReadFault bytes left found kept before after count seen verdicts =
    IsNothingDone found kept before after
CheckEnds limits (Malformed n) bytes left found kept before after count seen verdicts =
    IsMalformed limits bytes left n × IsNothingDone found kept before after
CheckEnds limits (Differs n) bytes left found kept before after count seen verdicts =
    IsDifferent limits bytes left kept seen n × (after ≡ before)
CheckEnds limits (Objects place n) bytes left found kept before after count seen verdicts =
    IsObjected limits bytes left kept count seen verdicts place n × (after ≡ before)

-- ---- books that are written

-- how the writing of a history's book ends
abbrev pub WriteEnds : Start → WriteEnd → List Entry → Option (List ℕ) → Option (List ℕ) → Type 0
WriteEnds start write.Done history before after = WroteBook start history before after
WriteEnds start write.NoMemory history before after = WroteBookFront start history before after
WriteEnds start write.WriteFault history before after = WroteBookFront start history before after
