-- inside: how the parts of a replay end.
use Rattle.std.specs.Prelude.{◌≡◌, ℕ, List, Option, Some, None, Result, Ok, Err, length, take}
use Rattle.std.specs.Io.KnownBytes.{append_known}
use Rattle.nv_model.specs.declared.parts.Limits.{Limits}
use Rattle.nv_history.specs.Events.{Entry}
use Rattle.nv_core.specs.Contents.{plain_entries}
use Rattle.nv_core.specs.declared.start.Start.{Start}
use Rattle.nv_book.specs.Writing.{WroteReplay, WroteReplayFront}
use Rattle.nv_book.specs.Books.{Recorded}
use Rattle.nv_book.specs.Reading.{IsWhyUnread}
use Rattle.nv_book.specs.declared.faults.Unread.{Unread}
use Rattle.nv_book.specs.declared.faults.Unread.TheVariants as unread
use Rattle.nv_watch.specs.Verdicts.{Sight}
use Rattle.nv_watch.specs.declared.verdict.Verdict.{Verdict}
use Rattle.nv_replay.specs.Ends.{IsNothingDone, HasGoneOver, AllSayYes, IsFirstNo}
use Rattle.nv_replay.specs.Summary.{count_of_kind, is_opening, is_take, line_of_counts}
use Rattle.nv_replay.specs.inside.Tallies.{IsTallyOf}
use Rattle.nv_replay.specs.declared.checking.GoneOver.{GoneOver}
use Rattle.nv_replay.specs.declared.ending.ReplayEnd.{ReplayEnd}
use Rattle.nv_replay.specs.declared.ending.ReplayEnd.TheVariants.{Done, NoMemory, ReadFault, WriteFault, Malformed, Differs, Objects}

-- the end where no book is read
abbrev pub end_of_unread : Unread → ReplayEnd
end_of_unread unread.NoMemory = NoMemory
end_of_unread unread.ReadFault = ReadFault
end_of_unread (unread.Malformed n) = Malformed n

-- the outputs of a history went out, or a prefix of them did
abbrev pub WritesOutputs : Start → ReplayEnd → List Entry → Option (List ℕ) → Option (List ℕ)
    → Type 0
WritesOutputs start Done history before after = WroteReplay start history before after
WritesOutputs start NoMemory history before after = WroteReplayFront start history before after
WritesOutputs start WriteFault history before after = WroteReplayFront start history before after
WritesOutputs start ReadFault history before after = ⊥
WritesOutputs start (Malformed n) history before after = ⊥
WritesOutputs start (Differs n) history before after = ⊥
WritesOutputs start (Objects place n) history before after = ⊥

-- the line of a history whose outputs have so many bytes
abbrev pub line_for : List Entry → ℕ → List ℕ
line_for history bytes =
    line_of_counts (length history) (count_of_kind is_opening history)
    (count_of_kind is_take history) bytes

-- a book was gone over
pub record HasTallied (limits : Limits) (bytes : List ℕ) (left : Option (List ℕ))
    (seen : List Sight) (gone : GoneOver) : Type 0 where
  pub outbox : ℕ
  pub records : List Recorded
  pub played : List Recorded
  pub over : HasGoneOver limits bytes left (plain_entries gone.history.entries) outbox records
      played seen
  pub tally_is : IsTallyOf records played gone.tally

-- the watcher that says no first, where one does, of so many
abbrev pub SaysNoFirst : ℕ → List Verdict → Option (ℕ × ℕ) → Type 0
SaysNoFirst count verdicts None = AllSayYes count verdicts
SaysNoFirst count verdicts (Some told) = IsFirstNo count verdicts told.0 told.1

-- how it ends with a history that was gone over
abbrev pub Concludes : GoneOver → ReplayEnd → List Entry → List Entry → Option (List ℕ)
    → Option (List ℕ) → ℕ → List Verdict → Type 0
Concludes gone Done found kept before after count verdicts =
    (gone.tally.differs ≡ None) × AllSayYes count verdicts
    × (kept ≡ plain_entries gone.history.entries)
    × (after ≡ append_known before (line_for kept gone.tally.bytes))
Concludes gone WriteFault found kept before after count verdicts =
    (gone.tally.differs ≡ None) × AllSayYes count verdicts
    × (kept ≡ plain_entries gone.history.entries)
    × (n : ℕ) × (after ≡ append_known before (take n (line_for kept gone.tally.bytes)))
Concludes gone NoMemory found kept before after count verdicts =
    IsNothingDone found kept before after
Concludes gone ReadFault found kept before after count verdicts = ⊥
Concludes gone (Malformed n) found kept before after count verdicts = ⊥
Concludes gone (Differs n) found kept before after count verdicts =
    (gone.tally.differs ≡ Some n) × (kept ≡ plain_entries gone.history.entries)
    × (after ≡ before)
Concludes gone (Objects place n) found kept before after count verdicts =
    (gone.tally.differs ≡ None) × IsFirstNo count verdicts place n
    × (kept ≡ plain_entries gone.history.entries) × (after ≡ before)
