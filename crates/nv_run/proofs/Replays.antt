-- Files that are replayed, and books that are written.
use Rattle.std.proofs.Common.{◌≡◌, ◌≢◌, ◌⊎◌, inl, inr, ℕ, Bool, true, false, List, [], Option, Some, None, refl, sym, ap, ◌∙◌, subst}
use Rattle.std.specs.Prelude.{IsSome, take}
use Rattle.std.specs.Io.KnownBytes.{append_known}
use Rattle.std.proofs.lemmas.List.{append-nil}
use Rattle.nv_io.specs.Faults.{Rose}
use Rattle.nv_io.specs.Words.{SinkWords, SourceWords}
use Rattle.nv_dispatch.specs.Runs.{usual_limits}
use Rattle.nv_history.specs.Events.{Entry}
use Rattle.nv_core.specs.Contents.{plain_entries}
use Rattle.nv_core.specs.declared.entry.Entry as world
use Rattle.nv_core.specs.declared.start.Start.{Start}
use Rattle.nv_book.specs.Writing.{WroteBook, WroteBookFront}
use Rattle.nv_watch.specs.Verdicts.{Sight}
use Rattle.nv_watch.specs.declared.verdict.Verdict.{Verdict}
use Rattle.nv_session.specs.Sending.{world_after}
use Rattle.nv_replay.specs.Ends.{CheckEnds, IsNothingDone, ReplayEnds, WriteEnds}
use Rattle.nv_replay.specs.declared.ending.ReplayEnd.{ReplayEnd}
use Rattle.nv_replay.specs.declared.ending.ReplayEnd.TheVariants as replay
use Rattle.nv_replay.specs.declared.ending.WriteEnd.{WriteEnd}
use Rattle.nv_replay.specs.declared.ending.WriteEnd.TheVariants as write
use Rattle.nv_run.specs.Commands.{usual_start}
use Rattle.nv_run.specs.Replaying.{LeavesFile, PlaysBook}
use Rattle.nv_run.specs.Serving.{WritesBook}
use Rattle.nv_run.specs.declared.serving.ServerEnd.{ServerEnd}
use Rattle.nv_run.specs.declared.serving.ServerEnd.TheVariants as server
use Rattle.nv_run.specs.inside.Ends.{IsEndOfBook}
use Rattle.nv_run.proofs.Books.{kept_runs}

-- ---- the history of a replay runs

abbrev RunsSomehow : List Entry → Type 0
RunsSomehow kept = (outbox : ℕ) × IsSome (world_after (usual_start outbox) kept)

nothing_runs_so : (found kept : List Entry) (before after : Option (List ℕ)) → found ≡ [] → IsNothingDone found kept before after → RunsSomehow kept
nothing_runs_so found kept before after none h = (4096, kept_runs 4096 kept (h.0 ∙ none))

replay_runs : (ended : ReplayEnd) (bytes : List ℕ) (left : Option (List ℕ)) (found kept : List Entry) (before after : Option (List ℕ)) → found ≡ [] → ReplayEnds usual_limits ended bytes left found kept before after → RunsSomehow kept
replay_runs replay.Done bytes left found kept before after none h = (h.outbox, h.read.runs)
replay_runs replay.WriteFault bytes left found kept before after none h = (h.outbox, h.read.runs)
replay_runs replay.NoMemory bytes left found kept before after none (inl h) = nothing_runs_so found kept before after none h
replay_runs replay.NoMemory bytes left found kept before after none (inr h) = (h.outbox, h.read.runs)
replay_runs replay.ReadFault bytes left found kept before after none h = nothing_runs_so found kept before after none h
replay_runs (replay.Malformed n) bytes left found kept before after none h = nothing_runs_so found kept before after none h.1
replay_runs (replay.Differs n) bytes left found kept before after none h = absurd h
replay_runs (replay.Objects place n) bytes left found kept before after none h = absurd h

check_runs : (ended : ReplayEnd) (bytes : List ℕ) (left : Option (List ℕ)) (found kept : List Entry) (before after : Option (List ℕ)) (count : ℕ) (seen : List Sight) (verdicts : List Verdict) → found ≡ []
    → CheckEnds usual_limits ended bytes left found kept before after count seen verdicts → RunsSomehow kept
check_runs replay.Done bytes left found kept before after count seen verdicts none h = (h.outbox, h.over.read.runs)
check_runs replay.WriteFault bytes left found kept before after count seen verdicts none h = (h.outbox, h.over.read.runs)
check_runs replay.NoMemory bytes left found kept before after count seen verdicts none h = nothing_runs_so found kept before after none h
check_runs replay.ReadFault bytes left found kept before after count seen verdicts none h = nothing_runs_so found kept before after none h
check_runs (replay.Malformed n) bytes left found kept before after count seen verdicts none h = nothing_runs_so found kept before after none h.1
check_runs (replay.Differs n) bytes left found kept before after count seen verdicts none h = (h.0.outbox, h.0.over.read.runs)
check_runs (replay.Objects place n) bytes left found kept before after count seen verdicts none h = (h.0.outbox, h.0.over.read.runs)

plays_run : (check : Bool) (count : ℕ) (Say : List Sight → List Verdict → Type 0) (ended : ReplayEnd) (bytes : List ℕ) (left : Option (List ℕ)) (found kept : List Entry) (before after : Option (List ℕ)) → found ≡ []
    → PlaysBook check count Say ended bytes left found kept before after → RunsSomehow kept
plays_run true count Say ended bytes left found kept before after none h = check_runs ended bytes left found kept before after count h.0 h.1 none h.2
plays_run false count Say ended bytes left found kept before after none h = replay_runs ended bytes left found kept before after none h

pub file_runs : {I : Type 0} (words : I → SourceWords) (ended : ReplayEnd) (rose : Type 0) (check : Bool) (count : ℕ) (Say : List Sight → List Verdict → Type 0) (found : List world.Entry) (kept : List Entry)
    (before after : Option (List ℕ)) (olds news : Option (List I)) → found ≡ []
    → LeavesFile words ended rose (IsNothingDone (plain_entries found) kept before after) (λ bytes left. PlaysBook check count Say ended bytes left (plain_entries found) kept before after) olds news → RunsSomehow kept
file_runs words ended rose check count Say found kept before after olds news none (inl h) =
    plays_run check count Say ended h.bytes (words h.back).left (plain_entries found) kept before after (ap plain_entries none) h.plays
file_runs words ended rose check count Say found kept before after olds news none (inr h) =
    nothing_runs_so (plain_entries found) kept before after (ap plain_entries none) h.none

-- ---- books

pub book_written : {S : Type 0} (words : S → SinkWords) (start : Start) (kept : List Entry) (written : WriteEnd) (ended later : ServerEnd) (given back : S) → WriteEnds start written kept (words given).taken (words back).taken
    → IsEndOfBook written ended later → (written ≡ write.WriteFault → Rose (words given).faults (words back).faults) → WritesBook words start kept later given back
book_written words start kept write.Done ended later given back h end fault = inl h
book_written words start kept write.NoMemory ended later given back h end fault = inr (h, inl end)
book_written words start kept write.WriteFault ended later given back h end fault = inr (h, inr (end, fault refl))

no_fault : (e : ServerEnd) → e ≡ server.NoMemory → e ≡ server.WriteFault → ⊥
no_fault e h k = memory_is (sym h ∙ k)
  where
    memory_is : server.NoMemory ≡ server.WriteFault → ⊥
    memory_is e = cc (e)

pub book_fault : (written : WriteEnd) (ended later : ServerEnd) (rose : Type 0) → IsEndOfBook written ended later → (ended ≡ server.WriteFault → ⊥) → (written ≡ write.WriteFault → rose) → later ≡ server.WriteFault → rose
book_fault write.Done ended later rose end other fault is = absurd (other (sym end ∙ is))
book_fault write.NoMemory ended later rose end other fault is = absurd (no_fault later end is)
book_fault write.WriteFault ended later rose end other fault is = fault refl

append_none : (known : Option (List ℕ)) → known ≡ append_known known []
append_none None = refl
append_none (Some bytes) = ap (λ (l : List ℕ). Some l) (sym (append-nil bytes))

-- nothing was written of a book
pub book_unwritten : (start : Start) (history : List Entry) (known : Option (List ℕ)) → WroteBookFront start history known known
book_unwritten start history known = record {
  records = [];
  more = history;
  entries_are = refl;
  outputs = tt;
  count = 0;
  written = append_none known;
}
