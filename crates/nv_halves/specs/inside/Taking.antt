-- inside: what a writer takes, and what it has written on its way.
use Rattle.std.specs.Prelude.{◌≡◌, ℕ, List, take, All, Option, Some, Result, Ok, Err}
use Rattle.std.specs.Io.KnownBytes.{append_known}
use Rattle.nv_turn.specs.Passes.{IsSamePass}
use Rattle.nv_rpc.specs.Messages.{Sent, IsSendable}
use Rattle.nv_screen.specs.declared.scene.Scene.{Scene}
use Rattle.nv_linegrid.specs.declared.event.Redraw.{Redraw}
use Rattle.nv_linegrid.specs.Told.{Told, nothing_told}
use Rattle.nv_model.specs.Editors.{ModelEditor}
use Rattle.nv_painter.specs.Spoken.{IsSoundIfThere}
use Rattle.nv_history.specs.Events.{take_of, Entry, gives}
use Rattle.nv_history.specs.Worlds.{World, becomes, step}
use Rattle.nv_history.specs.Runs.{TakenBatch}
use Rattle.nv_history.specs.Asking.{takes_by}
use Rattle.nv_history.specs.Spoken.{ShowsIfGiven, AreSpoken, AreBytesOf}
use Rattle.nv_core.specs.Contents.{plain_cause}
use Rattle.nv_speech.specs.Flows.{sent_in}
use Rattle.nv_speech.specs.declared.saying.Unsaid.{Unsaid}
use Rattle.nv_speech.specs.declared.saying.Unsaid.TheVariants as unsaid
use Rattle.nv_core.specs.Outcomes.{effect_of_taken}
use Rattle.nv_core.specs.Bounds.{GivesSendable}
use Rattle.nv_core.specs.declared.effect.Batch.{Batch}
use Rattle.nv_core.specs.declared.effect.Cause.{Cause as WorldCause}
use Rattle.nv_core.specs.declared.calls.Taken.{Taken}
use Rattle.nv_core.specs.declared.calls.Taken.TheVariants as taken
use Rattle.nv_core.specs.declared.calls.Untaken.{Untaken}
use Rattle.nv_core.specs.declared.start.Start.{Start}
use Rattle.nv_halves.specs.Passes.{WorldPass, IsFromWriter, GainedEach, IsOver}
use Rattle.nv_core.specs.Starts.{world_of_run, out_of}
use Rattle.nv_core.specs.Visits.{Visit, AddsEvent, AddsNothing, DoesEvent}
use Rattle.nv_halves.specs.Applying.{AppliesOnce}
use Rattle.nv_halves.specs.Halves.{WritesHalf}
use Rattle.nv_halves.specs.inside.Insisting.{Stays}
use Rattle.nv_halves.specs.declared.ends.WriterEnd.{WriterEnd}
use Rattle.nv_halves.specs.declared.ends.WriterEnd.TheVariants as w
use Rattle.nv_halves.specs.declared.writer.Written.{Written}
use Rattle.nv_halves.specs.declared.writer.Written.TheVariants as written

-- ---- what was taken

-- what a take of a session came to
abbrev pub TakesWith : Result Taken Untaken → ℕ → Visit → Type 0
TakesWith (Ok given) s v =
    DoesEvent (take_of s) (effect_of_taken given) v × GivesSendable (effect_of_taken given)
TakesWith (Err why) s v = AddsNothing v

-- a pass took these messages for a session, and a scene where its UI is to show the editor
pub record IsTaken (s : ℕ) (messages : List Sent) (scene : Option Scene) (v : Visit) : Type 0 where
  pub world : World
  pub later : World
  pub editor : Option ModelEditor
  pub runs : world_of_run v.start v.found ≡ Some world
  pub shows : ShowsIfGiven editor scene
  pub gave : step world (take_of s) ≡ becomes later (gives messages editor)
  pub entered : AddsEvent (take_of s) v

-- a batch that can be spoken was taken
pub record TakesBatch (p q : WorldPass) (s : ℕ) (batch : Batch) : Type 0 where
  pub once : AppliesOnce p q (IsTaken s (sent_in batch) batch.scene)
  pub sendable : All IsSendable (sent_in batch)
  pub sound : IsSoundIfThere batch.scene

-- nothing is due to a session any more: it is closed for this cause
pub record IsOverNow (q : WorldPass) (s : ℕ) (cause : WorldCause) : Type 0 where
  pub world : World
  pub runs : world_of_run q.start q.seen ≡ Some world
  pub over : IsOver world s (plain_cause cause)

-- what a take of a session gave
abbrev pub TakesOnce : Result Taken Untaken → WorldPass → WorldPass → ℕ → Type 0
TakesOnce (Ok (taken.Items batch)) p q s = TakesBatch p q s batch
TakesOnce (Ok taken.Nothing) p q s = Stays p q
TakesOnce (Ok (taken.Over cause)) p q s = Stays p q × IsOverNow q s cause
TakesOnce (Err why) p q s = Stays p q

-- ---- a writer on its way

-- these are the batches that the takes of a session gave in a history, where those are the gained
-- ones
abbrev pub IsExact : Option Start → ℕ → List Entry → List Entry → List TakenBatch → Type 0
IsExact start s now gained got =
    (w : World) → world_of_run start now ≡ Some w → takes_by s now ≡ takes_by s gained
    → out_of start s now ≡ got

-- what a pass gained that takes for a session, and the batches that it took
pub record GainsTakes (p q : WorldPass) (s : ℕ) (got : List TakenBatch) : Type 0 where
  pub same : IsSamePass p q
  pub gained : List Entry
  pub gains : GainedEach (IsFromWriter s) p.number p.seen q.seen gained
  pub exact : IsExact p.start s q.seen gained got

-- all of it went out, and the client was told so much
pub record WritesSoFar (p q : WorldPass) (s : ℕ) (told : Told) (before now : Option (List ℕ))
    : Type 0 where
  pub got : List TakenBatch
  pub takes : GainsTakes p q s got
  pub bytes : List ℕ
  pub events : List Redraw
  pub spoken : AreSpoken nothing_told got bytes events told
  pub written : now ≡ append_known before bytes

-- a front of it went out
pub record WritesPart (p q : WorldPass) (s : ℕ) (before now : Option (List ℕ)) : Type 0 where
  pub got : List TakenBatch
  pub takes : GainsTakes p q s got
  pub bytes : List ℕ
  pub bytes_are : AreBytesOf got bytes
  pub count : ℕ
  pub written : now ≡ append_known before (take count bytes)

-- an end by which a batch goes out in part: writing failed, or memory was wanting
abbrev pub IsCutOff : WriterEnd → Type 0
IsCutOff w.WriteFault = Unit {0}
IsCutOff w.NoMemory = Unit {0}
IsCutOff (w.Over cause) = ⊥

-- how a writer ends whose batch didn't go out whole
abbrev pub writer_end_unsaid : Unsaid → WriterEnd
writer_end_unsaid unsaid.WriteFault = w.WriteFault
writer_end_unsaid unsaid.NoMemory = w.NoMemory

-- a pass took for a session what nobody is sent, and may have closed it: of all that a writer took
-- by then a front went out still
pub record Drops (p q : WorldPass) (s : ℕ) : Type 0 where
  pub same : IsSamePass p q
  pub part : (first : WorldPass) (before now : Option (List ℕ)) → WritesPart first p s before now
      → WritesPart first q s before now

-- what one take of a writer did, whatever it did before
abbrev pub WritesOnce : Written → WorldPass → WorldPass → ℕ → Told → Told → Option (List ℕ)
    → Option (List ℕ) → Type 0
WritesOnce (written.Ends end) p q s told told_now out now =
    (first : WorldPass) (before : Option (List ℕ)) → WritesSoFar first p s told before out
    → WritesHalf end first q s before now
WritesOnce on p q s told told_now out now =
    (first : WorldPass) (before : Option (List ℕ)) → WritesSoFar first p s told before out
    → WritesSoFar first q s told_now before now
