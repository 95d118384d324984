-- What the two halves of a session do: one reads calls and makes them, one takes what is due and
-- writes it (own rule; MessagePack-RPC specification).
use Rattle.std.specs.Prelude.{◌≡◌, ℕ, List, take, Option, Some, None}
use Rattle.std.specs.Io.KnownBytes.{append_known}
use Rattle.nv_turn.specs.Passes.{IsSamePass}
use Rattle.nv_io.specs.declared.lanes.Flaw.{Flaw}
use Rattle.nv_io.specs.Streams.{Gave}
use Rattle.nv_rpc.specs.Calls.{Call}
use Rattle.nv_history.specs.Events.{Entry, Cause, closed_at}
use Rattle.nv_history.specs.Worlds.{World}
use Rattle.nv_history.specs.Asking.{takes_by, calls_of}
use Rattle.nv_history.specs.Spoken.{AreBytesOf}
use Rattle.nv_core.specs.Contents.{plain_cause}
use Rattle.nv_halves.specs.Passes.{WorldPass, OfEach, IsFromReader, IsFromWriter, GainedEach, IsClosedBy, IsOver}
use Rattle.nv_core.specs.Starts.{out_of}
use Rattle.nv_calls.specs.Reading.{Reads, BeginWithCalls, WasRead, IsUnfinished, IfInside}
use Rattle.nv_halves.specs.declared.ends.ReaderEnd.{ReaderEnd}
use Rattle.nv_halves.specs.declared.ends.ReaderEnd.TheVariants as r
use Rattle.nv_halves.specs.declared.ends.WriterEnd.{WriterEnd}
use Rattle.nv_halves.specs.declared.ends.WriterEnd.TheVariants as w

-- ---- the half that reads

-- a pass gained these calls of a session, and nothing else but its close
pub record Asks (p q : WorldPass) (s : ℕ) (calls : List Call) : Type 0 where
  pub same : IsSamePass p q
  pub gained : List Entry
  pub gains : GainedEach (IsFromReader s) p.number p.seen q.seen gained
  pub calls_are : calls_of s gained ≡ calls

-- all calls that these bytes hold up to this flaw or their end
pub record AsksAll (p q : WorldPass) (s : ℕ) (bytes : List ℕ) (flaw : Option Flaw) : Type 0 where
  pub calls : List Call
  pub reads : Reads calls bytes flaw
  pub asks : Asks p q s calls

-- calls with which these bytes begin
pub record AsksSome (p q : WorldPass) (s : ℕ) (bytes : List ℕ) : Type 0 where
  pub calls : List Call
  pub begins : BeginWithCalls calls bytes
  pub asks : Asks p q s calls

-- in each history that goes on the session is closed for this cause
abbrev pub Goes : WorldPass → ℕ → Cause → Type 0
Goes q s cause = OfEach q.start q.seen (λ history world. IsClosedBy world s cause)

-- which calls a reader made of the bytes that it read, of which this is left, by how it ended
abbrev pub ReadBy : ReaderEnd → WorldPass → WorldPass → ℕ → List ℕ → Option (List ℕ) → Type 0
ReadBy r.Closed p q s bytes left = AsksAll p q s bytes None × WasRead left bytes
ReadBy (r.Malformed flaw) p q s bytes left =
    AsksAll p q s bytes (Some flaw) × IfInside flaw (WasRead left bytes)
ReadBy r.ReadFault p q s bytes left =
    (flaw : Option Flaw) × IsUnfinished flaw × AsksAll p q s bytes flaw
ReadBy (r.Gone cause) p q s bytes left = AsksSome p q s bytes × Goes q s (plain_cause cause)
ReadBy r.NoMemory p q s bytes left = AsksSome p q s bytes

-- a reader: the bytes that it read, and the calls that it made
abbrev pub ReadsHalf : ReaderEnd → WorldPass → WorldPass → ℕ → Option (List ℕ) → Option (List ℕ)
    → Option (List ℕ) → Option (List ℕ) → Type 0
ReadsHalf end p q s taken_before taken_after left_before left_after =
    (bytes : List ℕ) × Gave taken_before taken_after left_before left_after bytes
    × ReadBy end p q s bytes left_after

-- a reader that ended so has closed its session by its own close
abbrev pub LeavesClosed : ReaderEnd → WorldPass → ℕ → Type 0
LeavesClosed r.Closed q s = (entry : ℕ) × Goes q s (closed_at entry)
LeavesClosed (r.Malformed flaw) q s = (entry : ℕ) × Goes q s (closed_at entry)
LeavesClosed r.ReadFault q s = (entry : ℕ) × Goes q s (closed_at entry)
LeavesClosed (r.Gone cause) q s = Unit {0}
LeavesClosed r.NoMemory q s = Unit {0}

-- ---- the half that writes

-- all that a session is sent of what it took in a history went out, and then a front of it
pub record WroteAll (batches_bytes : List ℕ → Type 0) (before after : Option (List ℕ)) : Type 0
  where
    pub bytes : List ℕ
    pub bytes_are : batches_bytes bytes
    pub written : after ≡ append_known before bytes

pub record WroteFront (batches_bytes : List ℕ → Type 0) (before after : Option (List ℕ)) : Type 0
  where
    pub bytes : List ℕ
    pub bytes_are : batches_bytes bytes
    pub count : ℕ
    pub written : after ≡ append_known before (take count bytes)

-- what a writer wrote, where these are the bytes of what its session took, by how it ended
abbrev pub WroteBy : WriterEnd → World → ℕ → (List ℕ → Type 0) → Option (List ℕ)
    → Option (List ℕ) → Type 0
WroteBy (w.Over cause) world s are_bytes before after =
    WroteAll are_bytes before after × IsOver world s (plain_cause cause)
WroteBy w.WriteFault world s are_bytes before after = WroteFront are_bytes before after
WroteBy w.NoMemory world s are_bytes before after = WroteFront are_bytes before after

-- a writer: what it gained, and what it wrote, in each history that goes on and in which the takes
-- of its session are the gained ones
pub record WritesHalf (end : WriterEnd) (p q : WorldPass) (s : ℕ)
    (before after : Option (List ℕ)) : Type 0 where
  pub same : IsSamePass p q
  pub gained : List Entry
  pub gains : GainedEach (IsFromWriter s) p.number p.seen q.seen gained
  pub wrote : OfEach q.start q.seen (λ history world.
      takes_by s history ≡ takes_by s gained
      → WroteBy end world s (AreBytesOf (out_of q.start s history)) before after)
