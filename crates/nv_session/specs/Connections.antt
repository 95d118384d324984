-- What a connection does by its end: which of its calls stand in the one history, and what went
-- out of what its session is sent (own rule; MessagePack-RPC specification; Neovim help `rpc`).
use Rattle.std.specs.Prelude.{◌≡◌, ◌⊎◌, ℕ, List, [], ◌∷◌, Option, Some, None}
use mathlib.Core.List.{IsPrefix}
use Rattle.nv_turn.specs.Passes.{IsSamePass}
use Rattle.nv_io.specs.Faults.{Rose}
use Rattle.nv_io.specs.Streams.{Gave}
use Rattle.nv_io.specs.Words.{HalvesWords}
use Rattle.nv_io.specs.declared.lanes.Flaw.{Flaw}
use Rattle.nv_io.specs.declared.lanes.Ended.{Ended}
use Rattle.nv_io.specs.declared.lanes.Ended.TheVariants.{Closed, Malformed, Overflowed, ReadFault, WriteFault, Quit, NoMemory}
use Rattle.nv_history.specs.Events.{Entry, Cause, closed_at, overflowed_at, quit_at}
use Rattle.nv_history.specs.Worlds.{World}
use Rattle.nv_history.specs.Asking.{takes_by, calls_of}
use Rattle.nv_history.specs.Spoken.{AreBytesOf}
use Rattle.nv_core.specs.declared.start.Start.{Start}
use Rattle.nv_calls.specs.Reading.{Reads, BeginWithCalls, WasRead, IsUnfinished, IfInside}
use Rattle.nv_halves.specs.Halves.{WroteAll, WroteFront}
use Rattle.nv_halves.specs.Passes.{WorldPass, OfEach, IsFromReader, IsFromWriter, EachEvent, Gained, GainedEach, IsClosedBy, IsOver}
use Rattle.nv_core.specs.Starts.{out_of}
use Rattle.nv_session.specs.Openings.{opening_entry, HasOpening, IsWhyUnopened}

-- What went over a connection: the bytes read, and what is left of them; and of the end where bytes
-- go out what it had taken, and its faults, before and after.
pub record Traffic : Type 0 where
  pub read : List ℕ
  pub left : Option (List ℕ)
  pub sent_before : Option (List ℕ)
  pub sent_after : Option (List ℕ)
  pub faults_before : ℕ
  pub faults_after : ℕ

-- all that a session is sent of what it took went out, and nothing waits for it, which is closed
-- for this cause
abbrev pub SendsAll : Option Start → ℕ → List Entry → World → Cause → Traffic → Type 0
SendsAll start s history world cause x =
    WroteAll (AreBytesOf (out_of start s history)) x.sent_before x.sent_after
    × IsOver world s cause

-- and by its own close
abbrev pub SendsAllAndCloses : Option Start → ℕ → List Entry → World → Traffic → Type 0
SendsAllAndCloses start s history world x =
    (entry : ℕ) × SendsAll start s history world (closed_at entry) x

-- a front of it went out
abbrev pub SendsFront : Option Start → ℕ → List Entry → Traffic → Type 0
SendsFront start s history x =
    WroteFront (AreBytesOf (out_of start s history)) x.sent_before x.sent_after

-- all of it went out, or a front of it, and then writing failed; the session is closed for this
-- cause
abbrev pub SendsUnlessFault : Option Start → ℕ → List Entry → World → Cause → Traffic → Type 0
SendsUnlessFault start s history world cause x =
    IsClosedBy world s cause
    × (SendsAll start s history world cause x
    ⊎ (SendsFront start s history x × Rose x.faults_before x.faults_after))

-- How a session ended, of whose connection this is the traffic, in a history that runs to a world:
-- its calls there are all that the bytes read hold, or with an overflow, the end of the world, a
-- fault of writing or want of memory the first of them.
abbrev pub ConnectionEnds : Ended → Option Start → ℕ → List Entry → World → Traffic → Type 0
ConnectionEnds Closed start s history world x =
    Reads (calls_of s history) x.read None × WasRead x.left x.read
    × SendsAllAndCloses start s history world x
ConnectionEnds (Malformed flaw) start s history world x =
    Reads (calls_of s history) x.read (Some flaw) × IfInside flaw (WasRead x.left x.read)
    × SendsAllAndCloses start s history world x
ConnectionEnds ReadFault start s history world x =
    ((flaw : Option Flaw) × IsUnfinished flaw × Reads (calls_of s history) x.read flaw)
    × SendsAllAndCloses start s history world x
ConnectionEnds (Overflowed entry) start s history world x =
    BeginWithCalls (calls_of s history) x.read
    × SendsUnlessFault start s history world (overflowed_at entry) x
ConnectionEnds (Quit entry) start s history world x =
    BeginWithCalls (calls_of s history) x.read
    × SendsUnlessFault start s history world (quit_at entry) x
ConnectionEnds WriteFault start s history world x =
    BeginWithCalls (calls_of s history) x.read
    × ((entry : ℕ) × IsClosedBy world s (closed_at entry)) × SendsFront start s history x
ConnectionEnds NoMemory start s history world x =
    BeginWithCalls (calls_of s history) x.read × SendsFront start s history x

module _ {I S : Type 0} (t : HalvesWords I S) where
  -- the traffic of a connection of which these bytes were read
  abbrev pub traffic_of : List ℕ → I → S → S → Traffic
  traffic_of bytes input_after output output_after = record {
    read = bytes;
    left = (t.input input_after).left;
    sent_before = (t.output output).taken;
    sent_after = (t.output output_after).taken;
    faults_before = (t.output output).faults;
    faults_after = (t.output output_after).faults;
  }

  -- A connection was served as the session s. The first pass gained its opening, and then entries
  -- of the half that reads; the second pass gained entries of the half that writes. In each history
  -- that goes on from what both have seen, and in which the takes and the calls of the session are
  -- the gained ones, the connection ended so.
  pub record ServesSession (p q p_after q_after : WorldPass) (input input_after : I)
      (output output_after : S) (s : ℕ) (how : Ended) : Type 0 where
    pub first : IsSamePass p p_after
    pub second : IsSamePass q q_after
    pub opening : HasOpening p.number s p.seen p_after.seen
    pub asked : List Entry
    pub taken : List Entry
    pub gains_one : Gained p.number p.seen p_after.seen (opening_entry p.number ∷ asked)
    pub each_asked : EachEvent (IsFromReader s) asked
    pub gains_other : GainedEach (IsFromWriter s) q.number q.seen q_after.seen taken
    pub bytes : List ℕ
    pub read : Gave (t.input input).taken (t.input input_after).taken (t.input input).left
        (t.input input_after).left bytes
    pub ends : OfEach p.start p_after.seen (λ history world.
        IsPrefix q_after.seen history → takes_by s history ≡ takes_by s taken
        → calls_of s history ≡ calls_of s asked
        → ConnectionEnds how p.start s history world
        (traffic_of bytes input_after output output_after))

  -- A connection never was a session: no pass gained an entry, no byte was read and none went out.
  -- Either the world had ended by an entry, or memory was wanting.
  pub record ServesNone (p q p_after q_after : WorldPass) (input input_after : I)
      (output output_after : S) (how : Ended) : Type 0 where
    pub first : IsSamePass p p_after
    pub gains_one : Gained p.number p.seen p_after.seen []
    pub second : q_after ≡ q
    pub read : input_after ≡ input
    pub sent : (t.output output_after).taken ≡ (t.output output).taken
    pub why : IsWhyUnopened how p.start p_after.seen
