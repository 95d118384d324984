-- How a session that is alone ends: what was read, kept and written by then.
use Rattle.std.specs.Prelude.{◌≡◌, ℕ, ◌≤◌, List, ◌++◌, length, take, Option, Some, None}
use Rattle.std.specs.List.{concat}
use Rattle.std.specs.Io.KnownBytes.{append_known}
use Rattle.nv_io.specs.declared.lanes.Flaw.{Flaw}
use Rattle.nv_io.specs.declared.lanes.Ended.{Ended}
use Rattle.nv_io.specs.declared.lanes.Ended.TheVariants.{Closed, Malformed, Overflowed, ReadFault, WriteFault, Quit, NoMemory}
use Rattle.nv_rpc.specs.Calls.{Call}
use Rattle.nv_history.specs.Events.{Entry, Cause, closed_at, overflowed_at, quit_at}
use Rattle.nv_history.specs.Asking.{calls_of}
use Rattle.nv_core.specs.declared.start.Start.{Start}
use Rattle.nv_calls.specs.Reading.{Calls, Reads, WasRead, IsUnfinished, IfInside}
use Rattle.nv_session.specs.Sending.{AreBytesTaken, history_of, cause_after}

-- The bytes read hold calls and then this flaw or none; the history is that of a session that makes
-- all of these calls, each has its request in it, and its own close ends it. What went out grew by
-- all that it is sent of what it took.
pub record AnswersAll (start : Start) (flaw : Option Flaw) (bytes : List ℕ) (kept : List Entry)
    (before after : Option (List ℕ)) : Type 0 where
  pub calls : List Call
  pub reads : Reads calls bytes flaw
  pub history : kept ≡ history_of start calls
  pub asked : calls_of 1 kept ≡ calls
  pub entry : ℕ
  pub closed : cause_after start kept ≡ Some (closed_at entry)
  pub sent : List ℕ
  pub sent_is : AreBytesTaken start kept sent
  pub written : after ≡ append_known before sent

-- The bytes read begin with calls, the last of which closed the session for this cause; the history
-- is that of a session that makes these calls, whatever calls follow. What went out grew by all
-- that it is sent of what it took.
pub record AnswersUpTo (start : Start) (cause : Cause) (bytes : List ℕ) (kept : List Entry)
    (before after : Option (List ℕ)) : Type 0 where
  pub calls : List Call
  pub whole : List ℕ
  pub rest : List ℕ
  pub parts : bytes ≡ whole ++ rest
  pub reads : Calls calls whole
  pub history : (more : List Call) → kept ≡ history_of start (calls ++ more)
  pub asked : calls_of 1 kept ≡ calls
  pub closed : cause_after start kept ≡ Some cause
  pub sent : List ℕ
  pub sent_is : AreBytesTaken start kept sent
  pub written : after ≡ append_known before sent

-- of what each read gave, in order: the calls that were whole before the last read are the first of
-- these
pub record HasEarlier (calls : List Call) (pieces : List (List ℕ)) : Type 0 where
  pub earlier : List (List ℕ)
  pub last : List (List ℕ)
  pub parts : pieces ≡ earlier ++ last
  pub short : length last ≤ 1
  pub first : List Call
  pub later : List Call
  pub flaw : Option Flaw
  pub unfinished : IsUnfinished flaw
  pub reads : Reads first (concat earlier) flaw
  pub begins : calls ≡ first ++ later

-- a history is that of a session that makes these calls, or the front of it
abbrev pub IsHistoryOf : Start → List Call → List Entry → Type 0
IsHistoryOf start calls kept = kept ≡ history_of start calls

abbrev pub IsFront : Start → List Call → List Entry → Type 0
IsFront start calls kept = (more : List Entry) × (history_of start calls ≡ kept ++ more)

-- What the reads gave begins with calls whose answers went out whole, and then with the next ones;
-- the history is, so far as `Is` says, that of a session that makes them all. What went out grew by
-- all that is sent of what was taken for the former calls, and a prefix of what is sent for the
-- next ones together. Each call that was whole before the last read was answered whole.
pub record AnswersSome (start : Start) (Is : Start → List Call → List Entry → Type 0)
    (pieces : List (List ℕ)) (kept : List Entry) (before after : Option (List ℕ)) : Type 0 where
  pub calls : List Call
  pub next : List Call
  pub whole : List ℕ
  pub rest : List ℕ
  pub parts : concat pieces ≡ whole ++ rest
  pub reads : Calls (calls ++ next) whole
  pub earlier : HasEarlier calls pieces
  pub history : Is start (calls ++ next) kept
  pub front : List ℕ
  pub front_is : AreBytesTaken start (history_of start calls) front
  pub last_sent : List ℕ
  pub sent_is : AreBytesTaken start kept (front ++ last_sent)
  pub count : ℕ
  pub written : after ≡ append_known before (front ++ take count last_sent)

-- what a session read, one piece a read, kept and wrote by its end
abbrev pub SessionEnds : Start → Ended → List (List ℕ) → Option (List ℕ) → List Entry
    → Option (List ℕ) → Option (List ℕ) → Type 0
SessionEnds start Closed pieces left kept before after =
    AnswersAll start None (concat pieces) kept before after × WasRead left (concat pieces)
SessionEnds start (Malformed flaw) pieces left kept before after =
    AnswersAll start (Some flaw) (concat pieces) kept before after
    × IfInside flaw (WasRead left (concat pieces))
SessionEnds start ReadFault pieces left kept before after =
    (flaw : Option Flaw) × IsUnfinished flaw
    × AnswersAll start flaw (concat pieces) kept before after
SessionEnds start WriteFault pieces left kept before after =
    AnswersSome start IsHistoryOf pieces kept before after
SessionEnds start NoMemory pieces left kept before after =
    AnswersSome start IsFront pieces kept before after
SessionEnds start (Overflowed entry) pieces left kept before after =
    AnswersUpTo start (overflowed_at entry) (concat pieces) kept before after
SessionEnds start (Quit entry) pieces left kept before after =
    AnswersUpTo start (quit_at entry) (concat pieces) kept before after
