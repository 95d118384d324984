-- How a connection ends, by its two halves.
use Rattle.std.proofs.Common.{◌≡◌, ℕ, ◌+◌, List, [], ◌∷◌, ◌++◌, length, Option, Some, None, refl, ap, sym, ◌∙◌, subst, arith, inl, inr, append_assoc}
use Rattle.std.proofs.lemmas.List.{take_all}
use Rattle.std.proofs.lemmas.Option.{same_Some}
use Rattle.std.specs.Io.KnownBytes.{append_known}
use Rattle.nv_io.specs.Faults.{Rose}
use Rattle.nv_io.specs.declared.lanes.Flaw.{Flaw}
use Rattle.nv_io.specs.declared.lanes.Ended.{Ended}
use Rattle.nv_io.specs.declared.lanes.Ended.TheVariants.{Closed, Malformed, ReadFault, WriteFault, NoMemory}
use Rattle.nv_rpc.specs.Calls.{Call}
use Rattle.nv_history.specs.Events.{Entry, Cause, closed_at, overflowed_at, quit_at}
use Rattle.nv_history.specs.Sessions.{Session}
use Rattle.nv_history.specs.Worlds.{World}
use Rattle.nv_history.specs.Asking.{calls_of}
use Rattle.nv_history.specs.Spoken.{AreBytesOf}
use Rattle.nv_core.specs.Contents.{plain_cause}
use Rattle.nv_core.specs.declared.effect.Cause.{Cause as WorldCause}
use Rattle.nv_core.specs.declared.effect.Cause.TheVariants as cause
use Rattle.nv_core.specs.declared.start.Start.{Start}
use Rattle.nv_halves.specs.Passes.{WorldPass, OfEach, IsClosedBy, IsOver}
use Rattle.nv_core.specs.Starts.{out_of}
use Rattle.nv_calls.specs.Reading.{ReadsFrom, Reads, BeginWithCalls, WasRead, IsUnfinished, IfInside}
use Rattle.nv_halves.specs.Halves.{Asks, ReadBy, LeavesClosed, WroteAll, WroteFront, WroteBy}
use Rattle.nv_halves.specs.declared.ends.ReaderEnd.{ReaderEnd}
use Rattle.nv_halves.specs.declared.ends.ReaderEnd.TheVariants as r
use Rattle.nv_halves.specs.declared.ends.WriterEnd.{WriterEnd}
use Rattle.nv_halves.specs.declared.ends.WriterEnd.TheVariants as w
use Rattle.nv_session.specs.Joined.{end_by_cause, end_beside, end_beside_gone, end_of_halves}
use Rattle.nv_session.specs.Connections.{Traffic, SendsAllAndCloses, SendsFront, ConnectionEnds}

-- ---- the half that reads, in one history

-- the session is closed by its own close
abbrev pub ClosesItself : World → ℕ → Type 0
ClosesItself world s = (entry : ℕ) × IsClosedBy world s (closed_at entry)

-- which calls of the bytes read these are, and how the session is closed
abbrev pub ReadOf : ReaderEnd → List Call → World → ℕ → List ℕ → Option (List ℕ) → Type 0
ReadOf r.Closed calls world s bytes left = Reads calls bytes None × WasRead left bytes × ClosesItself world s
ReadOf (r.Malformed flaw) calls world s bytes left = Reads calls bytes (Some flaw) × IfInside flaw (WasRead left bytes) × ClosesItself world s
ReadOf r.ReadFault calls world s bytes left = ((flaw : Option Flaw) × IsUnfinished flaw × Reads calls bytes flaw) × ClosesItself world s
ReadOf (r.Gone gone) calls world s bytes left = BeginWithCalls calls bytes × IsClosedBy world s (plain_cause gone)
ReadOf r.NoMemory calls world s bytes left = BeginWithCalls calls bytes

-- what a reader asked, and what it says of each history that goes on with just these calls
pub record AsksSo (end : ReaderEnd) (p q : WorldPass) (s : ℕ) (bytes : List ℕ) (left : Option (List ℕ)) : Type 0 where
  pub calls : List Call
  pub asks : Asks p q s calls
  pub says : OfEach q.start q.seen (λ history world. calls_of s history ≡ calls → ReadOf end (calls_of s history) world s bytes left)

pub asks_so : (end : ReaderEnd) (p q : WorldPass) (s : ℕ) (bytes : List ℕ) (left : Option (List ℕ)) → ReadBy end p q s bytes left → LeavesClosed end q s → AsksSo end p q s bytes left
asks_so r.Closed p q s bytes left h c = record {
  calls = h.0.calls;
  asks = h.0.asks;
  says = λ history world runs begins same. (subst (λ (l : List Call). Reads l bytes None) (sym same) h.0.reads, h.1, (c.0, c.1 history world runs begins));
}
asks_so (r.Malformed flaw) p q s bytes left h c = record {
  calls = h.0.calls;
  asks = h.0.asks;
  says = λ history world runs begins same. (subst (λ (l : List Call). Reads l bytes (Some flaw)) (sym same) h.0.reads, h.1, (c.0, c.1 history world runs begins));
}
asks_so r.ReadFault p q s bytes left h c = record {
  calls = h.2.calls;
  asks = h.2.asks;
  says = λ history world runs begins same. ((h.0, h.1, subst (λ (l : List Call). Reads l bytes h.0) (sym same) h.2.reads), (c.0, c.1 history world runs begins));
}
asks_so (r.Gone gone) p q s bytes left h c = record {
  calls = h.0.calls;
  asks = h.0.asks;
  says = λ history world runs begins same. (subst (λ (l : List Call). BeginWithCalls l bytes) (sym same) h.0.begins, h.1 history world runs begins);
}
asks_so r.NoMemory p q s bytes left h c = record {
  calls = h.calls;
  asks = h.asks;
  says = λ history world runs begins same. subst (λ (l : List Call). BeginWithCalls l bytes) (sym same) h.begins;
}

-- the calls that bytes hold stand at their front
begins_from : (number place : ℕ) (calls : List Call) (bytes : List ℕ) (flaw : Option Flaw) → ReadsFrom number place calls bytes flaw → BeginWithCalls calls bytes
begins_from number place [] bytes flaw h = ([], bytes, refl, refl)
begins_from number place (call ∷ calls) bytes flaw h =
    let k = begins_from (number + 1) (place + length h.0) calls h.1 flaw h.4 in (
      h.0 ++ k.0,
      k.1,
      h.3 ∙ ap (λ (l : List ℕ). h.0 ++ l) k.2 ∙ sym (append_assoc h.0 k.0 k.1),
      (h.0, k.0, h.2, refl, k.3),
    )

-- ---- the half that writes, in one history

front_of_all : (P : List ℕ → Type 0) (before after : Option (List ℕ)) → WroteAll P before after → WroteFront P before after
front_of_all P before after h = record {
  bytes = h.bytes;
  bytes_are = h.bytes_are;
  count = length h.bytes;
  written = h.written ∙ ap (λ (l : List ℕ). append_known before l) (sym (take_all (length h.bytes) h.bytes (omega arith)));
}

closed_of_over : (world : World) (s : ℕ) (c : Cause) → IsOver world s c → IsClosedBy world s c
closed_of_over world s c h = (h.0, h.1, h.2)

-- a session is closed for one cause
over_as : (world : World) (s : ℕ) (c d : Cause) → IsOver world s c → IsClosedBy world s d → IsOver world s d
over_as world s c d h k =
    let same : h.0 ≡ k.0 = same_Some h.0 k.0 (sym h.1 ∙ k.1) in
    (k.0, k.1, k.2, ap (λ (x : Session). x.waiting) (sym same) ∙ h.3)

-- ---- both

module _ (start : Option Start) (s : ℕ) (history : List Entry) (world : World) (x : Traffic) where
  abbrev Ends : Ended → Type 0
  Ends how = ConnectionEnds how start s history world x

  abbrev AllOut : Type 0
  AllOut = WroteAll (AreBytesOf (out_of start s history)) x.sent_before x.sent_after

  abbrev Begins : Type 0
  Begins = BeginWithCalls (calls_of s history) x.read

  front_out : AllOut → SendsFront start s history x
  front_out out = front_of_all (AreBytesOf (out_of start s history)) x.sent_before x.sent_after out

  -- the writer came to its end
  by_over : (c : WorldCause) (own : Ended) → Begins → AllOut → IsOver world s (plain_cause c) → (SendsAllAndCloses start s history world x → Ends own) → Ends (end_by_cause c own)
  by_over (cause.Closed entry) own begins out over f = f (entry, (out, over))
  by_over (cause.Overflowed entry) own begins out over f = (begins, (closed_of_over world s (overflowed_at entry) over, inl (out, over)))
  by_over (cause.Quit entry) own begins out over f = (begins, (closed_of_over world s (quit_at entry) over, inl (out, over)))

  -- the writer beside a reader that came to its end
  by_writer : (writer : WriterEnd) (own : Ended) → Begins → ClosesItself world s → (SendsAllAndCloses start s history world x → Ends own)
      → WroteBy writer world s (AreBytesOf (out_of start s history)) x.sent_before x.sent_after → Ends (end_beside own writer)
  by_writer (w.Over c) own begins closed f h = by_over c own begins h.0 h.1 f
  by_writer w.WriteFault own begins closed f h = (begins, closed, h)
  by_writer w.NoMemory own begins closed f h = (begins, h)

  -- the writer beside a reader that found its session closed
  by_fault : (gone : WorldCause) → Begins → IsClosedBy world s (plain_cause gone) → SendsFront start s history x → Rose x.faults_before x.faults_after → Ends (end_by_cause gone WriteFault)
  by_fault (cause.Closed entry) begins closed front rose = (begins, (entry, closed), front)
  by_fault (cause.Overflowed entry) begins closed front rose = (begins, (closed, inr (front, rose)))
  by_fault (cause.Quit entry) begins closed front rose = (begins, (closed, inr (front, rose)))

  by_gone_over : (gone c : WorldCause) → Begins → IsClosedBy world s (plain_cause gone) → AllOut → IsOver world s (plain_cause c) → Ends (end_by_cause gone (end_by_cause c NoMemory))
  by_gone_over (cause.Closed entry) c begins closed out over = by_over c NoMemory begins out over (λ k. (begins, front_out out))
  by_gone_over (cause.Overflowed entry) c begins closed out over = (begins, (closed, inl (out, over_as world s (plain_cause c) (overflowed_at entry) over closed)))
  by_gone_over (cause.Quit entry) c begins closed out over = (begins, (closed, inl (out, over_as world s (plain_cause c) (quit_at entry) over closed)))

  by_gone : (gone : WorldCause) (writer : WriterEnd) → Begins → IsClosedBy world s (plain_cause gone) → WroteBy writer world s (AreBytesOf (out_of start s history)) x.sent_before x.sent_after
      → (writer ≡ w.WriteFault → Rose x.faults_before x.faults_after) → Ends (end_beside_gone gone writer)
  by_gone gone (w.Over c) begins closed h rose = by_gone_over gone c begins closed h.0 h.1
  by_gone gone w.WriteFault begins closed h rose = by_fault gone begins closed h (rose refl)
  by_gone gone w.NoMemory begins closed h rose = (begins, h)

  -- whatever a writer wrote is a front
  front_of_writer : (writer : WriterEnd) → WroteBy writer world s (AreBytesOf (out_of start s history)) x.sent_before x.sent_after → SendsFront start s history x
  front_of_writer (w.Over c) h = front_out h.0
  front_of_writer w.WriteFault h = h
  front_of_writer w.NoMemory h = h

  pub ends_of_halves : (reader : ReaderEnd) (writer : WriterEnd) → ReadOf reader (calls_of s history) world s x.read x.left
      → WroteBy writer world s (AreBytesOf (out_of start s history)) x.sent_before x.sent_after → (writer ≡ w.WriteFault → Rose x.faults_before x.faults_after)
      → Ends (end_of_halves reader writer)
  ends_of_halves r.Closed writer h k rose = by_writer writer Closed (begins_from 0 0 (calls_of s history) x.read None h.0) h.2 (λ out. (h.0, h.1, out)) k
  ends_of_halves (r.Malformed flaw) writer h k rose = by_writer writer (Malformed flaw) (begins_from 0 0 (calls_of s history) x.read (Some flaw) h.0) h.2 (λ out. (h.0, h.1, out)) k
  ends_of_halves r.ReadFault writer h k rose = by_writer writer ReadFault (begins_from 0 0 (calls_of s history) x.read h.0.0 h.0.2) h.1 (λ out. (h.0, out)) k
  ends_of_halves (r.Gone gone) writer h k rose = by_gone gone writer h.0 h.1 k rose
  ends_of_halves r.NoMemory writer h k rose = (h, front_of_writer writer k)
