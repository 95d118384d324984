-- What the answers of a core in hand mean to a session.
use Rattle.std.proofs.Common.{◌≡◌, ℕ, List, Option, Some, None, Result, Ok, Err, refl, ap, sym, ◌∙◌, inl}
use Rattle.std.proofs.lemmas.Option.{none-some, same_Some}
use Rattle.nv_rpc.specs.Frames.{call_of_frame}
use Rattle.nv_rpc.specs.declared.frame.Frame.{Frame}
use Rattle.nv_history.specs.Events.{open_session, request_of, Cause, Stop, gone_by}
use Rattle.nv_history.specs.Sessions.{Session}
use Rattle.nv_history.specs.Worlds.{World, refuses, session_of, step, opening_outcome}
use Rattle.nv_core.specs.Contents.{plain_cause}
use Rattle.nv_core.specs.Sessions.{cause_of}
use Rattle.nv_core.specs.Outcomes.{IsUnaskedBy, stop_of_unasked}
use Rattle.nv_core.specs.Visits.{Visit, AddsNothing, IfFound, RefusesEvent, OpensAs, CallsAs, TakesAs, ClosesAs}
use Rattle.nv_core.specs.Gains.{GainsIn, visit_of}
use Rattle.nv_core.specs.declared.calls.Taken.{Taken}
use Rattle.nv_core.specs.declared.calls.Unopened.{Unopened}
use Rattle.nv_core.specs.declared.calls.Unopened.TheVariants as unopened
use Rattle.nv_core.specs.declared.calls.Unasked.{Unasked}
use Rattle.nv_core.specs.declared.calls.Unasked.TheVariants as unasked
use Rattle.nv_core.specs.declared.calls.Untaken.{Untaken}
use Rattle.nv_core.specs.declared.calls.Untaken.TheVariants as untaken
use Rattle.nv_core.specs.declared.calls.Unclosed.{Unclosed}
use Rattle.nv_core.specs.declared.calls.Unclosed.TheVariants as unclosed
use Rattle.nv_core.specs.declared.entry.Entry.{Entry as WorldEntry}
use Rattle.nv_core.specs.declared.start.Start.{Start}
use Rattle.nv_halves.specs.Passes.{IsClosedBy}
use Rattle.nv_halves.specs.Applying.{OpensWith}
use Rattle.nv_halves.specs.inside.Insisting.{CallsWith, ClosesWith, asked_unless, what_was_asked, what_was_shut}
use Rattle.nv_halves.specs.inside.Taking.{TakesWith}

-- a session that is closed by the cause that is told
closed_for : (w : World) (s : ℕ) (cause : Cause) → cause_of (session_of w s) ≡ Some cause → IsClosedBy w s cause
closed_for w s cause h = by_session (session_of w s) refl h
  where
    by_session : (o : Option Session) → session_of w s ≡ o → cause_of o ≡ Some cause → IsClosedBy w s cause
    by_session None is k = absurd (none-some cause k)
    by_session (Some x) is k = (x, is, k)

-- an opening that is gone
open_gone : (w : World) (entry : ℕ) → step w open_session ≡ refuses (gone_by entry) → w.ended ≡ Some entry
open_gone w entry h = by_end w.ended refl h
  where
    by_end : (o : Option ℕ) → w.ended ≡ o → opening_outcome o w ≡ refuses (gone_by entry) → w.ended ≡ Some entry
    by_end None is k = cc
    by_end (Some e) is k = let same : e ≡ entry = cc in is ∙ ap (λ (n : ℕ). Some n) same

-- ---- each of the four calls

pub opens_with : (met : Result ℕ Unopened) (v : Visit) → OpensAs met v → OpensWith met v
opens_with (Ok s) v h = h
opens_with (Err unopened.NoMemory) v h = h
opens_with (Err (unopened.Ended entry)) v h =
    let told = h.1.2 in
    let why : told.0 ≡ gone_by entry = sym (same_Some (gone_by entry) told.0 told.1) in
    (h.0, (h.1.0, h.1.1, open_gone h.1.0 entry (told.2 ∙ ap (λ (x : Stop). refuses x) why)))

-- a call that wasn't made
unmade_with : (s : ℕ) (frame back : Frame) (why : Unasked) (v : Visit) → back ≡ frame → RefusesEvent (request_of s (call_of_frame frame)) (stop_of_unasked s why) v
    → IfFound v (λ w. IsUnaskedBy (session_of w s) why) → CallsWith (asked_unless back why) s (call_of_frame frame) v
unmade_with s frame back unasked.NoMemory v same h gone = h
unmade_with s frame back (unasked.Gone cause) v same h gone = (h.0, (h.1.0, h.1.1, closed_for h.1.0 s (plain_cause cause) (gone h.1.0 h.1.1)))
unmade_with s frame back unasked.Stranger v same h gone = (h.0, ap call_of_frame same)
unmade_with s frame back (unasked.Held n) v same h gone = (h.0, ap call_of_frame same)

pub calls_with : {A : Type 0} (met : Result A (Frame × Unasked)) (s : ℕ) (frame : Frame) (v : Visit) → CallsAs met s frame v → CallsWith (what_was_asked met) s (call_of_frame frame) v
calls_with (Ok made) s frame v h = h.comes
calls_with (Err refused) s frame v h = unmade_with s frame refused.0 refused.1 v h.back h.comes h.gone

pub takes_with : (met : Result Taken Untaken) (s : ℕ) (v : Visit) → TakesAs met s v → TakesWith met s v
takes_with (Ok taken) s v h = (h.comes, h.sendable)
takes_with (Err untaken.NoMemory) s v h = h.comes
takes_with (Err untaken.Stranger) s v h = h.comes.0

pub closes_with : {A : Type 0} (met : Result A Unclosed) (s : ℕ) (v : Visit) → ClosesAs met s v → ClosesWith (what_was_shut met) s v
closes_with (Ok made) s v h = h.comes
closes_with (Err unclosed.NoMemory) s v h = h.comes
closes_with (Err (unclosed.Gone cause)) s v h = (h.comes.0, (h.comes.1.0, h.comes.1.1, closed_for h.comes.1.0 s (plain_cause cause) (h.gone h.comes.1.0 h.comes.1.1)))
closes_with (Err unclosed.Stranger) s v h = h.comes.0

-- ---- what a core gains

-- a core in which nothing was tried
pub untried_in : {S : Type 0} (stands : S → List WorldEntry → Type 0) (start : S → Start) (k : S) (number : ℕ) (C : Visit → Type 0) → ((v : Visit) → AddsNothing v → C v)
    → GainsIn stands start k k number C
untried_in stands start k number C f = record {
  begins = refl;
  after = λ found h. record { later = found; adds = inl refl; stands_new = h; comes = f (visit_of (start k) number found found) refl };
}
