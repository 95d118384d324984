-- inside: a call or a close that is tried until it is taken, or its session is gone.
use Rattle.std.specs.Prelude.{◌≡◌, ℕ, [], ◌∷◌, Option, Some, None, Result, Ok, Err}
use mathlib.Core.List.{IsPrefix}
use Rattle.nv_turn.specs.Story.{Has}
use Rattle.nv_turn.specs.Passes.{IsSamePass}
use Rattle.nv_rpc.specs.Calls.{Call}
use Rattle.nv_rpc.specs.Frames.{call_of_frame}
use Rattle.nv_rpc.specs.declared.frame.Frame.{Frame}
use Rattle.nv_history.specs.Events.{request_of, close_of, Cause, closed_at}
use Rattle.nv_history.specs.Asking.{own}
use Rattle.nv_core.specs.Contents.{plain_cause}
use Rattle.nv_core.specs.declared.calls.Unasked.{Unasked}
use Rattle.nv_core.specs.declared.calls.Unasked.TheVariants as unasked
use Rattle.nv_core.specs.declared.calls.Unclosed.{Unclosed}
use Rattle.nv_core.specs.declared.calls.Unclosed.TheVariants as unclosed
use Rattle.nv_core.specs.declared.effect.Effect.TheVariants as effect
use Rattle.nv_halves.specs.Passes.{WorldPass, IsClosedBy}
use Rattle.nv_core.specs.Visits.{Visit, AddsEvent, AddsNothing, InFound, DoesEvent}
use Rattle.nv_halves.specs.Applying.{AppliesOnce}
use Rattle.nv_halves.specs.Halves.{Asks, Goes}
use Rattle.nv_halves.specs.declared.insisting.Asked.{Asked}
use Rattle.nv_halves.specs.declared.insisting.Asked.TheVariants as asked

-- a pass has seen more, and has no more entries of its number
pub record Stays (p q : WorldPass) : Type 0 where
  pub same : IsSamePass p q
  pub begins : IsPrefix p.seen q.seen
  pub own_is : own p.number q.seen ≡ own p.number p.seen

-- and it may wait
pub record MayWait (p q : WorldPass) : Type 0 where
  pub stays : Stays p q
  pub number : Has q.number q.numbers

-- nothing was added, since a session is closed for this cause
abbrev pub IsGone : ℕ → Cause → Visit → Type 0
IsGone s cause v = AddsNothing v × InFound v (λ w. IsClosedBy w s cause)

-- ---- a call

-- what a call came to; or it comes back, and is to be made again
abbrev pub asked_unless : Frame → Unasked → Result Asked Frame
asked_unless call unasked.NoMemory = Ok asked.NoMemory
asked_unless call (unasked.Gone cause) = Ok (asked.Gone cause)
asked_unless call unasked.Stranger = Err call
asked_unless call (unasked.Held n) = Err call

abbrev pub what_was_asked : {A : Type 0} → Result A (Frame × Unasked) → Result Asked Frame
what_was_asked (Ok made) = Ok asked.Done
what_was_asked (Err refused) = asked_unless refused.0 refused.1

-- and what that means of a session
abbrev pub CallsWith : Result Asked Frame → ℕ → Call → Visit → Type 0
CallsWith (Ok asked.Done) s call v = DoesEvent (request_of s call) effect.Done v
CallsWith (Ok (asked.Gone cause)) s call v = IsGone s (plain_cause cause) v
CallsWith (Ok asked.NoMemory) s call v = AddsNothing v
CallsWith (Err back) s call v = AddsNothing v × (call_of_frame back ≡ call)

-- a pass made a call of a session, or the session is gone, or memory was wanting
abbrev pub AsksOnce : Asked → WorldPass → WorldPass → ℕ → Call → Type 0
AsksOnce asked.Done p q s call = Asks p q s (call ∷ [])
AsksOnce (asked.Gone cause) p q s call = Asks p q s [] × Goes q s (plain_cause cause)
AsksOnce asked.NoMemory p q s call = Asks p q s []

abbrev pub TriesCall : Result Asked Frame → WorldPass → WorldPass → ℕ → Call → Type 0
TriesCall (Ok met) p q s call = AsksOnce met p q s call
TriesCall (Err back) p q s call = MayWait p q × (call_of_frame back ≡ call)

-- ---- a close

-- what a close came to, or it is to be tried again
abbrev pub what_was_shut : {A : Type 0} → Result A Unclosed → Option Asked
what_was_shut (Ok made) = Some asked.Done
what_was_shut (Err unclosed.NoMemory) = Some asked.NoMemory
what_was_shut (Err (unclosed.Gone cause)) = Some (asked.Gone cause)
what_was_shut (Err unclosed.Stranger) = None

-- and what that means of a session
abbrev pub ClosesWith : Option Asked → ℕ → Visit → Type 0
ClosesWith (Some asked.Done) s v = DoesEvent (close_of s) effect.Closed v
ClosesWith (Some (asked.Gone cause)) s v = IsGone s (plain_cause cause) v
ClosesWith (Some asked.NoMemory) s v = AddsNothing v
ClosesWith None s v = AddsNothing v

-- a pass closed a session
abbrev pub ClosesOnce : WorldPass → WorldPass → ℕ → Type 0
ClosesOnce p q s = AppliesOnce p q (AddsEvent (close_of s))

-- a pass closed a session, or it was gone, or memory was wanting
abbrev pub Shuts : Asked → WorldPass → WorldPass → ℕ → Type 0
Shuts asked.Done p q s = ClosesOnce p q s × ((entry : ℕ) × Goes q s (closed_at entry))
Shuts (asked.Gone cause) p q s = Stays p q × Goes q s (plain_cause cause)
Shuts asked.NoMemory p q s = Stays p q

abbrev pub TriesClose : Option Asked → WorldPass → WorldPass → ℕ → Type 0
TriesClose (Some met) p q s = Shuts met p q s
TriesClose None p q s = MayWait p q
