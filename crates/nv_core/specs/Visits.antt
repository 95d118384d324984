-- What one event that somebody brings to a core comes to, in plain data (own rule).
use Rattle.std.specs.Prelude.{◌≡◌, ℕ, List, [], ◌∷◌, ◌++◌, Option, Some, Result, Ok, Err, IfOk, IfErr}
use Rattle.nv_rpc.specs.Frames.{call_of_frame}
use Rattle.nv_rpc.specs.declared.frame.Frame.{Frame}
use Rattle.nv_history.specs.Events.{Event, open_session, request_of, take_of, close_of, Entry, Stop as PlainStop}
use Rattle.nv_history.specs.Worlds.{World, Outcome, refuses, idles, becomes, session_of, step}
use Rattle.nv_core.specs.Bounds.{GivesSendable, GivesFewCells}
use Rattle.nv_core.specs.Contents.{IsEffect, plain_stop}
use Rattle.nv_core.specs.Outcomes.{IsUnaskedBy, IsUnclosedBy, requested_as, closed_as, effect_of_taken, opened_as, taken_as}
use Rattle.nv_core.specs.Starts.{world_of_run}
use Rattle.nv_core.specs.declared.calls.Taken.{Taken}
use Rattle.nv_core.specs.declared.calls.Unopened.{Unopened}
use Rattle.nv_core.specs.declared.calls.Unasked.{Unasked}
use Rattle.nv_core.specs.declared.calls.Untaken.{Untaken}
use Rattle.nv_core.specs.declared.calls.Unclosed.{Unclosed}
use Rattle.nv_core.specs.declared.effect.Effect.{Effect}
use Rattle.nv_core.specs.declared.effect.Stop.{Stop}
use Rattle.nv_core.specs.declared.effect.Stop.TheVariants.{NoMemory, Stranger, Gone, Held}
use Rattle.nv_core.specs.declared.start.Start.{Start}

-- Somebody who came in once: what the world begins with, the number of who came, the history that
-- was found, and the one after it.
pub record Visit : Type 0 where
  pub start : Option Start
  pub number : ℕ
  pub found : List Entry
  pub after : List Entry

-- the entry of an event by it
abbrev pub entry_of_visit : Visit → Event → Entry
entry_of_visit v event = record { caller = v.number; event = event }

-- the history after it is the one that was found; or has an entry of this event behind that
abbrev pub AddsNothing : Visit → Type 0
AddsNothing v = v.after ≡ v.found

abbrev pub AddsEvent : Event → Visit → Type 0
AddsEvent event v = v.after ≡ v.found ++ entry_of_visit v event ∷ []

-- there is a world after the history that was found, and this is so of it; or it is where there is
-- one
abbrev pub InFound : Visit → (World → Type 0) → Type 0
InFound v P = (w : World) × (world_of_run v.start v.found ≡ Some w) × P w

abbrev pub IfFound : Visit → (World → Type 0) → Type 0
IfFound v P = (w : World) → world_of_run v.start v.found ≡ Some w → P w

-- an effect is what an event came to, whose entry was added where it enters
abbrev pub HasEffect : Event → Effect → Visit → Outcome → Type 0
HasEffect event effect v (becomes w wanted) = IsEffect effect wanted × AddsEvent event v
HasEffect event effect v (idles wanted) = IsEffect effect wanted × AddsNothing v
HasEffect event effect v (refuses stop) = ⊥

-- an event did this
abbrev pub DoesEvent : Event → Effect → Visit → Type 0
DoesEvent event effect v = InFound v (λ w. HasEffect event effect v (step w event))

-- an event is refused for what is told
abbrev pub IsRefusedFor : Stop → Outcome → Type 0
IsRefusedFor stop outcome =
    (told : PlainStop) × (plain_stop stop ≡ Some told) × (outcome ≡ refuses told)

-- an event was refused, and nothing was added; want of memory may come in place of any outcome
abbrev pub RefusesEvent : Event → Stop → Visit → Type 0
RefusesEvent event NoMemory v = AddsNothing v
RefusesEvent event (Stranger s) v =
    AddsNothing v × InFound v (λ w. IsRefusedFor (Stranger s) (step w event))
RefusesEvent event (Gone entry) v =
    AddsNothing v × InFound v (λ w. IsRefusedFor (Gone entry) (step w event))
RefusesEvent event (Held n) v =
    AddsNothing v × InFound v (λ w. IsRefusedFor (Held n) (step w event))

-- what an event came to
abbrev pub ComesOf : Event → Result Effect Stop → Visit → Type 0
ComesOf event (Ok effect) v = DoesEvent event effect v
ComesOf event (Err stop) v = RefusesEvent event stop v

-- what each of the four calls came to: the opening of a session; a call, which comes back where it
-- isn't made; a take, whose messages can be spelled; and a close. Where a session is gone, what is
-- told is what closed it.
abbrev pub OpensAs : Result ℕ Unopened → Visit → Type 0
OpensAs result v = ComesOf open_session (opened_as result) v

pub record CallsAs {A : Type 0} (result : Result A (Frame × Unasked)) (s : ℕ) (frame : Frame)
    (v : Visit) : Type 0 where
  pub comes : ComesOf (request_of s (call_of_frame frame)) (requested_as s result) v
  pub back : IfErr result (λ refused. refused.0 ≡ frame)
  pub gone : IfErr result (λ refused. IfFound v (λ w. IsUnaskedBy (session_of w s) refused.1))

pub record TakesAs (result : Result Taken Untaken) (s : ℕ) (v : Visit) : Type 0 where
  pub comes : ComesOf (take_of s) (taken_as s result) v
  pub sendable : IfOk result (λ taken. GivesSendable (effect_of_taken taken))
  pub cells : IfOk result (λ taken. GivesFewCells (effect_of_taken taken))

pub record ClosesAs {A : Type 0} (result : Result A Unclosed) (s : ℕ) (v : Visit) : Type 0 where
  pub comes : ComesOf (close_of s) (closed_as s result) v
  pub gone : IfErr result (λ why. IfFound v (λ w. IsUnclosedBy (session_of w s) why))
