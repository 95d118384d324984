-- What the answers of the four calls stand for, as effects and stops of events.
use Rattle.std.specs.Prelude.{◌≡◌, ℕ, ⊤, Option, Some, Result, Ok, Err}
use Rattle.nv_history.specs.Events.{entry_of}
use Rattle.nv_history.specs.Sessions.{Session as ModelSession}
use Rattle.nv_core.specs.Contents.{plain_cause}
use Rattle.nv_core.specs.Sessions.{cause_of}
use Rattle.nv_rpc.specs.declared.frame.Frame.{Frame}
use Rattle.nv_core.specs.declared.calls.Taken.{Taken}
use Rattle.nv_core.specs.declared.calls.Taken.TheVariants as taken
use Rattle.nv_core.specs.declared.calls.Unopened.{Unopened}
use Rattle.nv_core.specs.declared.calls.Unopened.TheVariants as unopened
use Rattle.nv_core.specs.declared.calls.Unasked.{Unasked}
use Rattle.nv_core.specs.declared.calls.Unasked.TheVariants as unasked
use Rattle.nv_core.specs.declared.calls.Untaken.{Untaken}
use Rattle.nv_core.specs.declared.calls.Untaken.TheVariants as untaken
use Rattle.nv_core.specs.declared.calls.Unclosed.{Unclosed}
use Rattle.nv_core.specs.declared.calls.Unclosed.TheVariants as unclosed
use Rattle.nv_core.specs.declared.effect.Effect.{Effect}
use Rattle.nv_core.specs.declared.effect.Effect.TheVariants as effect
use Rattle.nv_core.specs.declared.effect.Stop.{Stop}
use Rattle.nv_core.specs.declared.effect.Stop.TheVariants as stop

-- what a take came to
abbrev pub effect_of_taken : Taken → Effect
effect_of_taken (taken.Items batch) = effect.Items batch
effect_of_taken taken.Nothing = effect.Nothing
effect_of_taken (taken.Over cause) = effect.Over cause

-- why an Open is stopped, and why a Request, a Take and a Close of this session are
abbrev pub stop_of_unopened : Unopened → Stop
stop_of_unopened unopened.NoMemory = stop.NoMemory
stop_of_unopened (unopened.Ended entry) = stop.Gone entry

abbrev pub stop_of_unasked : ℕ → Unasked → Stop
stop_of_unasked s unasked.NoMemory = stop.NoMemory
stop_of_unasked s unasked.Stranger = stop.Stranger s
stop_of_unasked s (unasked.Gone cause) = stop.Gone (entry_of (plain_cause cause))
stop_of_unasked s (unasked.Held n) = stop.Held n

abbrev pub stop_of_untaken : ℕ → Untaken → Stop
stop_of_untaken s untaken.NoMemory = stop.NoMemory
stop_of_untaken s untaken.Stranger = stop.Stranger s

abbrev pub stop_of_unclosed : ℕ → Unclosed → Stop
stop_of_unclosed s unclosed.NoMemory = stop.NoMemory
stop_of_unclosed s unclosed.Stranger = stop.Stranger s
stop_of_unclosed s (unclosed.Gone cause) = stop.Gone (entry_of (plain_cause cause))

-- what the answers of the four calls stand for
abbrev pub opened_as : Result ℕ Unopened → Result Effect Stop
opened_as (Ok s) = Ok (effect.Opened s)
opened_as (Err why) = Err (stop_of_unopened why)

abbrev pub requested_as : {A : Type 0} → ℕ → Result A (Frame × Unasked) → Result Effect Stop
requested_as s (Ok made) = Ok effect.Done
requested_as s (Err refused) = Err (stop_of_unasked s refused.1)

abbrev pub taken_as : ℕ → Result Taken Untaken → Result Effect Stop
taken_as s (Ok taken) = Ok (effect_of_taken taken)
taken_as s (Err why) = Err (stop_of_untaken s why)

abbrev pub closed_as : {A : Type 0} → ℕ → Result A Unclosed → Result Effect Stop
closed_as s (Ok made) = Ok effect.Closed
closed_as s (Err why) = Err (stop_of_unclosed s why)

-- where a session is said to be gone, this closed it
abbrev pub IsUnaskedBy : Option ModelSession → Unasked → Type 0
IsUnaskedBy found (unasked.Gone cause) = cause_of found ≡ Some (plain_cause cause)
IsUnaskedBy found _ = ⊤

abbrev pub IsUnclosedBy : Option ModelSession → Unclosed → Type 0
IsUnclosedBy found (unclosed.Gone cause) = cause_of found ≡ Some (plain_cause cause)
IsUnclosedBy found _ = ⊤
