-- What events make of a machine, which is a world without its history.
use Rattle.std.specs.Prelude.{◌≡◌, ℕ, Bool, true, false, List, [], Result, Ok, Err}
use Rattle.nv_model.specs.Standing.{seen_now}
use Rattle.nv_model.specs.declared.parts.Limits.{Limits}
use Rattle.nv_scene.specs.Settling.{IsSettled}
use Rattle.nv_history.specs.Events.{Event}
use Rattle.nv_history.specs.Worlds.{World, fresh_world, step}
use Rattle.nv_core.specs.Gains.{is_want}
use Rattle.nv_core.specs.declared.effect.Effect.{Effect}
use Rattle.nv_core.specs.declared.effect.Effect.TheVariants as effect
use Rattle.nv_core.specs.declared.effect.Stop.{Stop}
use Rattle.nv_world.specs.Steps.{splices_of_event}
use Rattle.nv_world.specs.declared.machine.Machine.{Machine}
use Rattle.nv_world.specs.declared.state.Numbers.{Numbers}
use Rattle.nv_world.specs.declared.step.Moved.{Moved}
use Rattle.nv_world.specs.inside.States.{Changes, IsAt, StandsForWorld}

-- a machine with these numbers beside it stands for a world, between entries of a history
abbrev pub IsMachineAt : Machine → Numbers → World → Type 0
IsMachineAt m n w = IsAt m.state n w

-- a machine stands for a world, also within an entry
abbrev pub StandsAs : Machine → World → Type 0
StandsAs m w = StandsForWorld m.state w

-- no memory was wanting
abbrev pub IsUnspent : Machine → Type 0
IsUnspent m = m.spent ≡ false

-- the splices of the last entry
abbrev pub splices_kept : Machine → List Moved
splices_kept m = m.last.items

-- a machine that was just made
pub record IsNewMachine (m : Machine) (limits : Limits) : Type 0 where
  pub stands : (capacity : ℕ) → StandsAs m (fresh_world capacity limits)
  pub settled : IsSettled (seen_now m.state.editor)
  pub last : splices_kept m ≡ []
  pub spent : IsUnspent m

-- whether an event that came to this entered the history
abbrev pub is_entering : Result Effect Stop → Bool
is_entering (Ok (effect.Opened s)) = true
is_entering (Ok effect.Done) = true
is_entering (Ok (effect.Items batch)) = true
is_entering (Ok effect.Closed) = true
is_entering (Ok effect.Nothing) = false
is_entering (Ok (effect.Over cause)) = false
is_entering (Err stop) = false

-- an event came to this in each world that the machine stood for. Where it entered its splices are
-- kept, and else those of the entry before; want of memory spends the machine.
pub record StepsMachine (old new : Machine) (n : Numbers) (result : Result Effect Stop)
    (event : Event) : Type 0 where
  pub steps : (w : World) → IsMachineAt old n w
      → Changes old.state new.state n result (step w event)
  pub made : is_entering result ≡ true → (w : World) → IsMachineAt old n w
      → splices_kept new ≡ splices_of_event w event
  pub kept : is_entering result ≡ false → splices_kept new ≡ splices_kept old
  pub spent : new.spent ≡ is_want result
