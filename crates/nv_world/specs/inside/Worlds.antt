-- inside: what a world is at every moment.
use Rattle.std.specs.Prelude.{◌≡◌, ℕ, ◌-◌, ◌≤◌, Bool, false, List, length, Some, IsSome}
use Rattle.nv_model.specs.declared.parts.Limits.{Limits}
use Rattle.nv_history.specs.Worlds.{World}
use Rattle.nv_history.specs.Runs.{run}
use Rattle.nv_core.specs.Contents.{plain_entries}
use Rattle.nv_world.specs.Steps.{AreLastSplices}
use Rattle.nv_core.specs.declared.entry.Entry.{Entry}
use Rattle.nv_world.specs.declared.state.State.{State}
use Rattle.nv_world.specs.declared.state.Numbers.{Numbers}
use Rattle.nv_world.specs.declared.step.Moved.{Moved}
use Rattle.nv_world.specs.declared.world.World.TheInside.{Inside}
use Rattle.nv_world.specs.inside.States.{StandsNumbered, count_live}

-- the numbers of the entry behind these
abbrev pub numbers_behind : ℕ → Limits → List Entry → Numbers
numbers_behind capacity limits entries = record {
  capacity = capacity;
  last = limits.entries - 1;
  at = length entries;
}

-- `run` of the history is defined, and the state stands for its world unless memory was wanting;
-- then there is room for the close of each session that isn't closed. The splices that are kept are
-- those of the last entry.
pub record Holds (capacity : ℕ) (limits : Limits) (history : List Entry) (room : ℕ)
    (state : State) (splices : List Moved) (spent : Bool) : Type 0 where
  pub entries : 1 ≤ limits.entries
  pub runs : IsSome (run capacity limits (plain_entries history))
  pub stands : (w : World) → spent ≡ false
      → run capacity limits (plain_entries history) ≡ Some w
      → StandsNumbered state (numbers_behind capacity limits history) w
  pub closes : (w : World) → spent ≡ false
      → run capacity limits (plain_entries history) ≡ Some w → count_live w.sessions ≤ room
  pub last : AreLastSplices capacity limits history splices

-- nothing was taken out of the history of a world
pub record IsWorld (i : Inside) : Type 0 where
  pub base : i.history.base ≡ 0
  pub holds : Holds i.capacity i.limits i.history.entries i.history.room i.machine.state
      i.machine.last.items i.machine.spent
