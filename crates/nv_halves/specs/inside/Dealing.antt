-- inside: the passes of a turn to the world, as they were made.
use Rattle.std.specs.Prelude.{◌≡◌, ℕ, List, Option}
use Rattle.nv_turn.specs.Passes.{TurnId, PassState, first_passes}
use Rattle.nv_core.specs.declared.entry.Entry.{Entry as WorldEntry}
use Rattle.nv_core.specs.declared.start.Start.{Start}

-- these are so many passes, with the numbers from 1 on, that have seen nothing
pub record ArePasses (turn : TurnId) (count : ℕ) (passes : List (PassState WorldEntry Start))
    (len : ℕ) : Type 0 where
  pub start : Option Start
  pub passes_are : passes ≡ first_passes turn start count
  pub len_is : len ≡ count
