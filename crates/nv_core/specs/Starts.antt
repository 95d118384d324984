-- Histories of a core that begins with this.
use Rattle.std.specs.Prelude.{ℕ, List, [], Option, Some, None}
use Rattle.nv_history.specs.Events.{Entry}
use Rattle.nv_history.specs.Worlds.{World}
use Rattle.nv_history.specs.Runs.{TakenBatch, run, out}
use Rattle.nv_core.specs.declared.start.Start.{Start}

-- the world after a history, and the batches that a session took in it
abbrev pub world_of_run : Option Start → List Entry → Option World
world_of_run None history = None
world_of_run (Some start) history = run start.outbox start.limits history

abbrev pub out_of : Option Start → ℕ → List Entry → List TakenBatch
out_of None s history = []
out_of (Some start) s history = out start.outbox start.limits s history
