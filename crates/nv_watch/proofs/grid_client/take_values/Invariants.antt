-- What was taken of the values so far.
use Rattle.std.proofs.Common.{map, take}
use Rattle.nv_value.specs.View.{content}
use Rattle.nv_watch.specs.inside.GridsTaken.{TookValues}
use Rattle.nv_watch.proofs.grid_client.take_values.Given as goal

abbrev pub invariant-loop-value : goal.invariant-loop-value
invariant-loop-value l = TookValues (map content (take l.value-index l.values)) l.initial.client l.client l.taken
