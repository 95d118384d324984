-- The runs so far, with those of the values to come, are all of them.
use Rattle.std.proofs.Common.{◌≡◌, ◌++◌, drop}
use Rattle.nv_value.specs.View.{contents}
use Rattle.nv_redraw.specs.inside.Candidates.{runs_in}
use Rattle.nv_redraw.proofs.reading.runs_of.Given as goal

abbrev pub invariant-loop-item : goal.invariant-loop-item
invariant-loop-item l = l.runs.items ++ runs_in (contents (drop l.item-index l.items)) ≡ runs_in (contents l.items)
