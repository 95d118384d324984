-- What was put, with the values to come, is all.
use Rattle.std.proofs.Common.{◌≡◌, ◌++◌, map, drop}
use Rattle.nv_value.specs.View.{content}
use Rattle.nv_redraw.specs.Values.{run_tree}
use Rattle.nv_redraw.proofs.values.push_runs.Given as goal

abbrev pub invariant-loop-run : goal.invariant-loop-run
invariant-loop-run l = map content l.items.items ++ map run_tree (drop l.run-index l.runs) ≡ map content l.fn.items.items ++ map run_tree l.runs
