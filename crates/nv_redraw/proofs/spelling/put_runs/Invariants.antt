-- What was written, with the values to come, is all.
use Rattle.std.proofs.Common.{◌≡◌, ◌++◌, map, drop}
use Rattle.nv_value.specs.Content.{trees_of}
use Rattle.nv_msgpack.specs.Shortest.{all_shortest, BeginsAs}
use Rattle.nv_redraw.specs.Values.{run_tree}
use Rattle.nv_redraw.proofs.spelling.put_runs.Given as goal

abbrev pub invariant-loop-run : goal.invariant-loop-run
invariant-loop-run l = record {
  kept : BeginsAs l.fn.into.items l.into.items;
  all : l.into.items ++ all_shortest (trees_of (map run_tree (drop l.run-index l.runs)))
      ≡ l.fn.into.items ++ all_shortest (trees_of (map run_tree l.runs));
}
