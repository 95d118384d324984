-- Where the runs that are left are so, all are.
use Rattle.std.proofs.Common.{drop}
use Rattle.std.specs.List.{AllByRecursion}
use Rattle.nv_redraw.specs.Reading.{IsTypedRun}
use Rattle.nv_watch.proofs.grid_client.known_runs.Given as goal

abbrev pub invariant-loop-run : goal.invariant-loop-run
invariant-loop-run l = AllByRecursion IsTypedRun (drop l.run-index l.runs) → AllByRecursion IsTypedRun l.runs
