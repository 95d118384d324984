-- The runs gone over name known ids.
use Rattle.std.proofs.Common.{◌≡◌, ◌++◌, drop}
use Rattle.nv_linegrid.specs.Client.{names_known_ids, first_table}
use Rattle.nv_redraw.proofs.lines.names_known_ids.Given as goal

abbrev pub invariant-loop-run : goal.invariant-loop-run
invariant-loop-run l = names_known_ids (l.table ++ first_table) (drop l.run-index l.runs) ≡ names_known_ids (l.table ++ first_table) l.runs
