-- The entries gone over have other ids.
use Rattle.std.proofs.Common.{◌≡◌, ◌++◌, drop}
use Rattle.nv_linegrid.specs.Client.{attr_of_id, first_table}
use Rattle.nv_redraw.proofs.lines.attr_of.Given as goal

abbrev pub invariant-loop-entry : goal.invariant-loop-entry
invariant-loop-entry l = attr_of_id (drop l.entry-index l.table ++ first_table) l.id ≡ attr_of_id (l.table ++ first_table) l.id
