-- The events so far, with those of the values to come, are all of them.
use Rattle.std.proofs.Common.{◌≡◌, ◌++◌, drop}
use Rattle.nv_value.specs.View.{contents}
use Rattle.nv_redraw.specs.inside.Candidates.{candidates_of_entries}
use Rattle.nv_redraw.proofs.reading.candidates.Given as goal

abbrev pub invariant-loop-entry : goal.invariant-loop-entry
invariant-loop-entry l =
    l.events.items ++ candidates_of_entries (contents (drop l.entry-index l.entry-items)) ≡ candidates_of_entries (contents l.entry-items)
