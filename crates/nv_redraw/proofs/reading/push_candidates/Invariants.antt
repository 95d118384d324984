-- The events so far, with those of the values to come, are all of them.
use Rattle.std.proofs.Common.{◌≡◌, ◌++◌, drop}
use Rattle.nv_value.specs.View.{contents}
use Rattle.nv_redraw.specs.inside.Candidates.{candidates_named}
use Rattle.nv_redraw.proofs.reading.push_candidates.Given as goal

abbrev pub invariant-loop-call : goal.invariant-loop-call
invariant-loop-call l =
    l.events.items ++ candidates_named l.name (contents (drop l.call-index l.call-items)) ≡ l.fn.events.items ++ candidates_named l.name (contents l.call-items)
