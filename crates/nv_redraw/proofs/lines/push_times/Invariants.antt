use Rattle.std.proofs.Common.{◌≡◌, ◌++◌, replicate}
use Rattle.nv_linegrid.specs.Client.{shown_of}
use Rattle.nv_redraw.proofs.lines.push_times.Given as goal

abbrev pub invariant-loop : goal.invariant-loop
invariant-loop l = l.cells.items ≡ l.fn.cells.items ++ replicate l.counter (shown_of l.text l.id)
