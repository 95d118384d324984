-- The lines so far with those that are to come are the lines of all values.
use Rattle.std.proofs.Common.{◌≡◌, ◌++◌, drop, option_map}
use Rattle.nv_value.specs.View.{contents}
use Rattle.nv_subs.specs.Mirrors.{event_lines}
use Rattle.nv_subs.proofs.received.lines_of.Given as goal

abbrev pub invariant-loop-value : goal.invariant-loop-value
invariant-loop-value l =
    option_map (λ more. l.lines.items ++ more) (event_lines (contents (drop l.value-index l.value-items)))
    ≡ event_lines (contents l.items.items)
