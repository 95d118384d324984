-- What was put, with the values to come, is all.
use Rattle.std.proofs.Common.{◌≡◌, ◌++◌, map, drop}
use Rattle.nv_value.specs.View.{content}
use Rattle.nv_value.specs.Content.{integer}
use Rattle.nv_redraw.proofs.values.push_numbers.Given as goal

abbrev pub invariant-loop-number : goal.invariant-loop-number
invariant-loop-number l = map content l.items.items ++ map integer (drop l.number-index l.numbers) ≡ map content l.fn.items.items ++ map integer l.numbers
