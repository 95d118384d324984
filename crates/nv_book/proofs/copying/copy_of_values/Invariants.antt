use Rattle.std.proofs.Common.{◌≡◌, map, take}
use Rattle.nv_value.specs.View.{content}
use Rattle.nv_book.proofs.copying.copy_of_values.Given as goal

abbrev pub invariant-loop-value : goal.invariant-loop-value
invariant-loop-value l = map content l.copies.items ≡ map content (take l.value-index l.value-items)
