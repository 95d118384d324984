use Rattle.std.proofs.Common.{◌≡◌, ◌≤◌, ◌-◌, true, length}
use Rattle.std.specs.List.{AllWithin}
use Rattle.nv_places.specs.Places.{further, is_before}
use Rattle.nv_marks.proofs.list.count_to.Given as goal

abbrev pub invariant-loop-count : goal.invariant-loop-count
invariant-loop-count l =
    (l.count ≤ length l.kept) × AllWithin (λ k. is_before (further l.base k.by) l.from ≡ true) l.kept 0 l.count

abbrev pub decreases-loop-count : goal.decreases-loop-count
decreases-loop-count l = length l.kept - l.count
