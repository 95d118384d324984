use Rattle.std.proofs.Common.{◌≡◌, ◌≤◌, ◌-◌, true, length}
use Rattle.std.specs.List.{AllWithin}
use Rattle.nv_places.specs.Places.{further, is_before}
use Rattle.nv_marks.proofs.list.count_near.Given as goal

abbrev pub invariant-loop-near : goal.invariant-loop-near
invariant-loop-near l =
    (l.near ≤ length l.kept) × AllWithin (λ k. is_before (further l.base k.by) l.from ≡ true) l.kept 0 l.near

abbrev pub decreases-loop-near : goal.decreases-loop-near
decreases-loop-near l = length l.kept - l.near
