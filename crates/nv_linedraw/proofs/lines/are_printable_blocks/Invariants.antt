use Rattle.std.proofs.Common.{◌≡◌, ◌-◌, take, true}
use Rattle.std.specs.Int.{is_in_range}
use Rattle.std.specs.List.{list_all}
use Rattle.nv_linedraw.proofs.lines.are_printable_blocks.Given as goal

abbrev pub decreases-looking : goal.decreases-looking
decreases-looking l = l.end - l.at

abbrev pub invariant-looking : goal.invariant-looking
invariant-looking l = list_all (is_in_range 0x20 0x7E) (take l.at l.bytes) ≡ true
