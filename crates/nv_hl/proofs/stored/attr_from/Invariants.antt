use Rattle.std.proofs.Common.{◌≡◌, ◌-◌}
use Rattle.nv_hl.specs.Groups.{attr_along, attr_of}
use Rattle.nv_hl.proofs.stored.attr_from.Given as goal

abbrev pub invariant-loop-followed : goal.invariant-loop-followed
invariant-loop-followed l =
    attr_along (64 - l.followed) l.entries.items l.group ≡ attr_of l.entries.items l.fn.id
