-- Of all parts the groups of a front are wanted.
use Rattle.std.proofs.Common.{◌≡◌, ◌++◌, map}
use Rattle.nv_value.specs.View.{content}
use Rattle.nv_api_mark.specs.Groups.{groups_of_names}
use Rattle.nv_api_mark.specs.inside.Marking.{names_among}
use Rattle.nv_api_mark.proofs.Wanted.{names_from}
use Rattle.nv_api_mark.proofs.setting.want_groups.Given as goal

abbrev pub invariant-loop-item : goal.invariant-loop-item
invariant-loop-item l =
    groups_of_names (l.groups ++ l.wanted) (names_from l.items l.item-index)
    ≡ groups_of_names (l.groups ++ l.fn.wanted) (names_among (map content l.items))
