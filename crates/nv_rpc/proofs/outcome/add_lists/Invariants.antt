-- What has been added, and what is left, is all of it.
use Rattle.std.proofs.Common.{◌≡◌, ◌++◌, map, drop}
use Rattle.nv_value.specs.Content.{text}
use Rattle.nv_value.specs.View.{content}
use Rattle.nv_lines.specs.Excerpts.{list_lines}
use Rattle.nv_rpc.proofs.outcome.add_lists.Given as goal

abbrev pub invariant-loop-list : goal.invariant-loop-list
invariant-loop-list l =
    map content l.strings.items ++ map text (list_lines (drop l.list-index l.lists)) ≡ map content l.initial.strings.items ++ map text (list_lines l.lists)
