-- What has been put so far, and what is left, is all of it.
use Rattle.std.proofs.Common.{◌≡◌, ◌++◌, drop}
use Rattle.nv_value.specs.Content.{text}
use Rattle.nv_lines.specs.Excerpts.{list_lines}
use Rattle.nv_rpc.proofs.Puts.{all_spelled}
use Rattle.nv_rpc.proofs.outcome.put_lists.Given as goal

abbrev pub invariant-loop-list : goal.invariant-loop-list
invariant-loop-list l = l.into.items ++ all_spelled text (list_lines (drop l.list-index l.lists)) ≡ l.initial.into.items ++ all_spelled text (list_lines l.lists)
