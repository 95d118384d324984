-- What has been copied so far has the content of the lines gone over.
use Rattle.std.proofs.Common.{◌≡◌, map, take}
use Rattle.nv_value.specs.View.{content}
use Rattle.nv_rpc.proofs.sending.copy_of_lines.Given as goal

abbrev pub invariant-loop-line : goal.invariant-loop-line
invariant-loop-line l = map content l.copies.items ≡ map content (take l.line-index l.line-items)
