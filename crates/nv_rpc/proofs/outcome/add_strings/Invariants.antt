-- What has been added is the strings of the lines gone over.
use Rattle.std.proofs.Common.{◌≡◌, ◌++◌, map, take}
use Rattle.nv_value.specs.Content.{text}
use Rattle.nv_value.specs.View.{content}
use Rattle.nv_rpc.proofs.outcome.add_strings.Given as goal

abbrev pub invariant-loop-line : goal.invariant-loop-line
invariant-loop-line l = map content l.strings.items ≡ map content l.initial.strings.items ++ map text (take l.line-index l.lines)
