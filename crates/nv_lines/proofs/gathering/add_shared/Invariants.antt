use Rattle.std.proofs.Common.{◌≡◌, ◌++◌, take}
use Rattle.nv_lines.proofs.gathering.add_shared.Given as goal

abbrev pub invariant-loop-line : goal.invariant-loop-line
invariant-loop-line l = l.list.items ≡ l.initial.list.items ++ take l.line-index l.lines
