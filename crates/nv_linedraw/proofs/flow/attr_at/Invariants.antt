use Rattle.std.proofs.Common.{◌≡◌, drop}
use Rattle.nv_linedraw.specs.LineCells.{attr_at, attr_over}
use Rattle.nv_linedraw.proofs.flow.attr_at.Given as goal

abbrev pub invariant-loop-span : goal.invariant-loop-span
invariant-loop-span l = attr_over l.attr (drop l.span-index l.spans) l.offset ≡ attr_at l.spans l.offset
