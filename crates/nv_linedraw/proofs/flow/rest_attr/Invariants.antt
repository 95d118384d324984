use Rattle.std.proofs.Common.{◌≡◌, drop}
use Rattle.nv_linedraw.specs.LineCells.{rest_attr, rest_over}
use Rattle.nv_linedraw.proofs.flow.rest_attr.Given as goal

abbrev pub invariant-loop-span : goal.invariant-loop-span
invariant-loop-span l = rest_over l.low (drop l.span-index l.spans) l.len ≡ rest_attr l.spans l.len
