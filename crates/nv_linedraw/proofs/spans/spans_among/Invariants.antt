use Rattle.std.proofs.Common.{take}
use Rattle.nv_linedraw.specs.inside.Stretches.{ShowAlike}
use Rattle.nv_linedraw.proofs.spans.spans_among.Given as goal

abbrev pub invariant-loop-span : goal.invariant-loop-span
invariant-loop-span l = ShowAlike l.stretch l.among.items (take l.span-index l.spans)
