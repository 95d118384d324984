use Rattle.std.proofs.Common.{arith}
use Rattle.nv_buffer.specs.Splices.{IsNarrowLine}
use Rattle.nv_buffer.proofs.Between.{none_within, All-one_more}
use Rattle.nv_buffer.proofs.fitting.is_narrow.Goals as goal

pub returns-in_default : goal.returns-in_default
returns-in_default c = absurd (none_within c.args.lines.now c.loop-place.place (omega arith) c.in_default.ensures)

pub loop-place-preserved : goal.loop-place-preserved
loop-place-preserved c =
    All-one_more IsNarrowLine c.args.lines.now c.loop-place.place c.in-Some.line.now (omega arith) c.in-Some.ensures c.loop-place.invariant
    (omega (arith, c.len.ensures.value))
