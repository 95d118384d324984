use Rattle.std.proofs.Common.{sym, arith}
use Rattle.nv_painter.specs.inside.SameKeys.{fewer_spans, more_spans}
use Rattle.nv_painter.proofs.key.are_same_spans.Goals as goal

pub returns-then-a-b : goal.returns-then-a-b
returns-then-a-b c = sym (fewer_spans c.args.a.now c.args.b.now (omega (arith, c.if-a-b.true)))

pub returns-then-b-a : goal.returns-then-b-a
returns-then-b-a c = sym (more_spans c.args.a.now c.args.b.now (omega (arith, c.if-b-a.true)))
