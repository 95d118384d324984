use Rattle.nv_linedraw.proofs.SpanLemmas.{alike_without}
use Rattle.nv_linedraw.proofs.spans.push_among.Goals as goal

pub returns-then-misses_stretch : goal.returns-then-misses_stretch
returns-then-misses_stretch c =
    alike_without c.args.stretch c.args.spans.now.items c.args.span.now (c.misses_stretch.ensures c.if-misses_stretch.true)
