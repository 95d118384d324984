use Rattle.std.proofs.Common.{◌+◌, take, arith}
use Rattle.std.proofs.lemmas.List.{take_more}
use Rattle.nv_linedraw.proofs.SpanLemmas.{alike_more}
use Rattle.nv_linedraw.proofs.spans.spans_among.Goals as goal

pub loop-span-preserved : goal.loop-span-preserved
loop-span-preserved c =
    let ss = c.args.spans.now in
    let k = c.loop-span.span-index in
    alike_more c.starts_of-stretch.result c.push_among.new.spans.items c.loop-span.among.items (take k ss) (take (k + 1) ss) _
    c.loop-span.invariant c.in_ok-push_among.ensures (take_more ss k _ (omega (arith, c.loop-span-test.true)))
