use Rattle.std.proofs.Common.{ap, ◌∙◌, sym, arith}
use Rattle.nv_buffer.specs.Splices.{with_front, with_back}
use Rattle.nv_buffer.proofs.Between.{none_within}
use Rattle.nv_api_buf.specs.inside.Parts.{is_longer}
use Rattle.nv_api_buf.proofs.Long.{long-more, long-found, long-none, joined-is, joined-within, joined-end}
use Rattle.nv_api_buf.proofs.joining.any_too_long.Goals as goal

pub returns-in_default : goal.returns-in_default
returns-in_default c = absurd (none_within c.args.lines.now c.loop-place.place (omega (arith, c.len-count.ensures.value)) c.in_default.ensures)

pub returns-then-is_too_long : goal.returns-then-is_too_long
returns-then-is_too_long c =
    let all = with_back (with_front c.args.front.now c.args.lines.now) c.args.back.now in
    let here = joined-is c.args.front.now c.args.back.now c.args.lines.now c.loop-place.place c.len-count.result c.in-Some.line.now c.len-count.ensures.value (omega arith) c.in-Some.ensures in
    long-found c.args.most all c.loop-place.place
    (joined-within c.args.front.now c.args.back.now c.args.lines.now c.loop-place.place c.len-count.result c.len-count.ensures.value (omega arith))
    (ap (is_longer c.args.most) here ∙ sym c.is_too_long.ensures ∙ c.if-is_too_long.true)

pub loop-place-preserved : goal.loop-place-preserved
loop-place-preserved c =
    let all = with_back (with_front c.args.front.now c.args.lines.now) c.args.back.now in
    let here = joined-is c.args.front.now c.args.back.now c.args.lines.now c.loop-place.place c.len-count.result c.in-Some.line.now c.len-count.ensures.value (omega arith) c.in-Some.ensures in
    long-more c.args.most all c.loop-place.place
    (joined-within c.args.front.now c.args.back.now c.args.lines.now c.loop-place.place c.len-count.result c.len-count.ensures.value (omega arith))
    c.loop-place.invariant
    (ap (is_longer c.args.most) here ∙ sym c.is_too_long.ensures ∙ c.if-is_too_long.false)

pub returns : goal.returns
returns c =
    let all = with_back (with_front c.args.front.now c.args.lines.now) c.args.back.now in
    long-none c.args.most all c.loop-place.place
    (joined-end c.args.front.now c.args.back.now c.args.lines.now c.loop-place.place c.len-count.result c.len-count.ensures.value c.requires.some (omega arith))
    c.loop-place.invariant
