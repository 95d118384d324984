use Rattle.std.proofs.Common.{ℕ, List, length, ap, ◌∙◌, arith}
use Rattle.nv_buffer.specs.Content.{next_part}
use Rattle.nv_model.specs.Buffers.{rows_splice}
use Rattle.nv_model.specs.Standing.{seen_buffer_now}
use Rattle.nv_api_buf.proofs.Splices.{rows_put}
use Rattle.nv_api_buf.proofs.Passing.{passes-is}
use Rattle.nv_api_buf.proofs.replacement.passes.Goals as goal

pub returns-clause-row : goal.returns-clause-row
returns-clause-row c =
    let text = c.args.buffer.now.text in
    let puts = rows_put (next_part c.args.buffer.now) text c.args.lines.now c.args.from c.args.to c.requires.order c.requires.within c.known.ensures.text.lines c.len-many.ensures.lines in
    c.any_of.ensures
    ∙ passes-is c.args.limits (seen_buffer_now c.args.buffer.now) (rows_splice (next_part c.args.buffer.now) text c.args.from c.args.to c.args.lines.now) c.args.from c.args.to
    _ c.len-many.result c.args.lines.now c.too_many.result c.any_too_long.result c.tick_passes.result puts
    (omega (arith, c.count.ensures.value, ap (length {A = List ℕ}) c.text.ensures.value)) c.len-many.ensures.value c.too_many.ensures c.any_too_long.ensures c.tick_passes.ensures.passes
