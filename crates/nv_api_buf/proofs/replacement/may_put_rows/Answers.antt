use Rattle.std.proofs.Common.{sym, ◌∙◌}
use Rattle.std.proofs.lemmas.Bool.{false≢true}
use Rattle.nv_buffer.specs.Content.{next_part}
use Rattle.nv_model.specs.Buffers.{rows_splice}
use Rattle.nv_model.specs.Standing.{seen_buffer_now}
use Rattle.nv_args.specs.Faults.{not_modifiable, limit_reached}
use Rattle.nv_api_buf.proofs.Splices.{something-rows}
use Rattle.nv_api_buf.proofs.Deciding.{refused_by, barred_locked, barred_limit}
use Rattle.nv_api_buf.proofs.replacement.may_put_rows.Goals as goal

pub returns-then-not-modifiable-clause-row : goal.returns-then-not-modifiable-clause-row
returns-then-not-modifiable-clause-row c answer =
    let text = c.args.buffer.now.text in
    let some = something-rows (next_part c.args.buffer.now) text c.args.from c.args.to c.args.lines.now c.requires.order c.requires.within
    (λ both. absurd (false≢true (sym c.if-is_nothing.false ∙ c.is_nothing.ensures.1 both))) in
    refused_by _ c.not_modifiable.result not_modifiable c.not_modifiable.ensures
    (barred_locked c.args.limits (seen_buffer_now c.args.buffer.now) (rows_splice (next_part c.args.buffer.now) text c.args.from c.args.to c.args.lines.now) answer some
    (sym c.modifiable.ensures ∙ c.if-not-modifiable.true))

pub returns-then-passes-clause-row : goal.returns-then-passes-clause-row
returns-then-passes-clause-row c answer =
    let text = c.args.buffer.now.text in
    let some = something-rows (next_part c.args.buffer.now) text c.args.from c.args.to c.args.lines.now c.requires.order c.requires.within
    (λ both. absurd (false≢true (sym c.if-is_nothing.false ∙ c.is_nothing.ensures.1 both))) in
    refused_by _ c.limit_reached.result limit_reached c.limit_reached.ensures
    (barred_limit c.args.limits (seen_buffer_now c.args.buffer.now) (rows_splice (next_part c.args.buffer.now) text c.args.from c.args.to c.args.lines.now) answer some
    (sym c.modifiable.ensures ∙ c.if-not-modifiable.false) (sym c.passes.ensures.row ∙ c.if-passes.true))
