use Rattle.std.proofs.Common.{◌∙◌, ◌++◌, ap, arith, length, slice_range}
use Rattle.nv_lines.proofs.Parts.{rows_gathered}
use Rattle.nv_lines.proofs.gathering.add_rows.Goals as goal

pub loop-chunk-preserved : goal.loop-chunk-preserved
loop-chunk-preserved c =
    let at = c.loop-chunk in
    let lines = c.as_slice-lines.ensures.value in
    rows_gathered c.args.chunks.now at.chunk-index c.chunk-item.result at.start at.end c.saturating_sub-start.result c.saturating_sub-end.result
    at.list.items c.add_shared.new.list.items _ at.invariant (omega arith) c.chunk-item.is
    (c.in_ok-add_shared.ensures ∙ ap (λ l. at.list.items ++ l) (c.rows_within.ensures ∙ ap (λ l. slice_range l at.start at.end) lines))
    (omega (arith, c.saturating_sub-start.ensures, ap length lines)) (omega (arith, c.saturating_sub-end.ensures, ap length lines))
