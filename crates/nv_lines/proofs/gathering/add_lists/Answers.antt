use Rattle.std.proofs.Common.{◌∙◌, ◌++◌, ap, arith}
use Rattle.nv_lines.proofs.Parts.{rows_gathered}
use Rattle.nv_lines.proofs.gathering.add_lists.Goals as goal

pub loop-chunk-preserved : goal.loop-chunk-preserved
loop-chunk-preserved c =
    let at = c.loop-chunk in
    rows_gathered c.args.chunks.now at.chunk-index c.chunk-item.result at.start at.end c.saturating_sub-start.result c.saturating_sub-end.result
    at.excerpt c.push.new.self _ at.invariant (omega arith) c.chunk-item.is
    (c.in_ok-push.ensures.ok ∙ ap (λ l. at.excerpt ++ l) c.in_ok-list.ensures)
    (omega (arith, c.saturating_sub-start.ensures, c.len-len.ensures.value)) (omega (arith, c.saturating_sub-end.ensures, c.len-len.ensures.value))
