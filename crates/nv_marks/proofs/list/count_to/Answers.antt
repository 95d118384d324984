use Rattle.std.proofs.Common.{◌∙◌, sym}
use Rattle.nv_marks.proofs.InPlaceLemmas.{point_at}
use Rattle.nv_marks.proofs.list.count_to.Goals as goal

pub returns-else-stands_before-clause-point : goal.returns-else-stands_before-clause-point
returns-else-stands_before-clause-point c =
    point_at c.args.base c.args.from c.args.kept.now c.loop-count.count _ c.requires.in_order c.loop-count.invariant.1
    (λ _. sym c.stands_before.ensures ∙ c.if-stands_before.false)
