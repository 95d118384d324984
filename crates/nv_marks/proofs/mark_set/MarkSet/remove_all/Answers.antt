use Rattle.std.proofs.Common.{◌∙◌}
use Rattle.nv_marks.proofs.StrikeLemmas.{without_next}
use Rattle.nv_marks.proofs.mark_set.MarkSet.remove_all.Goals as goal

pub loop-mark-preserved : goal.loop-mark-preserved
loop-mark-preserved c = (
  without_next c.args.marks.now c.loop-mark.mark-index _ c.args.self.now.marks c.loop-mark.self.marks c.remove.new.self.marks c.loop-mark-test.true
      c.loop-mark.invariant.0 c.remove.ensures.marks,
  c.remove.ensures.greatest ∙ c.loop-mark.invariant.1,
  c.remove.ensures.settings ∙ c.loop-mark.invariant.2,
)
