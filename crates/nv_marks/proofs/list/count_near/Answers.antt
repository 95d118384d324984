use Rattle.std.proofs.Common.{◌∙◌, ◌+◌, sym, arith}
use Rattle.nv_marks.proofs.InPlaceLemmas.{front_from}
use Rattle.nv_marks.proofs.list.count_near.Goals as goal

pub loop-near-preserved : goal.loop-near-preserved
loop-near-preserved c = (
  omega (arith, c.loop-near-test.true),
  front_from c.args.base c.args.from c.args.kept.now (c.loop-near.near + 8) (c.loop-near.near + 8) _ c.requires.in_order c.loop-near-test.true (omega arith)
      (sym c.stands_before.ensures ∙ c.if-stands_before.true),
)
