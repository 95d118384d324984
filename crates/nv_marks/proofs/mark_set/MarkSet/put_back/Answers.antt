use Rattle.std.proofs.Common.{length}
use Rattle.nv_marks.specs.Marks.{mark_at}
use Rattle.nv_marks.proofs.EmptyLemmas.{is_nothing, stay_in_order, stays_found}
use Rattle.nv_marks.proofs.mark_set.MarkSet.put_back.Goals as goal

pub returns-then-is_empty-clause-marks : goal.returns-then-is_empty-clause-marks
returns-then-is_empty-clause-marks c =
    stay_in_order c.args.kept.now c.args.self.now.marks c.args.self.now.greatest
    (is_nothing c.is_empty.result (length c.args.kept.now) c.is_empty.ensures c.if-is_empty.true) c.len-count.ensures.sound

pub returns-then-is_empty-clause-found : goal.returns-then-is_empty-clause-found
returns-then-is_empty-clause-found c = λ ns id.
    stays_found c.args.kept.now (mark_at c.args.self.now.marks ns id)
    (is_nothing c.is_empty.result (length c.args.kept.now) c.is_empty.ensures c.if-is_empty.true)
