use Rattle.nv_marks.proofs.mark_set.MarkSet.is_one_pass.Goals as goal

pub returns-then-is_whole : goal.returns-then-is_whole
returns-then-is_whole c = λ yes. c.is_whole.ensures c.if-is_whole.true
