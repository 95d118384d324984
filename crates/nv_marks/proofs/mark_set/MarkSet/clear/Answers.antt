use Rattle.std.proofs.Common.{◌∙◌, ap, List}
use Rattle.nv_marks.specs.declared.extmark.Mark.{Mark}
use Rattle.nv_marks.specs.inside.Restoring.{without_all}
use Rattle.nv_marks.proofs.StrikeLemmas.{cleared_is, cleared_whole}
use Rattle.nv_marks.proofs.mark_set.MarkSet.clear.Goals as goal

pub returns-clause-marks : goal.returns-clause-marks
returns-clause-marks c =
    cleared_is c.args.ns c.args.from c.args.to c.args.self.now.marks c.remove_all.new.self.marks c.in_ok-found.found.items c.args.self.now.greatest
    c.starting.ensures.sound c.in_ok-found.ensures.found
    (c.remove_all.ensures.marks ∙ ap (λ (l : List Mark). without_all l c.args.self.now.marks) c.deref.ensures.value)

pub returns-then-is_one_pass-clause-marks : goal.returns-then-is_one_pass-clause-marks
returns-then-is_one_pass-clause-marks c =
    c.clear_all.ensures.marks
    ∙ cleared_whole c.args.ns c.args.from c.args.to c.args.self.now.marks (c.is_one_pass.ensures c.if-is_one_pass.true) c.clear_all.ensures.narrow
