use Rattle.std.proofs.Common.{List, filter, ap, ◌∙◌}
use Rattle.nv_marks.specs.declared.keeping.Kept.{Kept}
use Rattle.nv_buffer.specs.KeptMarks.{is_kept_in}
use Rattle.nv_buffer.specs.Marks.{marks_after}
use Rattle.nv_buffer.proofs.buffer.carry_marks.Goals as goal

pub returns-clause-marks : goal.returns-clause-marks
returns-clause-marks c =
    c.move_marks.ensures
    ∙ ap (λ (ks : List Kept). marks_after ks c.args.marks.now c.args.by.now)
    (c.deref.ensures.value ∙ c.keep_in.ensures ∙ ap (filter (is_kept_in c.args.text.now)) c.put-back.ensures.before)
