use Rattle.std.proofs.Common.{rules, not}
use Rattle.std.proofs.lemmas.Fn.{filter_same}
use Rattle.nv_marks.specs.declared.extmark.Mark.{Mark}
use Rattle.nv_marks.proofs.mark_set.keep_gone.Goals as goal

pub returns : goal.returns
returns c = filter_same _ (λ (m : Mark). not m.restore) _ (λ x b f' k. search rules) _ _ c.retain.ensures.filtered
