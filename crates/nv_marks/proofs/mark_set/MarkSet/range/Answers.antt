use Rattle.std.proofs.Common.{◌∙◌, ◌++◌, ap, take, List, None}
use Rattle.std.proofs.lemmas.Result.{on_ok_weaker}
use Rattle.nv_marks.specs.declared.extmark.Mark.{Mark}
use Rattle.nv_marks.proofs.StrikeLemmas.{starting_is}
use Rattle.nv_marks.proofs.mark_set.MarkSet.range.Goals as goal

pub returns-clause-ok : goal.returns-clause-ok
returns-clause-ok c =
    on_ok_weaker c.select.result
    (λ is. is
    ∙ ap (λ (l : List Mark). c.args.into.now.items ++ take c.args.limit l) (starting_is None c.args.from c.args.to c.args.self.now.marks))
    c.select.ensures.ok
