use Rattle.std.proofs.Common.{◌∙◌, ap}
use Rattle.std.specs.Prelude.{filter}
use Rattle.nv_marks.specs.Keeping.{is_struck}
use Rattle.nv_marks.proofs.StrikeLemmas.{struck_start}
use Rattle.nv_marks.proofs.mark_set.MarkSet.struck.Goals as goal

pub returns-clause-found : goal.returns-clause-found
returns-clause-found c =
    c.keep_struck.ensures ∙ ap (filter (is_struck c.args.part.from c.args.part.to)) c.in_ok-found.ensures.found
    ∙ struck_start c.args.part.from c.args.part.to c.args.self.now.marks
