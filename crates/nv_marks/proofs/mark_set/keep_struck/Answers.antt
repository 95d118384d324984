use Rattle.std.proofs.Common.{rules}
use Rattle.std.proofs.lemmas.Fn.{filter_same}
use Rattle.nv_marks.specs.Keeping.{is_struck}
use Rattle.nv_marks.proofs.mark_set.keep_struck.Goals as goal

pub returns : goal.returns
returns c = filter_same _ (is_struck c.args.part.from c.args.part.to) _ (λ x b f' k. search rules) _ _ c.retain.ensures.filtered
