use Rattle.std.proofs.Common.{rules, not}
use Rattle.std.proofs.lemmas.Fn.{filter_same}
use Rattle.nv_model.specs.Buffers.{is_same_part}
use Rattle.nv_watch.specs.declared.followed_mark.KeptPart.{KeptPart}
use Rattle.nv_watch.proofs.followed_mark.leave_out.Goals as goal

pub returns : goal.returns
returns c = filter_same _ (λ (k : KeptPart). not (is_same_part c.args.part k.part)) _ (λ x b f' k. search rules) _ _ c.retain.ensures.filtered
