use Rattle.std.proofs.Common.{rules}
use Rattle.std.proofs.lemmas.Fn.{filter_same}
use Rattle.nv_buffer.specs.KeptMarks.{is_kept_in}
use Rattle.nv_buffer.proofs.kept_marks.keep_in.Goals as goal

pub returns : goal.returns
returns c =
    filter_same _ (is_kept_in c.args.text.now) _ (λ x b f' k. search rules) _ _ c.retain.ensures.filtered
