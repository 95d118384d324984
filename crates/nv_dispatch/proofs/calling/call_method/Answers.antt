use Rattle.std.proofs.Common.{map}
use Rattle.nv_value.specs.View.{content}
use Rattle.nv_args.specs.Methods.{signature_of}
use Rattle.nv_model.specs.Seen.{Seen}
use Rattle.nv_dispatch.specs.Calls.{answer_of_method}
use Rattle.nv_dispatch.proofs.RowLemmas.{gave_ok, gave_err}
use Rattle.nv_dispatch.proofs.calling.call_method.Goals as goal

pub returns-in-Ok-clause-outcome : goal.returns-in-Ok-clause-outcome
returns-in-Ok-clause-outcome c =
    gave_ok (λ (s : Seen). answer_of_method s c.args.session (signature_of c.args.signature.now) (map content c.args.params.now)) c.args.signature.now.is_seen c.in-Ok.result
    c.args.editor.now c.result_of.new.editor c.args.happened.now c.result_of.new.happened (rw c.in-Ok.is at c.result_of.ensures.row)

pub returns-in-Err-clause-outcome : goal.returns-in-Err-clause-outcome
returns-in-Err-clause-outcome c =
    gave_err (λ (s : Seen). answer_of_method s c.args.session (signature_of c.args.signature.now) (map content c.args.params.now)) c.args.signature.now.is_seen c.in-Err.fail
    c.args.editor.now c.result_of.new.editor c.args.happened.now c.result_of.new.happened (rw c.in-Err.is at c.result_of.ensures.row)
