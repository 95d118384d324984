use Rattle.std.proofs.Common.{map}
use Rattle.nv_value.specs.View.{content}
use Rattle.nv_rpc.specs.Outcomes.{outcome_content}
use Rattle.nv_dispatch.specs.Calls.{outcome_before_seal}
use Rattle.nv_dispatch.proofs.OutcomeLemmas.{sealed_is, refused_gave}
use Rattle.nv_dispatch.proofs.calling.call.Goals as goal

pub returns-in_ok-seal_all-in-Ok-clause-outcome : goal.returns-in_ok-seal_all-in-Ok-clause-outcome
returns-in_ok-seal_all-in-Ok-clause-outcome c = λ m is.
    sealed_is (outcome_before_seal m c.args.session c.args.name.now (map content c.args.params.now)) m (outcome_content c.in-Ok.done.result) c.in-Ok.done.is_seen
    c.call_unsealed.new.editor c.seal_all.new.self c.args.happened.now c.call_unsealed.new.happened (c.in-Ok.ensures.outcome m is) c.in_ok-seal_all-in-Ok.ensures.done

pub returns-in-Err-clause-outcome : goal.returns-in-Err-clause-outcome
returns-in-Err-clause-outcome c = λ m is.
    refused_gave (outcome_before_seal m c.args.session c.args.name.now (map content c.args.params.now)) m c.in-Err.fail
    c.call_unsealed.new.editor c.args.happened.now c.call_unsealed.new.happened (rw c.in-Err.is at c.call_unsealed.ensures.outcome m is)
