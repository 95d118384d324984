use Rattle.std.proofs.Common.{◌∙◌, map, ap, sym, refl, Ok}
use Rattle.nv_value.specs.View.{content}
use Rattle.nv_rpc.specs.Outcomes.{outcome_content}
use Rattle.nv_args.specs.Args.{typed_arguments}
use Rattle.nv_args.specs.Arguments.{tree_list}
use Rattle.nv_dispatch.proofs.CallValues.{tree_list-contents}
use Rattle.nv_dispatch.proofs.OutcomeLemmas.{atomic_read}
use Rattle.nv_dispatch.proofs.calling.call_read.Goals as goal

pub returns-clause-outcome : goal.returns-clause-outcome
returns-clause-outcome c = λ m is.
    let calls = c.values.result.now in
    atomic_read m c.args.session (Ok (typed_arguments c.args.args.now)) (typed_arguments c.args.args.now) (map content calls) c.in_ok-made.made (outcome_content c.in_ok-result.result)
    c.call_each.new.editor c.args.happened.now c.call_each.new.happened refl
    (sym (tree_list-contents calls) ∙ ap tree_list c.values.ensures) (c.in_ok-made.ensures.batch m is) c.in_ok-result.ensures.outcome
