use Rattle.std.proofs.Common.{map, sym, subst}
use Rattle.nv_value.specs.View.{content}
use Rattle.nv_args.specs.Methods.{signature_of}
use Rattle.nv_dispatch.specs.Calls.{CallOutcome}
use Rattle.nv_dispatch.specs.Outcomes.{GaveOutcome}
use Rattle.nv_dispatch.proofs.RowLemmas.{atomic_found, other_found, unknown_found}
use Rattle.nv_dispatch.proofs.calling.call_unsealed.Goals as goal

pub returns-in_default-clause-outcome : goal.returns-in_default-clause-outcome
returns-in_default-clause-outcome c =
    unknown_found c.args.session c.args.name.now (map content c.args.params.now) c.unknown_method.result c.args.editor.now c.args.happened.now
    (sym c.in_default.ensures.signature) c.unknown_method.ensures

pub returns-in-Atomic-clause-outcome : goal.returns-in-Atomic-clause-outcome
returns-in-Atomic-clause-outcome c = λ m is.
    subst (λ (o : CallOutcome). GaveOutcome o m c.call_atomic.result c.call_atomic.new.editor c.args.happened.now c.call_atomic.new.happened)
    (sym (atomic_found m c.args.session c.args.name.now (map content c.args.params.now) (signature_of c.in-Some.signature.now) (sym c.in-Some.ensures.signature) c.in-Atomic.is))
    (c.call_atomic.ensures.outcome m is)

pub returns-in_default-method-clause-outcome : goal.returns-in_default-method-clause-outcome
returns-in_default-method-clause-outcome c = λ m is.
    subst (λ (o : CallOutcome). GaveOutcome o m c.call_method.result c.call_method.new.editor c.args.happened.now c.call_method.new.happened)
    (sym (other_found m c.args.session c.args.name.now (map content c.args.params.now) (signature_of c.in-Some.signature.now) (sym c.in-Some.ensures.signature) c.in_default-method.not-Atomic))
    (c.call_method.ensures.outcome m is)
