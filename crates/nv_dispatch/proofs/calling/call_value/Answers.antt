use Rattle.std.proofs.Common.{◌∙◌, ◌<◌, ℕ, List, map, ap, sym, subst, length, arith, OnOk, Result, Ok, Err}
use Rattle.nv_value.specs.Content.{Tree}
use Rattle.nv_value.specs.View.{content}
use Rattle.nv_args.specs.Methods.{signature_of}
use Rattle.nv_args.specs.Reading.{name_of_call}
use Rattle.nv_args.specs.Weight.{weight}
use Rattle.nv_dispatch.specs.Calls.{CallOutcome, outcome_of_name}
use Rattle.nv_dispatch.specs.Outcomes.{GaveOutcome}
use Rattle.nv_dispatch.proofs.CallValues.{call-weight}
use Rattle.nv_dispatch.proofs.RowLemmas.{found_outcome, unknown_outcome}
use Rattle.nv_dispatch.proofs.calling.call_value.Goals as goal

pub call_method-requires : goal.call_method-requires
call_method-requires c = record { brief = c.in-Some.ensures.brief }

-- what holds anyway
on_any : {A E : Type 0} (r : Result A E) (P : Type 0) → P → OnOk r P
on_any (Ok a) P p = p
on_any (Err e) P p = tt

pub returns-in-Some-clause-named : goal.returns-in-Some-clause-named
returns-in-Some-clause-named c =
    let given = c.call_in.ensures in
    let some : 0 < weight (content c.args.call.now) =
    omega (arith, ap (length {A = ℕ}) given.name, call-weight (content c.args.call.now), ap (length {A = ℕ}) c.in-Some.ensures.name, c.in-Some.ensures.brief.some) in
    on_any c.call_method.result (0 < weight (content c.args.call.now)) some

pub returns-in-Some-clause-outcome : goal.returns-in-Some-clause-outcome
returns-in-Some-clause-outcome c = λ m is.
    let lent = c.call_in.ensures in
    let given = map content c.call_in.result.params.now in
    let same = sym (found_outcome m c.args.session c.call_in.result.name.now given (signature_of c.in-Some.signature.now) (sym c.in-Some.ensures.signature))
    ∙ ap (λ (n : List ℕ). outcome_of_name m c.args.session n given) lent.name
    ∙ ap (λ (ts : List Tree). outcome_of_name m c.args.session (name_of_call (content c.args.call.now)) ts) lent.params in
    subst (λ (o : CallOutcome). GaveOutcome o m c.call_method.result c.call_method.new.editor c.args.happened.now c.call_method.new.happened) same
    (c.call_method.ensures.outcome m is)

pub returns-in-None-clause-outcome : goal.returns-in-None-clause-outcome
returns-in-None-clause-outcome c = λ m is.
    let lent = c.call_in.ensures in
    let given = map content c.call_in.result.params.now in
    let same = ap (λ (n : List ℕ). outcome_of_name m c.args.session n given) lent.name
    ∙ ap (λ (ts : List Tree). outcome_of_name m c.args.session (name_of_call (content c.args.call.now)) ts) lent.params in
    subst (λ (o : CallOutcome). GaveOutcome o m (Err c.unknown_method.result) c.args.editor.now c.args.happened.now c.args.happened.now) same
    (unknown_outcome c.args.session c.call_in.result.name.now given c.unknown_method.result c.args.editor.now c.args.happened.now (sym c.in-None.ensures.signature) c.unknown_method.ensures m is)
