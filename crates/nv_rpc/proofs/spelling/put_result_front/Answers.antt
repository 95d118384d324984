use Rattle.std.proofs.Common.{◌≡◌, ℕ, ◌++◌, length, ap, sym, ◌∙◌, subst, arith}
use Rattle.nv_value.specs.Content.{nil}
use Rattle.nv_msgpack.specs.Shortest.{HasSpelling, shortest}
use Rattle.nv_rpc.specs.Messages.{response}
use Rattle.nv_rpc.specs.Outcomes.{atomic_content, call_result_content, outcome_content}
use Rattle.nv_rpc.specs.inside.Fronts.{atomic_head}
use Rattle.nv_rpc.specs.declared.outcome.AtomicResults.{AtomicResults}
use Rattle.nv_rpc.specs.declared.outcome.Outcome.{Outcome}
use Rattle.nv_rpc.proofs.Spelled.{atomic_front, none_left, response_put, are_spellable, few_results}
use Rattle.nv_rpc.proofs.spelling.put_result_front.Goals as goal

pub put_atomic_head-requires : goal.put_atomic_head-requires
put_atomic_head-requires c =
    let lent : c.deref.result.now ≡ c.in-Atomic.atomic.value = c.deref.ensures in
    let spelled = subst (λ (a : AtomicResults). HasSpelling (atomic_content a)) (sym lent) (rw c.in-Atomic.is at c.requires) in
    omega (arith, few_results c.deref.result.now spelled, c.len.ensures, c.deref.result.now.results.ok.0)

pub returns-in_ok-put_atomic_head-in-Atomic-clause-put : goal.returns-in_ok-put_atomic_head-in-Atomic-clause-put
returns-in_ok-put_atomic_head-in-Atomic-clause-put c =
    let lent : c.deref.result.now ≡ c.in-Atomic.atomic.value = c.deref.ensures in
    let many : c.len.result ≡ length c.deref.result.now.results.items = c.len.ensures ∙ c.deref.result.now.results.ok.0 in
    atomic_front c.into_inner.result c.args.into.now.items c.put_response_head.new.into.items c.put_atomic_head.new.into.items c.args.msgid
    c.in_ok-put_response_head.ensures
    (c.in_ok-put_atomic_head-in-Atomic.ensures
    ∙ ap (λ (n : ℕ). c.put_response_head.new.into.items ++ atomic_head n) many
    ∙ ap (λ (a : AtomicResults). c.put_response_head.new.into.items ++ atomic_head (length a.results.items)) (lent ∙ sym c.into_inner.ensures))
    ∙ ap (λ (a : AtomicResults). c.args.into.now.items ++ shortest (response c.args.msgid nil (atomic_content a))) c.into_inner.ensures
    ∙ ap (λ (o : Outcome). c.args.into.now.items ++ shortest (response c.args.msgid nil (outcome_content o))) (sym c.in-Atomic.is)

pub returns-in_ok-put_atomic_head-in-Atomic-clause-spellable : goal.returns-in_ok-put_atomic_head-in-Atomic-clause-spellable
returns-in_ok-put_atomic_head-in-Atomic-clause-spellable c =
    are_spellable c.into_inner.result
    (subst (λ (a : AtomicResults). HasSpelling (atomic_content a)) (sym c.into_inner.ensures) (rw c.in-Atomic.is at c.requires))

pub returns-in_ok-put-in-One-clause-put : goal.returns-in_ok-put-in-One-clause-put
returns-in_ok-put-in-One-clause-put c =
    let one = call_result_content c.in-One.one in
    none_left c.args.into.now.items c.put.new.into.items (shortest (response c.args.msgid nil one))
    (response_put c.args.into.now.items c.put_response_head.new.into.items c.put.new.into.items c.args.msgid one c.in_ok-put_response_head.ensures
    c.in_ok-put-in-One.ensures)
    ∙ ap (λ (o : Outcome). c.args.into.now.items ++ shortest (response c.args.msgid nil (outcome_content o))) (sym c.in-One.is)
