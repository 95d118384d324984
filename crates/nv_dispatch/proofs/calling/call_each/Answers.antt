use Rattle.std.proofs.Common.{◌≡◌, ◌∙◌, ◌+◌, ◌∷◌, List, map, drop, ap, sym, subst, length, arith, Bool, false, None}
use Rattle.nv_value.specs.View.{content}
use Rattle.nv_value.specs.declared.value.Value.{Value}
use Rattle.nv_rpc.specs.Outcomes.{call_result_content}
use Rattle.nv_rpc.specs.declared.outcome.CallResult.{CallResult}
use Rattle.nv_dispatch.specs.Calls.{batch_of_values}
use Rattle.nv_dispatch.specs.inside.Batches.{IsMadeSoFar}
use Rattle.nv_dispatch.specs.inside.Weights.{list_weight}
use Rattle.nv_dispatch.proofs.CallValues.{calls-left, weights-contents}
use Rattle.nv_dispatch.proofs.OutcomeLemmas.{none_made, goes_on, ends_refused, stays, taken_light}
use Rattle.nv_dispatch.proofs.calling.call_each.Goals as goal

pub loop-call-init : goal.loop-call-init
loop-call-init c =
    record {
      going = c.new-made.ensures.going;
      light = omega (arith, ap (length {A = CallResult}) c.new-made.ensures.none, weights-contents c.args.calls.now, c.requires.light);
      listed = c.new-made.ensures.listed;
      so_far = λ m is.
          let B = batch_of_values 0 m c.args.session (map content c.args.calls.now) in
          let e = c.args.editor.now in
          let told = c.args.happened.now in
          let first = none_made m c.args.session (map content c.args.calls.now) e told is in
          subst (λ (b : Bool). IsMadeSoFar B m c.args.session (map call_result_content c.new-made.result.values.items) b (map content c.args.calls.now) e told told) (sym c.new-made.ensures.seen)
          (subst (λ (vs : List CallResult). IsMadeSoFar B m c.args.session (map call_result_content vs) false (map content c.args.calls.now) e told told) (sym c.new-made.ensures.none) first);
    }

pub returns-then-is_some-clause-batch : goal.returns-then-is_some-clause-batch
returns-then-is_some-clause-batch c = λ m is.
    let left = drop (c.loop-call.call-index + 1) c.args.calls.now in
    let parts : drop c.loop-call.call-index c.args.calls.now ≡ c.call-item.result ∷ left =
    calls-left c.args.calls.now c.loop-call.call-index c.call-item.result (omega arith) c.call-item.is in
    let B = batch_of_values 0 m c.args.session (map content c.args.calls.now) in
    let made = c.loop-call.made in
    let so_far = subst (λ (left : List Value). IsMadeSoFar B m c.args.session (map call_result_content made.values.items) made.is_seen (map content left) c.loop-call.editor c.args.happened.now c.loop-call.happened) parts
    (c.loop-call.invariant.so_far m is) in
    ends_refused B m c.args.session c.call_value-given.result made c.in_ok-made.made (content c.call-item.result) (map content left)
    c.loop-call.editor c.call_value-given.new.editor c.args.happened.now c.loop-call.happened c.call_value-given.new.happened
    c.in_ok-made.ensures.taken (sym c.is_some.ensures ∙ c.if-is_some.true) c.call_value-given.ensures.refused c.call_value-given.ensures.quiet so_far c.call_value-given.ensures.outcome

pub loop-call-preserved : goal.loop-call-preserved
loop-call-preserved c =
    let left = drop (c.loop-call.call-index + 1) c.args.calls.now in
    let parts : drop c.loop-call.call-index c.args.calls.now ≡ c.call-item.result ∷ left =
    calls-left c.args.calls.now c.loop-call.call-index c.call-item.result (omega arith) c.call-item.is in
    let made = c.loop-call.made in
    let going : c.in_ok-made.made.stopped ≡ None = stays c.in_ok-made.made.stopped (sym c.is_some.ensures ∙ c.if-is_some.false) in
    record {
      going = going;
      light = taken_light c.call_value-given.result made c.in_ok-made.made (content c.call-item.result) (map content left) c.in_ok-made.ensures.taken
          c.call_value-given.ensures.named
          (omega (arith, ap (λ (vs : List Value). list_weight (map content vs)) parts, c.loop-call.invariant.light));
      listed = c.in_ok-made.ensures.listed;
      so_far = λ m is.
          let B = batch_of_values 0 m c.args.session (map content c.args.calls.now) in
          let so_far = subst (λ (left : List Value). IsMadeSoFar B m c.args.session (map call_result_content made.values.items) made.is_seen (map content left) c.loop-call.editor c.args.happened.now c.loop-call.happened) parts
          (c.loop-call.invariant.so_far m is) in
          goes_on B m c.args.session c.call_value-given.result made c.in_ok-made.made (content c.call-item.result) (map content left)
          c.loop-call.editor c.call_value-given.new.editor c.args.happened.now c.loop-call.happened c.call_value-given.new.happened
          c.in_ok-made.ensures.taken going so_far c.call_value-given.ensures.outcome;
    }
