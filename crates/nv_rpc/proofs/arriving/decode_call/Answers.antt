use Rattle.std.proofs.Common.{◌-◌, ◌≡◌, ℕ, List, Some, pos, refl, arith, subst}
use Rattle.nv_value.specs.Content.{integer, text, list}
use Rattle.nv_value.specs.View.{contents}
use Rattle.nv_rpc.specs.Calls.{call_in}
use Rattle.nv_rpc.specs.Frames.{call_of_frame}
use Rattle.nv_rpc.specs.inside.Parts.{four}
use Rattle.nv_rpc.proofs.WholeRequests.{begins_with_request}
use Rattle.nv_rpc.proofs.arriving.decode_call.Goals as goal

pub returns : goal.returns
returns c =
    let depth = c.args.bounds.depth in
    let each = c.type_inv.bytes in
    let within = c.if-not-may_be_request.ensures.bounds refl in
    let begins = c.if-not-may_be_request.ensures.begins refl in
    let msgid = integer (pos c.in-Some.msgid) in
    let params = list (contents c.in-Some-2.params.items) in
    let call = call_of_frame c.request_of.result in
    let named = subst (λ (name : List ℕ). call_in (list (four (integer (pos 0)) msgid (text name) params)) ≡ Some call) c.in_ok-method.ensures c.request_of.ensures in
    begins_with_request depth c.args.bounds.bytes c.args.bytes.now msgid (text c.in-Some-text_at.name.now) params call
    c.in-Some.at c.in-Some-text_at.at c.in-Some-2.end within.0 within.1 begins.0 begins.1 begins.2 (λ k lt. omega (arith, each k))
    c.in-Some.ensures.fits c.in-Some-text_at.ensures.fits
    (c.in-Some.ensures.stands (depth - 1)) (c.in-Some-text_at.ensures.stands (depth - 1)) (rw c.in-Some-2.is at c.in_ok-params.ensures.stands) named
