use Rattle.std.proofs.Common.{◌≡◌, ℤ, to_z, of_z, w8, rules, subst}
use Rattle.std.specs.Option.{IfSome, IfNone}
use Rattle.nv_value.specs.View.{content}
use Rattle.nv_msgpack.specs.Handle.{IsHandle}
use Rattle.nv_args.proofs.Handles.{handle_is}
use Rattle.nv_args.proofs.kinds.handle_number.Goals as goal

pub returns : goal.returns
returns c =
    let same : to_z w8 (of_z w8 c.args.handle_type) ≡ c.args.handle_type = search rules in
    handle_is c.args.handle_type (content c.args.value.now) c.handle_of.result
    (subst (λ (k : ℤ). IfSome c.handle_of.result (IsHandle k (content c.args.value.now))) same c.handle_of.ensures.some)
    (subst (λ (k : ℤ). IfNone c.handle_of.result ((n : ℤ) → IsHandle k (content c.args.value.now) n → ⊥)) same c.handle_of.ensures.none)
