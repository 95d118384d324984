use Rattle.std.proofs.Common.{◌≡◌, ◌∙◌, sym, rules, arith}
use Rattle.nv_hl.proofs.LawLemmas.{same_attrs_are_equal}
use Rattle.nv_screen.proofs.same.is_same_span.Goals as goal

pub returns : goal.returns
returns c e =
    let a = c.args.a.now in let b = c.args.b.now in
    let from : a.from ≡ b.from = omega (arith, c.if-a-b.false) in
    let to : a.to ≡ b.to = omega (arith, c.if-a-b-2.false) in
    let eol : a.eol ≡ b.eol = search rules in
    let attr : a.attr ≡ b.attr = (same_attrs_are_equal a.attr b.attr).0 (sym c.is_same_attr.ensures ∙ e) in
    λ i. record { from = from i; to = to i; attr = attr i; eol = eol i }
