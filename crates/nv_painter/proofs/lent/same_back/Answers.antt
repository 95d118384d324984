use Rattle.std.proofs.Common.{◌≡◌, ◌-◌, ◌∙◌, drop, ap, arith, sym}
use Rattle.std.proofs.lemmas.List.{drop-drop}
use Rattle.nv_painter.proofs.lent.same_back.Goals as goal

pub returns-clause-same : goal.returns-clause-same
returns-clause-same c =
    let a = c.args.a.now in
    let b = c.args.b.now in
    let k = c.loop-k.k in
    let from = c.args.from in
    let n = from - k in
    let in_a : drop n (drop k a) ≡ drop from a = drop-drop n k a ∙ ap (λ j. drop j a) (omega (arith, c.loop-k-test.false)) in
    let in_b : drop n (drop k b) ≡ drop from b = drop-drop n k b ∙ ap (λ j. drop j b) (omega (arith, c.loop-k-test.false)) in
    sym in_a ∙ ap (drop n) c.loop-k.invariant ∙ in_b
