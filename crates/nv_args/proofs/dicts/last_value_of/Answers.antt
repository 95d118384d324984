use Rattle.std.proofs.Common.{◌≡◌, ◌-◌, ◌<◌, sym, ◌∙◌, arith}
use Rattle.std.proofs.lemmas.Bool.Decides.{nat_tests}
use Rattle.nv_args.proofs.DictLemmas.{value-here, value-nowhere}
use Rattle.nv_args.proofs.dicts.last_value_of.Goals as goal

pub returns-then-has_name : goal.returns-then-has_name
returns-then-has_name c =
    let some : 0 < c.loop-left.left = grind (arith, nat_tests) in
    let inv = c.loop-left.invariant in
    value-here c.args.name.now c.args.pairs.now c.loop-left.left (c.loop-left.left - 1) c.index-pairs-left.result _
    (omega (arith, some)) (omega (arith, some, inv.0)) c.index-pairs-left.is inv.1 (sym c.has_name.ensures ∙ c.if-has_name.true)

pub returns : goal.returns
returns c =
    let none : c.loop-left.left ≡ 0 = grind (arith, nat_tests) in
    value-nowhere c.args.name.now c.args.pairs.now c.loop-left.left none c.loop-left.invariant.1
