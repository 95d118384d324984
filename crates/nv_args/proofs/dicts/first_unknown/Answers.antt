use Rattle.std.proofs.Common.{ℕ, List, Bor, ◌-◌, ◌<◌, sym, subst, refl, arith}
use Rattle.std.proofs.lemmas.Bool.Decides.{nat_tests}
use Rattle.nv_args.proofs.DictLemmas.{LookedAt, looked-name, looked-other}
use Rattle.nv_args.proofs.dicts.first_unknown.Goals as goal

pub loop-left-preserved-in-Some : goal.loop-left-preserved-in-Some
loop-left-preserved-in-Some c =
    let some : 0 < c.loop-left.left = grind (arith, nat_tests) in
    let added = c.in_ok-is_new-in-Some.ensures in
    subst (λ (ks : List (Bor (List ℕ))). LookedAt c.args.rules.now c.args.pairs.now (c.loop-left.left - 1) ks c.first_after-first.result) (sym added.keys)
    (looked-name c.args.rules.now c.args.pairs.now c.loop-left.left (c.loop-left.left - 1) c.index-pairs-left.result _ c.loop-left.seen.keys c.in-Some.name
    c.loop-left.first c.first_after-first.result c.in_ok-is_new-in-Some.is_new c.is_known-is_known.result
    c.loop-left.invariant (omega (arith, some)) c.index-pairs-left.is c.in-Some.ensures c.is_known-is_known.ensures added.added c.first_after-first.ensures)

pub loop-left-preserved : goal.loop-left-preserved
loop-left-preserved c =
    let some : 0 < c.loop-left.left = grind (arith, nat_tests) in
    looked-other c.args.rules.now c.args.pairs.now c.loop-left.left (c.loop-left.left - 1) c.index-pairs-left.result _ c.loop-left.seen.keys
    c.loop-left.first _ c.loop-left.invariant (omega (arith, some)) c.index-pairs-left.is c.in-None.ensures refl
