use Rattle.std.proofs.Common.{◌≡◌, suc, ◌+◌, arith}
use Rattle.nv_args.proofs.KindLemmas.{wrong-here, wrong-behind}
use Rattle.nv_args.proofs.args.first_wrong.Goals as goal

pub returns-then-not-takes : goal.returns-then-not-takes
returns-then-not-takes c = record {
  place =
      wrong-here c.args.parameters.now c.args.values.now c.loop-place.place _ c.index-values-place.result _ _
      (omega arith) (omega arith) c.index-values-place.is c.takes.ensures c.if-not-takes.true c.loop-place.invariant;
  within = omega arith;
}

pub loop-place-preserved : goal.loop-place-preserved
loop-place-preserved c =
    let next : c.loop-place.place + 1 ≡ suc c.loop-place.place = omega arith in
    wrong-behind c.args.parameters.now c.args.values.now c.loop-place.place (c.loop-place.place + 1) _ c.index-values-place.result _ _
    (omega arith) (omega arith) c.index-values-place.is c.takes.ensures c.if-not-takes.false next c.loop-place.invariant
