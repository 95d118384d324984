use Rattle.std.proofs.Common.{◌+◌, length, take, inr, arith}
use Rattle.std.specs.List.{flat_map}
use Rattle.nv_run.proofs.Lines.{told_in, told_all}
use Rattle.nv_run.proofs.telling.tell.Goals as goal

pub returns-then-not-put_all : goal.returns-then-not-put_all
returns-then-not-put_all g c =
    let p = c.if-not-put_all.ensures in
    let i = c.loop-part.invariant in (
      length (flat_map (λ part. part.now) (take c.loop-part.part-index c.args.parts.now)) + p.prefix.0,
      told_in (λ part. part.now) c.args.parts.now c.loop-part.part-index _ c.as_bytes.result.now p.prefix.0 _ _ _ c.loop-part-test.true c.as_bytes.ensures.value p.prefix.1 i.told p.prefix.2,
      inr (omega (arith, p.failed)),
    )

pub returns : goal.returns
returns g c = told_all (λ part. part.now) c.args.parts.now c.loop-part.part-index _ _ c.loop-part-test.false c.loop-part.invariant.told
