use Rattle.std.proofs.Common.{arith}
use Rattle.nv_io.proofs.KnownLemmas.{goes_on}
use Rattle.nv_io.proofs.streams.put_all.Goals as goal

pub loop-done-preserved : goal.loop-done-preserved
loop-done-preserved g c = record {
  within = omega (arith, c.in-Took.ensures.count);
  taken = goes_on _ _ _ _ _ _ c.loop-done.invariant.taken c.in-Took.ensures.taken;
  later = omega (arith, c.in-Took.ensures.later, c.loop-done.invariant.later);
}
