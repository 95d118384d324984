use Rattle.std.proofs.Common.{refl, arith}
use Rattle.nv_halves.specs.Passes.{plain_pass}
use Rattle.nv_halves.proofs.WritingOn.{writes_begun}
use Rattle.nv_halves.proofs.writer.write_all.Goals as goal

pub takes-init : goal.takes-init
takes-init g c = record {
  writes = writes_begun _ _ _ _ c.requires.told;
  at_turn = refl;
  later = omega arith;
}

pub returns-in-Ends-clause-wrote : goal.returns-in-Ends-clause-wrote
returns-in-Ends-clause-wrote g c =
    let w = rw c.in-Ends.is at c.write_once-next.ensures.writes in
    w (plain_pass c.args.pass) _ c.takes.invariant.writes
