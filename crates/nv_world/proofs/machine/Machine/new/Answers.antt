use Rattle.std.proofs.Common.{refl}
use Rattle.nv_world.proofs.machine.Machine.new.Goals as goal

pub returns : goal.returns
returns c = record {
  stands = c.in_ok-state.ensures.stands;
  settled = c.in_ok-state.ensures.settled;
  last = c.new-2.ensures.items;
  spent = refl;
}
