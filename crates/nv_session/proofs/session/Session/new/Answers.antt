use Rattle.std.proofs.Common.{ap}
use Rattle.nv_painter.specs.Painters.{Painting}
use Rattle.nv_session.proofs.session.Session.new.Goals as goal

pub returns : goal.returns
returns c = record {
  fresh = c.in_ok-new.ensures;
  untold = ap (λ (q : Painting). q.told) c.in_ok-new-2.ensures;
  nothing_waits = c.long_room.ensures;
}
