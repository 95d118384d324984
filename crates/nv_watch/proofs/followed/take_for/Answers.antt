use Rattle.nv_watch.proofs.Mirrored.{ok_on}
use Rattle.nv_watch.proofs.followed.take_for.Goals as goal

pub returns-clause-shares : goal.returns-clause-shares
returns-clause-shares c = ok_on c.take_at.result (λ took. λ texts h. took texts (c.in_ok-place.ensures.shares texts h)) c.take_at.ensures.shares
