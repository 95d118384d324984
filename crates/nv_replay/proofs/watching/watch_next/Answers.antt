use Rattle.nv_replay.proofs.Following.{watched_next}
use Rattle.nv_replay.proofs.watching.watch_next.Goals as goal

pub returns-clause-watches : goal.returns-clause-watches
returns-clause-watches g c = λ i old new was is. watched_next _ _ _ _ _ _ _ (c.in_ok-glance.ensures.glances i old new was is)
