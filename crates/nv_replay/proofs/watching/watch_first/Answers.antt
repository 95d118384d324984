use Rattle.nv_replay.proofs.Following.{watched_first}
use Rattle.nv_replay.proofs.watching.watch_first.Goals as goal

pub returns-clause-watches : goal.returns-clause-watches
returns-clause-watches g c = λ i old new was is.
    watched_first _ _ _ _ _ _ _ (λ before h. c.in_ok-drive.ensures.seen i old new before was is h) (λ before y. c.in_ok-drive.ensures.rule i old new before y was is)
