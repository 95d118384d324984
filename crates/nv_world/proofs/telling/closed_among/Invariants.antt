use Rattle.std.proofs.Common.{◌≡◌, take, filter}
use Rattle.nv_world.specs.inside.Tellings.{is_closed_at}
use Rattle.nv_world.proofs.telling.closed_among.Given as goal

abbrev pub invariant-loop-session : goal.invariant-loop-session
invariant-loop-session l =
    l.closed.items ≡ filter (is_closed_at l.sessions) (take l.session-index l.several)
