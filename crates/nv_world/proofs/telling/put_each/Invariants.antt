use Rattle.std.proofs.Common.{ℕ, ℤ, List, drop}
use Rattle.std.specs.List.{AllZip}
use Rattle.nv_history.specs.Sessions.{Session as ModelSession}
use Rattle.nv_world.specs.inside.Notices.{sent_of_notice}
use Rattle.nv_world.specs.inside.Sessions.{IsSession}
use Rattle.nv_world.specs.inside.Tellings.{session_put, sessions_updated}
use Rattle.nv_world.proofs.Rounds.{Leaves}
use Rattle.nv_world.proofs.telling.put_each.Given as goal

abbrev pub invariant-loop-session : goal.invariant-loop-session
invariant-loop-session l =
    (capacity : ℕ) (ys : List ModelSession) (following : ModelSession → List ℤ)
    → AllZip (IsSession capacity) l.initial.sessions ys
    → Leaves capacity (session_put l.at capacity (sent_of_notice l.notice) following) l.sessions l.several l.session-index ys
