use Rattle.std.proofs.Common.{ℕ, List}
use Rattle.std.specs.List.{AllZip}
use Rattle.nv_history.specs.Sessions.{Session as ModelSession}
use Rattle.nv_world.specs.inside.Sessions.{IsSession}
use Rattle.nv_world.proofs.Stating.{quit_first}
use Rattle.nv_world.proofs.finishing.quit_each.Given as goal

abbrev pub invariant-loop-place : goal.invariant-loop-place
invariant-loop-place l =
    (capacity : ℕ) (ys : List ModelSession) → AllZip (IsSession capacity) l.initial.sessions ys
    → AllZip (IsSession capacity) l.sessions (quit_first l.at l.place ys)
