use Rattle.std.proofs.Common.{◌≡◌, take}
use Rattle.nv_world.specs.inside.Showings.{losing_sessions}
use Rattle.nv_world.proofs.showing.losing_sessions.Given as goal

abbrev pub invariant-loop-ui : goal.invariant-loop-ui
invariant-loop-ui l = l.losing.items ≡ losing_sessions l.sessions (take l.ui-index l.uis)
