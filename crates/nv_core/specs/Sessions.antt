-- How a session stands in a world.
use Rattle.std.specs.Prelude.{ℕ, Bool, false, not, Option, Some, None}
use Rattle.nv_history.specs.Events.{Cause}
use Rattle.nv_history.specs.Sessions.{Session}
use Rattle.nv_history.specs.Worlds.{World, is_nothing_due, is_scene_due}

-- what closed a session, where it is there and closed
abbrev pub cause_of : Option Session → Option Cause
cause_of None = None
cause_of (Some x) = x.closed

-- whether anything is due to the session of a number, where it is there: messages, or a scene
abbrev pub is_any_due : World → ℕ → Option Session → Bool
is_any_due w s None = false
is_any_due w s (Some x) = not (is_nothing_due x.waiting (is_scene_due w s x))
