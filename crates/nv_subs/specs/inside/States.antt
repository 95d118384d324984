-- What the state of a follower holds.
use Rattle.std.specs.Prelude.{ℤ}
use Rattle.nv_subs.specs.Mirrors.{Mirror, absent, ticking, holding}
use Rattle.nv_subs.specs.declared.state.State.{State}
use Rattle.nv_subs.specs.declared.state.State.TheVariants.{Absent, Ticking, Holding}

-- The mirror that a state is.
abbrev pub mirror_of_state : State → Mirror
mirror_of_state Absent = absent
mirror_of_state (Ticking tick) = ticking tick
mirror_of_state (Holding lines tick) = holding lines tick

-- What is known, at another changedtick.
abbrev pub mirror_at_tick : Mirror → ℤ → Mirror
mirror_at_tick absent tick = absent
mirror_at_tick (ticking before) tick = ticking tick
mirror_at_tick (holding lines before) tick = holding lines tick
