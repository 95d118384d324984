-- inside: which effects are those of entries.
use Rattle.std.specs.Prelude.{Bool, true, false}
use Rattle.nv_history.specs.Events.{Effect, opened, done, gives, nothing, over, closes}

-- whether an event with this effect enters the history
abbrev pub is_entry : Effect → Bool
is_entry (opened s) = true
is_entry done = true
is_entry (gives messages editor) = true
is_entry closes = true
is_entry nothing = false
is_entry (over cause) = false
