-- The entries of a list that enter a world, offered to it one after another (own rule).
use Rattle.std.specs.Prelude.{List, [], ◌∷◌}
use Rattle.nv_history.specs.Events.{Entry}
use Rattle.nv_history.specs.Worlds.{World, Outcome, refuses, idles, becomes, step}

-- an entry that enters is one, and others may enter the world that it makes; one that is refused or
-- idle is none
abbrev pub entered_behind : Entry → World → Outcome → (World → List Entry) → List Entry
entered_behind e w (refuses stop) others = others w
entered_behind e w (idles effect) others = others w
entered_behind e w (becomes v effect) others = e ∷ others v

-- the entries that enter a world, of those that are offered to it in turn
abbrev pub entered : World → List Entry → List Entry
entered w [] = []
entered w (e ∷ es) = entered_behind e w (step w e.event) (λ v. entered v es)
