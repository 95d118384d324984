-- Lines as a list holds them.
use Rattle.std.specs.Prelude.{ℕ, List, [], ◌∷◌}
use Rattle.std.specs.Arc.{arc_value}
use Rattle.nv_lines.specs.declared.held.Held.{Held}
use Rattle.nv_lines.specs.declared.held.Held.TheVariants.{One, Many, Shared}

-- the one line, or those of the table
abbrev pub held_lines : Held → List (List ℕ)
held_lines (One line alloc) = line ∷ []
held_lines (Many lines) = lines.items
held_lines (Shared lines) = (arc_value lines).items
