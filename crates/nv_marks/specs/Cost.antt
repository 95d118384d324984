-- How many steps a splice of marks takes at most (own rule).
use Rattle.std.specs.Prelude.{ℕ, ◌+◌, ◌/◌, suc, if◌then◌else◌, List, [], ◌∷◌, ◌++◌, length, option_map, option_to_list}
use Rattle.nv_places.specs.declared.place.Pos.{Pos}
use Rattle.nv_places.specs.declared.place.Extent.{Extent}
use Rattle.nv_places.specs.Places.{further}
use Rattle.nv_marks.specs.Order.{is_within}
use Rattle.nv_marks.specs.declared.extmark.Mark.{Mark}

-- the places of marks: of each its start, and its end where it has one
abbrev pub places_of : List Mark → List Pos
places_of [] = []
places_of (m ∷ ms) = m.start ∷ (option_to_list (option_map (λ far. far.pos) m.stop) ++ places_of ms)

-- how many of some places lie from one place up to another, both included
abbrev pub count_within : Pos → Pos → List Pos → ℕ
count_within from to [] = 0
count_within from to (p ∷ ps) =
    if is_within from to p then suc (count_within from to ps) else count_within from to ps

-- the bound for a splice: one step for each place in the replaced part, one for 16 places of all,
-- and 130
abbrev pub most_steps : Pos → Extent → List Mark → ℕ
most_steps start old marks =
    count_within start (further start old) (places_of marks) + length (places_of marks) / 16 + 130
