-- What a division of room among children keeps.
use Rattle.std.specs.Prelude.{◌≡◌, ℕ, ◌≤◌, List, [], ◌∷◌, length}
use Rattle.nv_layout.specs.Division.{Child, need, total, division}

-- as many sizes as children, each at least the child's least size
abbrev pub Suffices : List Child → List ℕ → Type 0
Suffices [] [] = Unit {0}
Suffices [] (n ∷ ns) = ⊥
Suffices (c ∷ cs) [] = ⊥
Suffices (c ∷ cs) (n ∷ ns) = (c.least ≤ n) × Suffices cs ns

-- Where room is enough for what the children need, the sizes are all of it, and suffice.
abbrev pub DivisionIsWhole : Type 0
DivisionIsWhole =
    (room : ℕ) (cs : List Child) → 1 ≤ length cs → need cs ≤ room →
    (total (division room cs) ≡ room) × Suffices cs (division room cs)
