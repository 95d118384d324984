-- Ways through the tree of changes, leg by leg (own rule).
use Rattle.std.specs.Prelude.{◌≡◌, ℕ, zero, suc, pred, ◌<◌, ◌==◌, Bool, true, false, ◌||◌, List, [], ◌∷◌, length, map, Some, unwrap_or, option_to_list}
use Rattle.nv_undo.specs.declared.legs.Leg.{Leg}
use Rattle.nv_undo.specs.declared.legs.Leg.TheVariants.{Back, Ahead}
use Rattle.nv_undo.specs.Tree.{Undo, parent_of, child_of, ancestors, path}

-- the legs lead from one number to another: each `Back` leaves the number where it stands for its
-- parent, each `Ahead` enters a child of the number where it stands
abbrev pub Leads : {E : Type 0} → Undo E → ℕ → List Leg → ℕ → Type 0
Leads t from [] to = from ≡ to
Leads t from (Back k ∷ legs) to =
    (parent : ℕ) × (k ≡ from) × (parent_of t k ≡ Some parent) × Leads t parent legs to
Leads t from (Ahead k ∷ legs) to = (parent_of t k ≡ Some from) × Leads t k legs to

-- the change k is left on the way
abbrev pub leaves : ℕ → List Leg → Bool
leaves k [] = false
leaves k (Back n ∷ legs) = n == k || leaves k legs
leaves k (Ahead n ∷ legs) = leaves k legs

-- the change k is entered on the way
abbrev pub enters : ℕ → List Leg → Bool
enters k [] = false
enters k (Back n ∷ legs) = enters k legs
enters k (Ahead n ∷ legs) = n == k || enters k legs

-- no change is both left and entered, so the way turns at the nearest common ancestor
abbrev pub IsDirect : List Leg → Type 0
IsDirect legs = (k : ℕ) → leaves k legs ≡ true → enters k legs ≡ false

-- how many changes lead from the text at first to a number
abbrev pub tree_depth : {E : Type 0} → Undo E → ℕ → ℕ
tree_depth t n = pred (length (ancestors t n))

-- the number that a change was made at, and 0 for 0
abbrev pub origin : {E : Type 0} → Undo E → ℕ → ℕ
origin t n = unwrap_or (parent_of t n) 0

-- the leg back from a number, and none from 0
abbrev pub leg_back : ℕ → List Leg
leg_back zero = []
leg_back (suc n) = Back (suc n) ∷ []

-- undo: from the current number to its parent, and nowhere from 0 (help: :undo)
abbrev pub undo_legs : {E : Type 0} → Undo E → List Leg
undo_legs t = leg_back t.current

-- redo: to the child last entered of the current number, and nowhere where it has none (help:
-- :redo)
abbrev pub redo_legs : {E : Type 0} → Undo E → List Leg
redo_legs t = map Ahead (option_to_list (child_of t t.current))

-- undo to a number: by the nearest common ancestor (help: :undo)
abbrev pub legs_to : {E : Type 0} → ℕ → Undo E → List Leg
legs_to n t = path t t.current n

-- a leg that can be gone: back from the current number, which isn't 0, or ahead to one of its
-- children
abbrev pub IsNext : {E : Type 0} → Undo E → Leg → Type 0
IsNext t (Back n) = (n ≡ t.current) × (0 < n)
IsNext t (Ahead n) = parent_of t n ≡ Some t.current
