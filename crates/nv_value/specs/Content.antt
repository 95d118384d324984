-- The content of a value: the plain tree of numbers and lists that it holds, without allocators and
-- capacities.
use Rattle.std.specs.Prelude.{ℕ, suc, ℤ, Bool, List, [], ◌∷◌}

-- A value of the MessagePack specification ("Type system"): an integer above the greatest i64 is
-- `big`, a float is its bytes, `opaque`, and a map is its keys and values in turn.
mutual
  pub data Tree : Type 0 where
    nil : Tree
    truth : Bool → Tree
    integer : ℤ → Tree
    big : ℕ → Tree
    text : List ℕ → Tree
    bin : List ℕ → Tree
    list : Trees → Tree
    pairs : Trees → Tree
    ext : ℤ → List ℕ → Tree
    opaque : List ℕ → Tree

  -- Values in order.
  pub data Trees : Type 0 where
    no_more : Trees
    one : Tree → Trees → Trees

-- How many values there are.
abbrev pub count : Trees → ℕ
count no_more = 0
count (one t ts) = suc (count ts)

-- The trees of a list, in its order.
abbrev pub trees_of : List Tree → Trees
trees_of [] = no_more
trees_of (t ∷ ts) = one t (trees_of ts)

-- Keys and values, each key before its value.
abbrev pub in_turn : List (Tree × Tree) → Trees
in_turn [] = no_more
in_turn (p ∷ ps) = one p.0 (one p.1 (in_turn ps))
