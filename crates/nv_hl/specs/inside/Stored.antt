-- inside: how groups are stored.
use Rattle.std.specs.Prelude.{◌≡◌, ℕ, Bool, List, Vec}
use Rattle.std.specs.BTreeMap.{BTreeMap, get_by}
use Rattle.std.specs.Cmp.Lexicographic.{slice_cmp}
use Rattle.std.specs.Ordering.{nat_cmp}
use Rattle.nv_hl.specs.declared.linking.Group.{Group}
use Rattle.nv_hl.specs.Groups.{NamedGroup, known_id}

-- the map has of every name the id of its group
abbrev pub IsIndex : {A : Type 0} → BTreeMap (Vec ℕ A) ℕ → List NamedGroup → Type 0
IsIndex index groups =
    (name : List ℕ) → get_by (λ k. slice_cmp nat_cmp name k.items) index ≡ known_id groups name

-- a group with its name
abbrev pub named : List ℕ → Group → Bool → NamedGroup
named name group was_put = record { name = name; group = group; was_put = was_put }
