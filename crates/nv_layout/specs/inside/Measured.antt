-- inside: the least sizes of the parts of a tree, as one walk up the tree finds them.
use Rattle.std.specs.Prelude.{◌≡◌, ℕ, zero, suc, ◌<◌, List, [], ◌∷◌, ◌++◌, length, slice_index_or}
use Rattle.nv_layout.specs.Content.{Shape, leaf, group, Shapes, no_shapes, more_shapes, shapes_of}
use Rattle.nv_layout.specs.Least.{least, child_list}
use Rattle.nv_layout.specs.Sizing.{child_at}
use Rattle.nv_layout.specs.declared.nodes.Axis.{Axis}
use Rattle.nv_layout.specs.declared.nodes.Axis.TheVariants.{Across, Down}
use Rattle.nv_layout.specs.declared.nodes.Tree.{Tree}

-- the axis across one
abbrev pub other : Axis → Axis
other Across = Down
other Down = Across

-- the least sizes of children along an axis
abbrev pub leasts : Axis → Shapes → List ℕ
leasts a no_shapes = []
leasts a (more_shapes t ts) = least a t ∷ leasts a ts

-- the least sizes of the parts of a tree, each along the group that it stands in: those of the
-- children of a group, and then what is below each
abbrev mutual
  pub leasts_below : Shape → List ℕ
  leasts_below (leaf l) = []
  leasts_below (group a ts) = leasts a ts ++ leasts_below_all ts

  pub leasts_below_all : Shapes → List ℕ
  leasts_below_all no_shapes = []
  leasts_below_all (more_shapes t ts) = leasts_below t ++ leasts_below_all ts

-- numbers that begin with others
pub record IsLed (front all : List ℕ) : Type 0 where
  pub rest : List ℕ
  pub is : all ≡ front ++ rest

-- so many zeros
abbrev pub zeros : ℕ → List ℕ
zeros zero = []
zeros (suc n) = 0 ∷ zeros n

-- the least sizes of the first children of a group, as far as they are known
abbrev pub AreLeasts : Axis → List Tree → List ℕ → Type 0
AreLeasts a ts known =
    (i : ℕ)
    → i < length known
    → slice_index_or known i 0 ≡ (child_at (child_list a (shapes_of ts)) i).least
