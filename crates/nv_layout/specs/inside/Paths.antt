-- inside: the path to a window, from the root of its tree down.
use Rattle.std.specs.Prelude.{◌≡◌, ℕ, suc, ◌<◌, ℤ, true, false, if◌then◌else◌, List, [], ◌∷◌, length, take, slice_index_or}
use Rattle.nv_layout.specs.Content.{Shape, leaf, group, Shapes, no_shapes, more_shapes, shape_of, shapes_of}
use Rattle.nv_layout.specs.Changes.{holds, holds_among}
use Rattle.nv_layout.specs.declared.nodes.Tree.{Tree}

abbrev mutual
  -- for each group that it stands in, the place of the first child that holds it
  pub path_of : ℤ → Shape → List ℕ
  path_of w (leaf l) = []
  path_of w (group a ts) = path_among w 0 ts

  -- the path from a group on, of whose children the first stands at a place
  pub path_among : ℤ → ℕ → Shapes → List ℕ
  path_among w i no_shapes = []
  path_among w i (more_shapes t ts) =
      if holds w t then (i ∷ path_of w t) else path_among w (suc i) ts

-- the place of the first child that holds a window, and the path to it from there
pub record LeadsTo (w : ℤ) (ts : List Tree) (place : ℕ) (further : List ℕ) : Type 0 where
  pub within : place < length ts
  pub before : holds_among w (shapes_of (take place ts)) ≡ false
  pub here : (d : Tree) → holds w (shape_of (slice_index_or ts place d)) ≡ true
  pub on : (d : Tree) → further ≡ path_of w (shape_of (slice_index_or ts place d))
