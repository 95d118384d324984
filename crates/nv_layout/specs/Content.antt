-- What a tree holds, without capacities and allocators.
use Rattle.std.specs.Prelude.{List, [], ◌∷◌, map}
use Rattle.nv_layout.specs.declared.nodes.Axis.{Axis}
use Rattle.nv_layout.specs.declared.nodes.Axis.TheVariants.{Across, Down}
use Rattle.nv_layout.specs.declared.nodes.Leaf.{Leaf}
use Rattle.nv_layout.specs.declared.nodes.Tree.{Tree}
use Rattle.nv_layout.specs.declared.nodes.Tree.TheOpen.{Tree-F}
use Rattle.nv_layout.specs.declared.nodes.Tree.TheFolds.{fold-Tree}

-- a window, or shapes that follow one another: a Row across, a Column down (own; `nvim_open_win`,
-- key `split`)
mutual
  pub data Shape : Type 0 where
    leaf : Leaf → Shape
    group : Axis → Shapes → Shape

  pub data Shapes : Type 0 where
    no_shapes : Shapes
    more_shapes : Shape → Shapes → Shapes

-- a list as shapes
abbrev pub shapes_from : List Shape → Shapes
shapes_from [] = no_shapes
shapes_from (t ∷ ts) = more_shapes t (shapes_from ts)

-- one level, with the shape of each child in its place
abbrev pub shape_step : Tree-F Shape → Shape
shape_step (Tree-F.Leaf l) = leaf l
shape_step (Tree-F.Row ts) = group Across (shapes_from ts.items)
shape_step (Tree-F.Column ts) = group Down (shapes_from ts.items)

-- the shape that a tree has
abbrev pub shape_of : Tree → Shape
shape_of = fold-Tree Shape shape_step

-- the shapes of some trees, in order
abbrev pub shapes_of : List Tree → Shapes
shapes_of ts = shapes_from (map shape_of ts)
