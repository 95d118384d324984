-- inside: the separators between the children of a group. Only private contracts cite this.
use Rattle.std.specs.Prelude.{◌+◌, ◌^◌, ◌<◌, ◌≤◌, List, [], ◌∷◌, length, take, drop}
use Rattle.nv_layout.specs.Content.{Shape, Shapes, no_shapes, more_shapes}
use Rattle.nv_layout.specs.Least.{leaves_of}
use Rattle.nv_layout.specs.declared.nodes.Axis.{Axis}
use Rattle.nv_layout.specs.declared.nodes.Axis.TheVariants.{Across, Down}
use Rattle.nv_layout.specs.declared.nodes.Placed.{Placed}
use Rattle.nv_layout.specs.declared.nodes.Rect.{Rect}
use Rattle.nv_scene.specs.Separators.{back_rect, front_rect, spanned_area}

-- the column behind an area
abbrev pub column_behind : Rect → Rect
column_behind area = record area { col = area.col + area.width; width = 1 }

-- the separator between the windows of a child and the children that follow it along an axis
abbrev pub separator_between : Axis → List Placed → Shapes → List Rect
separator_between Across here no_shapes = []
separator_between Across here (more_shapes t ts) = column_behind (spanned_area here) ∷ []
separator_between Down here ts = []

-- windows that begin with those of a tree: the tree's, and those that follow them
abbrev pub windows_within : Shape → List Placed → List Placed
windows_within t ps = take (length (leaves_of t)) ps

abbrev pub windows_behind : Shape → List Placed → List Placed
windows_behind t ps = drop (length (leaves_of t)) ps

-- windows whose corners are numbers of 32 bits, that of the last one not before that of the first
pub record HasSpan (ps : List Placed) : Type 0 where
  pub some : 0 < length ps
  pub left : (front_rect ps).col ≤ (back_rect ps).col + (back_rect ps).width
  pub top : (front_rect ps).row ≤ (back_rect ps).row + (back_rect ps).height
  pub right : (back_rect ps).col + (back_rect ps).width < 2 ^ 32
  pub bottom : (back_rect ps).row + (back_rect ps).height < 2 ^ 32
