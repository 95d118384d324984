-- The windows of a tree where they stand, and the area that they span (own rule).
use Rattle.std.specs.Prelude.{◌≡◌, ◌+◌, ◌-◌, List, [], ◌∷◌}
use Rattle.nv_layout.specs.Content.{Shape}
use Rattle.nv_layout.specs.Least.{NoneEmpty}
use Rattle.nv_layout.specs.Places.{rects, IsOnScreen, IsRoomy}
use Rattle.nv_layout.specs.declared.nodes.Placed.{Placed}
use Rattle.nv_layout.specs.declared.nodes.Rect.{Rect}

-- the rectangle of the first of some windows, and of the last one; without cells where there is
-- none
abbrev pub no_cells : Rect
no_cells = record { row = 0; col = 0; width = 0; height = 0 }

abbrev pub front_rect : List Placed → Rect
front_rect [] = no_cells
front_rect (p ∷ ps) = p.rect

abbrev pub back_rect : List Placed → Rect
back_rect [] = no_cells
back_rect (p ∷ []) = p.rect
back_rect (p ∷ (q ∷ ps)) = back_rect (q ∷ ps)

-- the area from the corner of the first one to that of the last one
abbrev pub spanned_area : List Placed → Rect
spanned_area ps = record {
  row = (front_rect ps).row;
  col = (front_rect ps).col;
  width = (back_rect ps).col + (back_rect ps).width - (front_rect ps).col;
  height = (back_rect ps).row + (back_rect ps).height - (front_rect ps).row;
}

-- windows stand as a tree divides the area that they span, which has room for it
pub record AreWindowsOf (t : Shape) (ps : List Placed) : Type 0 where
  pub filled : NoneEmpty t
  pub roomy : IsRoomy t (spanned_area ps)
  pub on_screen : IsOnScreen (spanned_area ps)
  pub placed : ps ≡ rects t (spanned_area ps)
