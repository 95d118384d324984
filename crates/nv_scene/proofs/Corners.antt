-- The windows of a tree span its area.
use Rattle.std.proofs.Common.{◌≡◌, ℕ, ◌+◌, ◌-◌, ◌<◌, ◌≤◌, List, [], ◌∷◌, ◌++◌, length, length-append, append-nil, refl, ap, sym, subst, ◌∙◌, arith}
use Rattle.nv_layout.specs.Content.{Shape, leaf, group, Shapes, no_shapes, more_shapes}
use Rattle.nv_layout.specs.Division.{first, behind}
use Rattle.nv_layout.specs.Least.{least_max, child_count, NoneEmpty}
use Rattle.nv_layout.specs.Places.{part, beyond, rects, rects_along, child_sizes, IsRoomy}
use Rattle.nv_layout.specs.declared.nodes.Axis.TheVariants.{Across, Down}
use Rattle.nv_layout.specs.declared.nodes.Placed.{Placed}
use Rattle.nv_layout.specs.declared.nodes.Rect.{Rect}
use Rattle.nv_layout.proofs.Divisions.{none_suffice}
use Rattle.nv_layout.proofs.Tilings.{Fill, fill_group, fill_first, fill_all, fill_behind}
use Rattle.nv_scene.specs.Separators.{back_rect, front_rect, spanned_area}

-- windows reach from the corner of an area to the other one
pub record Corners (area : Rect) (ps : List Placed) : Type 0 where
  pub some : 0 < length ps
  pub top : (front_rect ps).row ≡ area.row
  pub left : (front_rect ps).col ≡ area.col
  pub bottom : (back_rect ps).row + (back_rect ps).height ≡ area.row + area.height
  pub right : (back_rect ps).col + (back_rect ps).width ≡ area.col + area.width

front_append : (ps qs : List Placed) → 0 < length ps → front_rect (ps ++ qs) ≡ front_rect ps
front_append [] qs h = absurd (omega arith)
front_append (p ∷ ps) qs h = refl

back_append : (ps qs : List Placed) → 0 < length qs → back_rect (ps ++ qs) ≡ back_rect qs
back_append [] qs h = refl
back_append (p ∷ []) [] h = absurd (omega arith)
back_append (p ∷ []) (q ∷ qs) h = refl
back_append (p ∷ (r ∷ ps)) qs h = back_append (r ∷ ps) qs h

-- some windows and others behind them
joined_corners : (area here next : Rect) (ps qs : List Placed) → Corners here ps → Corners next qs → here.row ≡ area.row → here.col ≡ area.col
    → next.row + next.height ≡ area.row + area.height → next.col + next.width ≡ area.col + area.width → Corners area (ps ++ qs)
joined_corners area here next ps qs a b e f g h = record {
  some = omega (arith, length-append ps qs, a.some);
  top = ap (λ (r : Rect). r.row) (front_append ps qs a.some) ∙ a.top ∙ e;
  left = ap (λ (r : Rect). r.col) (front_append ps qs a.some) ∙ a.left ∙ f;
  bottom = ap (λ (r : Rect). r.row + r.height) (back_append ps qs b.some) ∙ b.bottom ∙ g;
  right = ap (λ (r : Rect). r.col + r.width) (back_append ps qs b.some) ∙ b.right ∙ h;
}

alone_corners : (area here : Rect) (ps : List Placed) → Corners here ps → here.row ≡ area.row → here.col ≡ area.col → here.row + here.height ≡ area.row + area.height
    → here.col + here.width ≡ area.col + area.width → Corners area (ps ++ [])
alone_corners area here ps a e f g h =
    subst (Corners area) (sym (append-nil ps)) (record { some = a.some; top = a.top ∙ e; left = a.left ∙ f; bottom = a.bottom ∙ g; right = a.right ∙ h })

mutual
  pub corners : (t : Shape) (area : Rect) → NoneEmpty t → IsRoomy t area → Corners area (rects t area)
  corners (leaf l) area whole roomy = record { some = omega arith; top = refl; left = refl; bottom = refl; right = refl }
  corners (group Across ts) area whole roomy = corners_across ts (child_sizes Across ts area) area (fill_group Across ts area whole roomy.wide) roomy.high whole.0
  corners (group Down ts) area whole roomy = corners_down ts (child_sizes Down ts area) area (fill_group Down ts area whole roomy.high) roomy.wide whole.0

  corners_across : (ts : Shapes) (sizes : List ℕ) (area : Rect) → Fill Across ts sizes area → least_max Down ts ≤ area.height → 1 ≤ child_count ts → Corners area (rects_along Across ts sizes area)
  corners_across no_shapes sizes area fill cross some = absurd (omega (arith, some))
  corners_across (more_shapes t no_shapes) sizes area fill cross some =
      let none = none_suffice (behind sizes) (fill_behind Across t no_shapes sizes area fill).enough in
      alone_corners area (part Across (first sizes) area) (rects t (part Across (first sizes) area))
      (corners t (part Across (first sizes) area) fill.each.0 (record { wide = fill_first Across t no_shapes sizes area fill; high = omega arith }))
      refl refl refl (omega (arith, fill_all Across t no_shapes sizes area fill, none))
  corners_across (more_shapes t (more_shapes u us)) sizes area fill cross some =
      let next : Rect = beyond Across (first sizes + 1) area in
      joined_corners area (part Across (first sizes) area) next (rects t (part Across (first sizes) area)) (rects_along Across (more_shapes u us) (behind sizes) next)
      (corners t (part Across (first sizes) area) fill.each.0 (record { wide = fill_first Across t (more_shapes u us) sizes area fill; high = omega arith }))
      (corners_across (more_shapes u us) (behind sizes) next (fill_behind Across t (more_shapes u us) sizes area fill) (omega arith) (omega arith))
      refl refl refl (omega (arith, fill_all Across t (more_shapes u us) sizes area fill))

  corners_down : (ts : Shapes) (sizes : List ℕ) (area : Rect) → Fill Down ts sizes area → least_max Across ts ≤ area.width → 1 ≤ child_count ts → Corners area (rects_along Down ts sizes area)
  corners_down no_shapes sizes area fill cross some = absurd (omega (arith, some))
  corners_down (more_shapes t no_shapes) sizes area fill cross some =
      let none = none_suffice (behind sizes) (fill_behind Down t no_shapes sizes area fill).enough in
      alone_corners area (part Down (first sizes) area) (rects t (part Down (first sizes) area))
      (corners t (part Down (first sizes) area) fill.each.0 (record { wide = omega arith; high = fill_first Down t no_shapes sizes area fill }))
      refl refl (omega (arith, fill_all Down t no_shapes sizes area fill, none)) refl
  corners_down (more_shapes t (more_shapes u us)) sizes area fill cross some =
      let next : Rect = beyond Down (first sizes + 0) area in
      joined_corners area (part Down (first sizes) area) next (rects t (part Down (first sizes) area)) (rects_along Down (more_shapes u us) (behind sizes) next)
      (corners t (part Down (first sizes) area) fill.each.0 (record { wide = omega arith; high = fill_first Down t (more_shapes u us) sizes area fill }))
      (corners_down (more_shapes u us) (behind sizes) next (fill_behind Down t (more_shapes u us) sizes area fill) (omega arith) (omega arith))
      refl refl (omega (arith, fill_all Down t (more_shapes u us) sizes area fill)) refl

span_is : (area : Rect) (ps : List Placed) → Corners area ps → spanned_area ps ≡ area
span_is area ps c =
    let wide : (back_rect ps).col + (back_rect ps).width - (front_rect ps).col ≡ area.width = omega (arith, c.right, c.left) in
    let high : (back_rect ps).row + (back_rect ps).height - (front_rect ps).row ≡ area.height = omega (arith, c.bottom, c.top) in
    λ i. record { row = c.top i; col = c.left i; width = wide i; height = high i }

pub rects_span : (t : Shape) (area : Rect) → NoneEmpty t → IsRoomy t area → spanned_area (rects t area) ≡ area
rects_span t area whole roomy = span_is area (rects t area) (corners t area whole roomy)
