-- The windows that rectangles name.
use Rattle.std.proofs.Common.{◌≡◌, ℕ, ◌+◌, List, [], ◌∷◌, ◌++◌, length, map, refl, ap, sym, ◌∙◌}
use Rattle.std.proofs.lemmas.List.{length-map}
use Rattle.nv_layout.specs.Content.{Shape, leaf, group, Shapes, no_shapes, more_shapes}
use Rattle.nv_layout.specs.Division.{first, behind}
use Rattle.nv_layout.specs.Least.{gap, leaves_of, leaves_in}
use Rattle.nv_layout.specs.Places.{part, beyond, rects, rects_along, child_sizes}
use Rattle.nv_layout.specs.Tiling.{windows, RectsNameWindows}
use Rattle.nv_layout.specs.declared.nodes.Axis.{Axis}
use Rattle.nv_layout.specs.declared.nodes.Leaf.{Leaf}
use Rattle.nv_layout.specs.declared.nodes.Placed.{Placed}
use Rattle.nv_layout.specs.declared.nodes.Rect.{Rect}

-- the windows of rectangles
windows-append : (ps qs : List Placed) → map (λ (p : Placed). p.window) (ps ++ qs) ≡ map (λ (p : Placed). p.window) ps ++ map (λ (p : Placed). p.window) qs
windows-append [] qs = refl
windows-append (p ∷ ps) qs = ap (λ ws. p.window ∷ ws) (windows-append ps qs)

names-append : (ls ms : List Leaf) → windows (ls ++ ms) ≡ windows ls ++ windows ms
names-append [] ms = refl
names-append (l ∷ ls) ms = ap (λ ws. l.window ∷ ws) (names-append ls ms)

mutual
  named : (t : Shape) (area : Rect) → map (λ (p : Placed). p.window) (rects t area) ≡ windows (leaves_of t)
  named (leaf l) area = refl
  named (group a ts) area = named_along a ts (child_sizes a ts area) area

  named_along : (a : Axis) (ts : Shapes) (sizes : List ℕ) (area : Rect) → map (λ (p : Placed). p.window) (rects_along a ts sizes area) ≡ windows (leaves_in ts)
  named_along a no_shapes sizes area = refl
  named_along a (more_shapes t ts) sizes area =
      windows-append (rects t (part a (first sizes) area)) (rects_along a ts (behind sizes) (beyond a (first sizes + gap a ts) area))
      ∙ ap (λ ws. ws ++ map (λ (p : Placed). p.window) (rects_along a ts (behind sizes) (beyond a (first sizes + gap a ts) area))) (named t (part a (first sizes) area))
      ∙ ap (λ ws. windows (leaves_of t) ++ ws) (named_along a ts (behind sizes) (beyond a (first sizes + gap a ts) area))
      ∙ sym (names-append (leaves_of t) (leaves_in ts))

pub rects_name_windows : RectsNameWindows
rects_name_windows = named

pub length-rects : (t : Shape) (area : Rect) → length (rects t area) ≡ length (leaves_of t)
length-rects t area = sym (length-map (rects t area) (λ (p : Placed). p.window)) ∙ ap length (named t area) ∙ length-map (leaves_of t) (λ (l : Leaf). l.window)
