-- The separators of a group, child by child.
use Rattle.std.proofs.Common.{◌≡◌, ℕ, zero, suc, ◌+◌, ◌-◌, ◌<◌, ◌≤◌, ◌^◌, List, [], ◌∷◌, ◌++◌, length, take, drop, get_or, append_assoc, append-nil, refl, ap, sym, subst, ◌∙◌, arith}
use Rattle.std.proofs.Math.Seq.{take-append_seam, drop-append_seam, take-length}
use Rattle.std.proofs.lemmas.List.{take-append-drop, length-drop}
use Rattle.nv_layout.specs.Content.{Shape, group, Shapes, no_shapes, more_shapes, shape_of, shapes_of}
use Rattle.nv_layout.specs.Division.{first, behind}
use Rattle.nv_layout.specs.Least.{least_max, leaves_of, gap, NoneEmpty}
use Rattle.nv_layout.specs.Places.{extent, part, beyond, rects, rects_along, separator, separators, separators_along, child_sizes, IsOnScreen, IsRoomy}
use Rattle.nv_layout.specs.declared.nodes.Axis.{Axis}
use Rattle.nv_layout.specs.declared.nodes.Axis.TheVariants.{Across, Down}
use Rattle.nv_layout.specs.declared.nodes.Placed.{Placed}
use Rattle.nv_layout.specs.declared.nodes.Rect.{Rect}
use Rattle.nv_layout.specs.declared.nodes.Tree.{Tree}
use Rattle.nv_layout.proofs.Contents.{shapes_of-at, shapes_of-end}
use Rattle.nv_layout.proofs.Tilings.{Fill, fill_group, fill_first, fill_all, fill_behind}
use Rattle.nv_layout.proofs.Naming.{length-rects}
use Rattle.nv_windows.specs.Rooms.{screen_area}
use Rattle.nv_scene.specs.Separators.{AreWindowsOf, back_rect, front_rect, spanned_area}
use Rattle.nv_scene.specs.inside.Parting.{HasSpan, column_behind, separator_between, windows_behind, windows_within}
use Rattle.nv_scene.proofs.Corners.{Corners, corners, rects_span}

-- ---- windows of a tree
pub area_on_screen : (width height : ℕ) → width < 2 ^ 16 → height < 2 ^ 16 → IsOnScreen (screen_area width height)
area_on_screen width height wide high = record { right = omega (arith, wide); bottom = omega (arith, high) }

pub windows_of : (t : Shape) (area : Rect) (ps : List Placed) → NoneEmpty t → IsRoomy t area → IsOnScreen area → ps ≡ rects t area → AreWindowsOf t ps
windows_of t area ps whole roomy screen e =
    let span : area ≡ spanned_area ps = sym (ap spanned_area e ∙ rects_span t area whole roomy) in record {
      filled = whole;
      roomy = subst (IsRoomy t) span roomy;
      on_screen = subst IsOnScreen span screen;
      placed = e ∙ ap (rects t) span;
    }

pub span_of : (t : Shape) (area : Rect) (ps : List Placed) → NoneEmpty t → IsRoomy t area → ps ≡ rects t area → spanned_area ps ≡ area
span_of t area ps whole roomy e = ap spanned_area e ∙ rects_span t area whole roomy

pub has_span : (t : Shape) (ps : List Placed) → AreWindowsOf t ps → HasSpan ps
has_span t ps are =
    let c : Corners (spanned_area ps) ps =
    subst (Corners (spanned_area ps)) (sym are.placed) (corners t (spanned_area ps) are.filled are.roomy) in record {
      some = c.some;
      left = omega (arith, c.left, c.right);
      top = omega (arith, c.top, c.bottom);
      right = omega (arith, c.right, are.on_screen.right);
      bottom = omega (arith, c.bottom, are.on_screen.bottom);
    }

as_many : (t : Shape) (ps : List Placed) → AreWindowsOf t ps → length ps ≡ length (leaves_of t)
as_many t ps are = ap (length {A = Placed}) are.placed ∙ length-rects t (spanned_area ps)

-- windows of a tree with no others behind them
pub all_within : (t : Shape) (ps : List Placed) → AreWindowsOf t ps → windows_within t ps ≡ ps
all_within t ps are = ap (λ (n : ℕ). take n ps) (sym (as_many t ps are)) ∙ take-length ps

-- and with others: they are as many as the tree has
pub many_within : (t : Shape) (ps : List Placed) → AreWindowsOf t (windows_within t ps) → length (leaves_of t) ≤ length ps
many_within t ps are = omega (arith, as_many t (windows_within t ps) are, taken_most (length (leaves_of t)) ps)
  where
    taken_most : (n : ℕ) (qs : List Placed) → length (take n qs) ≤ length qs
    taken_most zero qs = omega arith
    taken_most (suc n) [] = omega arith
    taken_most (suc n) (q ∷ qs) = let rest = taken_most n qs in omega (arith, rest)

-- ---- the first and the last of some windows
pub front_is : (ps : List Placed) (d : Placed) → 0 < length ps → (get_or ps 0 d).rect ≡ front_rect ps
front_is [] d h = absurd (omega arith)
front_is (p ∷ ps) d h = refl

pub back_is : (ps : List Placed) (d : Placed) → 0 < length ps → (get_or ps (length ps - 1) d).rect ≡ back_rect ps
back_is [] d h = absurd (omega arith)
back_is (p ∷ []) d h = refl
back_is (p ∷ (q ∷ ps)) d h =
    let last : length (p ∷ (q ∷ ps)) - 1 ≡ suc (length (q ∷ ps) - 1) = omega arith in
    ap (λ (n : ℕ). (get_or (p ∷ (q ∷ ps)) n d).rect) last ∙ back_is (q ∷ ps) d (omega arith)

pub column_is : (ps : List Placed) (f b : Rect) → HasSpan ps → f ≡ front_rect ps → b ≡ back_rect ps
    → record { row = f.row; col = b.col + b.width; width = 1; height = b.row + b.height - f.row } ≡ column_behind (spanned_area ps)
column_is ps f b has x y =
    let end : b.col + b.width ≡ (front_rect ps).col + ((back_rect ps).col + (back_rect ps).width - (front_rect ps).col) =
    omega (arith, ap (λ (r : Rect). r.col + r.width) y, has.left) in
    λ i. record { row = (x i).row; col = end i; width = 1; height = (y i).row + (y i).height - (x i).row }

-- ---- children one after another
abbrev FitsAcross : Axis → Shapes → Rect → Type 0
FitsAcross Across ts rest = least_max Down ts ≤ rest.height
FitsAcross Down ts rest = least_max Across ts ≤ rest.width

-- the windows of the children that are left and others at the end, the separators found so far, and
-- all of them
pub record Parting (a : Axis) (ts : Shapes) (left end : List Placed) (found all : List Rect) : Type 0 where
  pub sizes : List ℕ
  pub rest : Rect
  pub fill : Fill a ts sizes rest
  pub cross : FitsAcross a ts rest
  pub on_screen : IsOnScreen rest
  pub placed : left ≡ rects_along a ts sizes rest ++ end
  pub found_are : found ++ separators_along a ts sizes rest ≡ all

fill_of : (a : Axis) (ts : Shapes) (area : Rect) → NoneEmpty (group a ts) → IsRoomy (group a ts) area → Fill a ts (child_sizes a ts area) area × FitsAcross a ts area
fill_of Across ts area whole roomy = (fill_group Across ts area whole roomy.wide, roomy.high)
fill_of Down ts area whole roomy = (fill_group Down ts area whole roomy.high, roomy.wide)

pub parting_start : (a : Axis) (ts : Shapes) (ps : List Placed) (found : List Rect) → AreWindowsOf (group a ts) (windows_within (group a ts) ps)
    → Parting a ts ps (windows_behind (group a ts) ps) found (found ++ separators (group a ts) (spanned_area (windows_within (group a ts) ps)))
parting_start a ts ps found are =
    let area : Rect = spanned_area (windows_within (group a ts) ps) in
    let fills = fill_of a ts area are.filled are.roomy in record {
      sizes = child_sizes a ts area;
      rest = area;
      fill = fills.0;
      cross = fills.1;
      on_screen = are.on_screen;
      placed =
          sym (take-append-drop (length (leaves_of (group a ts))) ps)
          ∙ ap (λ (qs : List Placed). qs ++ windows_behind (group a ts) ps) are.placed;
      found_are = refl;
    }

roomy_here : (a : Axis) (t : Shape) (ts : Shapes) (sizes : List ℕ) (rest : Rect) → Fill a (more_shapes t ts) sizes rest → FitsAcross a (more_shapes t ts) rest
    → IsRoomy t (part a (first sizes) rest)
roomy_here Across t ts sizes rest fill cross = record { wide = fill_first Across t ts sizes rest fill; high = omega (arith, cross) }
roomy_here Down t ts sizes rest fill cross = record { wide = omega (arith, cross); high = fill_first Down t ts sizes rest fill }

cross_behind : (a : Axis) (t : Shape) (ts : Shapes) (n : ℕ) (rest : Rect) → FitsAcross a (more_shapes t ts) rest → FitsAcross a ts (beyond a n rest)
cross_behind Across t ts n rest cross = omega (arith, cross)
cross_behind Down t ts n rest cross = omega (arith, cross)

screen_here : (a : Axis) (n : ℕ) (rest : Rect) → n ≤ extent a rest → IsOnScreen rest → IsOnScreen (part a n rest)
screen_here Across n rest h k = record { right = omega (arith, k.right); bottom = k.bottom }
screen_here Down n rest h k = record { right = k.right; bottom = omega (arith, k.bottom) }

screen_behind : (a : Axis) (n : ℕ) (rest : Rect) → n ≤ extent a rest → IsOnScreen rest → IsOnScreen (beyond a n rest)
screen_behind Across n rest h k = record { right = omega (arith, k.right); bottom = k.bottom }
screen_behind Down n rest h k = record { right = k.right; bottom = omega (arith, k.bottom) }

cut_front : {X : Type 0} (xs ys : List X) → take (length xs) (xs ++ ys) ≡ xs
cut_front [] ys = refl
cut_front (x ∷ xs) ys = ap (λ zs. x ∷ zs) (cut_front xs ys)

cut_back : {X : Type 0} (xs ys : List X) → drop (length xs) (xs ++ ys) ≡ ys
cut_back [] ys = refl
cut_back (x ∷ xs) ys = cut_back xs ys

-- what stands between a child and those that follow it
between_is : (a : Axis) (ts : Shapes) (n : ℕ) (rest : Rect) (here : List Placed) → spanned_area here ≡ part a n rest
    → separator a ts (beyond a n rest) ≡ separator_between a here ts
between_is Across no_shapes n rest here e = refl
between_is Across (more_shapes t ts) n rest here e = sym (ap (λ (r : Rect). column_behind r ∷ []) e)
between_is Down ts n rest here e = refl

-- a column, where children follow in a row
pub between_followed : (a : Axis) (ts : List Tree) (i : ℕ) (here : List Placed) (column : Rect) → a ≡ Across → i < length ts → column ≡ column_behind (spanned_area here)
    → column ∷ [] ≡ separator_between a here (shapes_of (drop i ts))
between_followed a [] i here column e h is = absurd (omega arith)
between_followed a (t ∷ ts) i here column e h is =
    ap (λ (r : Rect). r ∷ []) is ∙ sym (ap (λ b. separator_between b here (shapes_of (drop i (t ∷ ts)))) e ∙ ap (separator_between Across here) (shapes_of-at (t ∷ ts) i t h))

-- one child
pub record Child (a : Axis) (t : Shape) (ts : Shapes) (here others end : List Placed) (found all : List Rect) : Type 0 where
  pub windows : AreWindowsOf t here
  pub next : (between : List Rect) → between ≡ (found ++ separators t (spanned_area here)) ++ separator_between a here ts → Parting a ts others end between all

parting_step : (a : Axis) (t : Shape) (ts : Shapes) (left end : List Placed) (found all : List Rect) → Parting a (more_shapes t ts) left end found all
    → Child a t ts (windows_within t left) (windows_behind t left) end found all
parting_step a t ts left end found all p =
    let n : ℕ = first p.sizes in
    let area : Rect = part a n p.rest in
    let rest : Rect = beyond a (n + gap a ts) p.rest in
    let behind_it : List Placed = rects_along a ts (behind p.sizes) rest ++ end in
    let here : List Placed = windows_within t left in
    let whole = fill_all a t ts p.sizes p.rest p.fill in
    let roomy = roomy_here a t ts p.sizes p.rest p.fill p.cross in
    let many : length (leaves_of t) ≡ length (rects t area) = sym (length-rects t area) in
    let placed : left ≡ rects t area ++ behind_it = p.placed ∙ append_assoc (rects t area) (rects_along a ts (behind p.sizes) rest) end in
    let here_is : here ≡ rects t area = (λ i. take (many i) (placed i)) ∙ take-append_seam (rects t area) behind_it in
    let span : spanned_area here ≡ area = span_of t area here p.fill.each.0 roomy here_is in record {
      windows = windows_of t area here p.fill.each.0 roomy (screen_here a n p.rest (omega (arith, whole)) p.on_screen) here_is;
      next = λ between is. record {
        sizes = behind p.sizes;
        rest = rest;
        fill = fill_behind a t ts p.sizes p.rest p.fill;
        cross = cross_behind a t ts (n + gap a ts) p.rest p.cross;
        on_screen = screen_behind a (n + gap a ts) p.rest (omega (arith, whole)) p.on_screen;
        placed = (λ i. drop (many i) (placed i)) ∙ drop-append_seam (rects t area) behind_it;
        found_are =
            ap (λ (rs : List Rect). rs ++ separators_along a ts (behind p.sizes) rest)
            (is ∙ (λ i. (found ++ separators t (span i)) ++ sym (between_is a ts n p.rest here span) i))
            ∙ append_assoc (found ++ separators t area) (separator a ts (beyond a n p.rest)) (separators_along a ts (behind p.sizes) rest)
            ∙ append_assoc found (separators t area) (separator a ts (beyond a n p.rest) ++ separators_along a ts (behind p.sizes) rest)
            ∙ ap (λ (rs : List Rect). found ++ rs)
            (sym (append_assoc (separators t area) (separator a ts (beyond a n p.rest)) (separators_along a ts (behind p.sizes) rest)))
            ∙ p.found_are;
      };
    }

-- a child of a list of trees
pub child_of_trees : (a : Axis) (ts : List Tree) (i : ℕ) (t : Tree) (left end : List Placed) (found all : List Rect) → i < length ts → t ≡ get_or ts i t
    → Parting a (shapes_of (drop i ts)) left end found all
    → Child a (shape_of t) (shapes_of (drop (i + 1) ts)) (windows_within (shape_of t) left) (windows_behind (shape_of t) left) end found all
child_of_trees a ts i t left end found all h is p =
    let shapes : shapes_of (drop i ts) ≡ more_shapes (shape_of t) (shapes_of (drop (i + 1) ts)) =
    shapes_of-at ts i t h ∙ ap (λ (u : Tree). more_shapes (shape_of u) (shapes_of (drop (i + 1) ts))) (sym is) in
    parting_step a (shape_of t) (shapes_of (drop (i + 1) ts)) left end found all (subst (λ (ss : Shapes). Parting a ss left end found all) shapes p)

-- where its windows end
pub child_cut : (t : Shape) (left others here : List Placed) → AreWindowsOf t (windows_within t left) → others ≡ windows_behind t left
    → here ≡ take (length left - length others) left → here ≡ windows_within t left
child_cut t left others here are is cut =
    let many : length left - length others ≡ length (leaves_of t) =
    omega (arith, many_within t left are, ap (length {A = Placed}) is, length-drop (length (leaves_of t)) left) in
    cut ∙ ap (λ (n : ℕ). take n left) many

-- and what is left behind it
pub child_next : (a : Axis) (t : Shape) (ts : Shapes) (left others here end : List Placed) (found between all : List Rect)
    → Child a t ts (windows_within t left) (windows_behind t left) end found all → others ≡ windows_behind t left → here ≡ windows_within t left
    → between ≡ (found ++ separators t (spanned_area (windows_within t left))) ++ separator_between a here ts → Parting a ts others end between all
child_next a t ts left others here end found between all child o h is =
    subst (λ (ps : List Placed). Parting a ts ps end between all) (sym o)
    (child.next between (is ∙ ap (λ (ps : List Placed). (found ++ separators t (spanned_area (windows_within t left))) ++ separator_between a ps ts) h))

pub parting_end : (a : Axis) (ts : List Tree) (i : ℕ) (left end : List Placed) (found all : List Rect) → length ts ≤ i
    → Parting a (shapes_of (drop i ts)) left end found all → (left ≡ end) × (found ≡ all)
parting_end a ts i left end found all h p =
    let none = shapes_of-end ts i h in (
      p.placed ∙ ap (λ (ss : Shapes). rects_along a ss p.sizes p.rest ++ end) none,
      sym (append-nil found) ∙ ap (λ (ss : Shapes). found ++ separators_along a ss p.sizes p.rest) (sym none) ∙ p.found_are,
    )
