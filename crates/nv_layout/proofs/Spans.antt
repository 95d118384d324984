-- Cells of an area that is cut in two.
use Rattle.std.proofs.Common.{◌≡◌, ℕ, ◌+◌, ◌-◌, ◌*◌, ◌≤◌, List, [], ◌∷◌, ◌++◌, refl, ap, arith, add_assoc, add-zero, ◌∙◌}
use Rattle.std.proofs.lemmas.Bool.Decides.{nat_tests}
use Rattle.nv_layout.specs.Least.{gap}
use Rattle.nv_layout.specs.Content.{Shapes, no_shapes, more_shapes}
use Rattle.nv_layout.specs.Places.{extent, part, beyond, separator}
use Rattle.nv_layout.specs.Tiling.{in_span, in_rect, times_in, areas}
use Rattle.nv_layout.specs.declared.nodes.Axis.{Axis}
use Rattle.nv_layout.specs.declared.nodes.Axis.TheVariants.{Across, Down}
use Rattle.nv_layout.specs.declared.nodes.Placed.{Placed}
use Rattle.nv_layout.specs.declared.nodes.Rect.{Rect}

in_span-cut : (from size n x : ℕ) → n ≤ size → in_span from size x ≡ in_span from n x + in_span (from + n) (size - n) x
in_span-cut from size n x h = grind (arith, nat_tests)

in_span-none : (from x : ℕ) → in_span from 0 x ≡ 0
in_span-none from x = grind (arith, nat_tests)

along_cut : (r c a b : ℕ) → c ≡ a + b → r * c ≡ r * a + r * b
along_cut r c a b e = rw e (omega arith)

down_cut : (r c a b : ℕ) → r ≡ a + b → r * c ≡ a * c + b * c
down_cut r c a b e = rw e (omega arith)

pub in_rect-cut : (a : Axis) (n : ℕ) (area : Rect) (row col : ℕ) → n ≤ extent a area → in_rect row col area ≡ in_rect row col (part a n area) + in_rect row col (beyond a n area)
in_rect-cut Across n area row col h =
    along_cut (in_span area.row area.height row) (in_span area.col area.width col) (in_span area.col n col) (in_span (area.col + n) (area.width - n) col) (in_span-cut area.col area.width n col h)
in_rect-cut Down n area row col h =
    down_cut (in_span area.row area.height row) (in_span area.col area.width col) (in_span area.row n row) (in_span (area.row + n) (area.height - n) row) (in_span-cut area.row area.height n row h)

no_columns : (r c : ℕ) → c ≡ 0 → r * c ≡ 0
no_columns r c e = rw e (omega arith)

no_rows : (r c : ℕ) → r ≡ 0 → r * c ≡ 0
no_rows r c e = rw e (omega arith)

pub in_rect-none : (a : Axis) (area : Rect) (row col : ℕ) → extent a area ≡ 0 → in_rect row col area ≡ 0
in_rect-none Across area row col e = no_columns (in_span area.row area.height row) (in_span area.col area.width col) (rw e (in_span-none area.col col))
in_rect-none Down area row col e = no_rows (in_span area.row area.height row) (in_span area.col area.width col) (rw e (in_span-none area.row row))

pub times_in-append : (row col : ℕ) (rs ss : List Rect) → times_in row col (rs ++ ss) ≡ times_in row col rs + times_in row col ss
times_in-append row col [] ss = omega arith
times_in-append row col (r ∷ rs) ss = omega (arith, times_in-append row col rs ss)

pub areas-append : (ps qs : List Placed) → areas (ps ++ qs) ≡ areas ps ++ areas qs
areas-append [] qs = refl
areas-append (p ∷ ps) qs = ap (λ rs. p.rect ∷ rs) (areas-append ps qs)

-- behind one more cell
along_same : (r from size n x : ℕ) → r * in_span (from + n + 1) (size - n - 1) x ≡ r * in_span (from + (n + 1)) (size - (n + 1)) x
along_same r from size n x = ap (λ s. r * in_span s (size - n - 1) x) (add_assoc from n 1) ∙ ap (λ s. r * in_span (from + (n + 1)) s x) (less size n)
  where
    less : (size n : ℕ) → size - n - 1 ≡ size - (n + 1)
    less size n = omega arith

plain_cut : (all front back : ℕ) → all ≡ front + back → all ≡ front + (0 + back)
plain_cut all front back e = omega arith

joined_cut : (all front back apart behind behind' : ℕ) → all ≡ front + back → back ≡ apart + behind → behind ≡ behind' → all ≡ front + (apart + 0 + behind')
joined_cut all front back apart behind behind' e f g = omega arith

pub separator_cut : (a : Axis) (ts : Shapes) (n : ℕ) (area : Rect) (row col : ℕ) → n + gap a ts ≤ extent a area → in_rect row col area ≡ in_rect row col (part a n area) + (times_in row col (separator a ts (beyond a n area)) + in_rect row col (beyond a (n + gap a ts) area))
separator_cut Across no_shapes n area row col h = rw add-zero (plain_cut _ _ _ (in_rect-cut Across n area row col (omega arith)))
separator_cut Across (more_shapes t ts) n area row col h =
    let front : in_rect row col area ≡ in_rect row col (part Across n area) + in_rect row col (beyond Across n area) = in_rect-cut Across n area row col (omega arith) in
    let back : in_rect row col (beyond Across n area) ≡ in_rect row col (part Across 1 (beyond Across n area)) + in_rect row col (beyond Across 1 (beyond Across n area)) = in_rect-cut Across 1 (beyond Across n area) row col (omega arith) in
    let same : in_rect row col (beyond Across 1 (beyond Across n area)) ≡ in_rect row col (beyond Across (n + 1) area) = along_same (in_span area.row area.height row) area.col area.width n col in
    joined_cut _ _ _ _ _ _ front back same
separator_cut Down ts n area row col h = rw add-zero (plain_cut _ _ _ (in_rect-cut Down n area row col (omega arith)))
