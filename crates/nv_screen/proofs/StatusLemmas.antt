-- Lemmas on status lines.
use Rattle.std.proofs.Common.{◌≡◌, ◌<◌, ◌≤◌, ◌+◌, ◌-◌, ℕ, zero, suc, Bool, true, false, cond, min, List, [], ◌∷◌, ◌++◌, length, take, drop, replicate, refl, sym, ap, ◌∙◌, arith}
use Rattle.std.proofs.lemmas.List.{drop-take, length-take, take-take}
use Rattle.nv_hl.specs.declared.attribute.Attr.{Attr}
use Rattle.nv_hl.specs.declared.cell.Cell.{Cell}
use Rattle.nv_hl.specs.Cells.{is_right_half, space}
use Rattle.nv_linedraw.specs.LineCells.{cells_in_one_row}
use Rattle.nv_screen.specs.Drawing.{begins_with_half, cells_of_width, cells_up_to, last_as_space}

-- ---- cells of a width

first_half : (cs : List Cell) → begins_with_half (take 1 cs) ≡ begins_with_half cs
first_half [] = refl
first_half (c ∷ cs) = refl

up_to_front : (w : ℕ) (cs : List Cell) → cells_up_to w (take (w + 1) cs) ≡ cells_up_to w cs
up_to_front w cs =
    let half : begins_with_half (drop w (take (w + 1) cs)) ≡ begins_with_half (drop w cs) =
    ap begins_with_half (drop-take w 1 cs) ∙ first_half (drop w cs) in
    let front : take w (take (w + 1) cs) ≡ take w cs = take-take w (w + 1) cs (omega arith) in
    λ i. cond (half i) (last_as_space (front i)) (front i)

last_keeps_length : (cs : List Cell) → length (last_as_space cs) ≡ length cs
last_keeps_length [] = refl
last_keeps_length (c ∷ []) = refl
last_keeps_length (c ∷ (d ∷ cs)) = ap suc (last_keeps_length (d ∷ cs))

either_length : (b : Bool) (cs : List Cell) → length (cond b (last_as_space cs) cs) ≡ length cs
either_length true cs = last_keeps_length cs
either_length false cs = refl

pub length_up_to : (w : ℕ) (cs : List Cell) → length (cells_up_to w cs) ≡ min w (length cs)
length_up_to w cs = either_length (begins_with_half (drop w cs)) (take w cs) ∙ length-take w cs

-- the first cells cut at the width, and filled
pub status_is : (w : ℕ) (attr : Attr) (cs first cut : List Cell) → first ≡ take (w + 1) cs → cut ≡ cells_up_to w first
    → cut ++ replicate (w - length cut) (space attr) ≡ cells_of_width w attr cs
status_is w attr cs first cut is cut_is =
    let same : cut ≡ cells_up_to w cs = cut_is ∙ ap (cells_up_to w) is ∙ up_to_front w cs in
    let left : w - length cut ≡ w - length cs = omega (arith, ap length same, length_up_to w cs) in
    λ i. same i ++ replicate (left i) (space attr)
