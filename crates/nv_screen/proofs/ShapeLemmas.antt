-- The rows of a window: as many as it is high, each as wide as it is.
use Rattle.std.proofs.Common.{◌≡◌, ◌<◌, ◌≤◌, ◌+◌, ◌-◌, ◌*◌, ◌/◌, ℕ, zero, suc, Bool, true, false, cond, nat_le, min, List, [], ◌∷◌, ◌++◌, length, take, drop, replicate, set, refl, sym, ap, ◌∙◌, arith, length-append, length-drop}
use Rattle.std.specs.List.{AllByRecursion}
use Rattle.std.proofs.Math.Nat.{mul-le-mul_right, suc-mul}
use Rattle.std.proofs.lemmas.Bool.Decides.{nat_tests}
use Rattle.std.proofs.lemmas.List.{length-replicate, length-take}
use Rattle.nv_hl.specs.declared.attribute.Attr.{Attr}
use Rattle.nv_hl.specs.declared.cell.Cell.{Cell}
use Rattle.nv_hl.specs.Attributes.{empty_attr}
use Rattle.nv_hl.specs.Cells.{blank_rows, cell_of, space, with_cells, with_strip}
use Rattle.nv_linedraw.specs.declared.looks.Looks.{Looks}
use Rattle.nv_linedraw.proofs.WholeLemmas.{rows_are_whole}
use Rattle.nv_screen.specs.declared.scene.Bars.{Bars}
use Rattle.nv_screen.specs.declared.scene.Pane.{Pane}
use Rattle.nv_screen.specs.declared.scene.SceneLine.{SceneLine}
use Rattle.nv_screen.specs.Drawing.{begins_with_half, cells_of_width, cells_up_to, last_as_space, last_with_at, pane_rows, row_beyond, row_with_at, rows_of_cells, scene_cells, status_row, text_rows, with_rows}
use Rattle.nv_screen.specs.Sound.{IsDrawable}
use Rattle.nv_screen.proofs.TextLemmas.{rows_counted}

-- all rows have this width
abbrev pub Wide : ℕ → List (List Cell) → Type 0
Wide w rows = AllByRecursion (λ (r : List Cell). length r ≡ w) rows

length-last : (cs : List Cell) → length (last_as_space cs) ≡ length cs
length-last [] = refl
length-last (c ∷ []) = refl
length-last (c ∷ (d ∷ cs)) = ap suc (length-last (d ∷ cs))

length-choice : (b : Bool) (cs : List Cell) → length (cond b (last_as_space cs) cs) ≡ length cs
length-choice true cs = length-last cs
length-choice false cs = refl

length-up_to : (k : ℕ) (cs : List Cell) → length (cells_up_to k cs) ≡ min k (length cs)
length-up_to k cs = length-choice (begins_with_half (drop k cs)) (take k cs) ∙ length-take k cs

pub length-of_width : (w : ℕ) (attr : Attr) (cs : List Cell) → length (cells_of_width w attr cs) ≡ w
length-of_width w attr cs =
    omega (
      arith,
      length-append (cells_up_to w cs) (replicate (w - length cs) (space attr)),
      length-up_to w cs,
      length-replicate (w - length cs) (space attr),
    )

with_at-wide : (w : ℕ) (looks : Looks) (row : List Cell) → length row ≡ w → length (row_with_at w looks row) ≡ w
with_at-wide w looks row is =
    omega (
      arith,
      is,
      length-append (cells_up_to (w - min 3 w) row) (replicate (min 3 w) (cell_of (0x40 ∷ []) looks.nontext)),
      length-up_to (w - min 3 w) row,
      length-replicate (min 3 w) (cell_of (0x40 ∷ []) looks.nontext),
    )

cells-wide : (n w : ℕ) (cs : List Cell) → n * w ≤ length cs → Wide w (rows_of_cells n w cs)
cells-wide zero w cs le = tt
cells-wide (suc n) w cs le = (
  omega (arith, le, suc-mul n w, length-take w cs),
  cells-wide n w (drop w cs) (omega (arith, le, suc-mul n w, length-drop w cs)),
)

cells-high : (n w : ℕ) (cs : List Cell) → length (rows_of_cells n w cs) ≡ n
cells-high zero w cs = refl
cells-high (suc n) w cs = ap suc (cells-high n w (drop w cs))

last-high : (w : ℕ) (looks : Looks) (rs : List (List Cell)) → length (last_with_at w looks rs) ≡ length rs
last-high w looks [] = refl
last-high w looks (r ∷ []) = refl
last-high w looks (r ∷ (s ∷ rs)) = ap suc (last-high w looks (s ∷ rs))

last-wide : (w : ℕ) (looks : Looks) (rs : List (List Cell)) → Wide w rs → Wide w (last_with_at w looks rs)
last-wide w looks [] all = tt
last-wide w looks (r ∷ []) all = (with_at-wide w looks r all.0, tt)
last-wide w looks (r ∷ (s ∷ rs)) all = (all.0, last-wide w looks (s ∷ rs) all.1)

wide-append : (w : ℕ) (xs ys : List (List Cell)) → Wide w xs → Wide w ys → Wide w (xs ++ ys)
wide-append w [] ys all more = more
wide-append w (x ∷ xs) ys all more = (all.0, wide-append w xs ys all.1 more)

pub wide-replicate : (w n : ℕ) (r : List Cell) → length r ≡ w → Wide w (replicate n r)
wide-replicate w zero r is = tt
wide-replicate w (suc n) r is = (is, wide-replicate w n r is)

-- so many rows of this width
pub record Shaped (w n : ℕ) (rows : List (List Cell)) : Type 0 where
  pub high : length rows ≡ n
  pub wide : Wide w rows

module _ (w t : ℕ) (looks : Looks) (some : 0 < w) (tab : 0 < t) where
  beyond-wide : length (row_beyond w looks) ≡ w
  beyond-wide = omega (arith, some, length-replicate (w - 1) (space empty_attr))

  line-shaped : (b : Bool) (room n : ℕ) (cs : List Cell) (more : List (List Cell)) → nat_le n room ≡ b → length cs ≡ n * w
      → Shaped w (room - n) more
      → Shaped w room (cond b (rows_of_cells n w cs ++ more) (last_with_at w looks (rows_of_cells room w cs)))
  line-shaped true room n cs more le is rest =
      let fits : n ≤ room = grind (arith, nat_tests) in record {
        high = omega (arith, fits, length-append (rows_of_cells n w cs) more, cells-high n w cs, rest.high);
        wide = wide-append w (rows_of_cells n w cs) more (cells-wide n w cs (omega (arith, is))) rest.wide;
      }
  line-shaped false room n cs more le is rest =
      let past : room ≤ n = grind (arith, nat_tests) in record {
        high = last-high w looks (rows_of_cells room w cs) ∙ cells-high room w cs;
        wide = last-wide w looks (rows_of_cells room w cs) (cells-wide room w cs (omega (arith, is, mul-le-mul_right w past)));
      }

  text-shaped : (room : ℕ) (lines : List SceneLine) → Shaped w room (text_rows w t looks room lines)
  text-shaped room [] = record {
    high = length-replicate room (row_beyond w looks);
    wide = wide-replicate w room (row_beyond w looks) beyond-wide;
  }
  text-shaped room (line ∷ lines) =
      let cs = scene_cells w t looks line in
      let n = length cs / w in
      let count : length cs ≡ n * w =
      (rows_are_whole w t line.bytes line.spans.items looks some tab).0 ∙ ap (λ k. k * w) (sym (rows_counted w t looks line some tab)) in
      line-shaped (nat_le n room) room n cs (text_rows w t looks (room - n) lines) refl count (text-shaped (room - n) lines)

pub pane-shaped : (looks : Looks) (p : Pane) → IsDrawable p → Shaped p.rect.width p.rect.height (pane_rows looks p)
pane-shaped looks p d = text-shaped p.rect.width p.tabstop looks d.0 d.1 p.rect.height p.lines.items

pub status-wide : (bars : Bars) (p : Pane) → length (status_row bars p) ≡ p.rect.width
status-wide bars p = length-of_width p.rect.width _ _

-- ---- rows laid over a blank screen as high as some of them

over_row : (row cs : List Cell) → length row ≡ length cs → with_cells row 0 cs ≡ cs
over_row [] [] e = refl
over_row [] (c ∷ cs) e = absurd (omega (arith, e))
over_row (x ∷ xs) [] e = absurd (omega (arith, e))
over_row (x ∷ xs) (c ∷ cs) e = behind_first c xs 0 cs ∙ ap (λ r. c ∷ r) (over_row xs cs (omega (arith, e))) where
  behind_first : (y : Cell) (ys : List Cell) (k : ℕ) (ds : List Cell) → with_cells (y ∷ ys) (suc k) ds ≡ y ∷ with_cells ys k ds
  behind_first y ys k [] = refl
  behind_first y ys k (d ∷ ds) =
      let next : suc k + 1 ≡ suc (k + 1) = omega arith in
      ap (λ n. with_cells (y ∷ set ys k d) n ds) next ∙ behind_first y (set ys k d) (k + 1) ds

below_first : (y : List Cell) (ys : List (List Cell)) (k : ℕ) (rs : List (List Cell)) → with_rows (y ∷ ys) (suc k) 0 rs ≡ y ∷ with_rows ys k 0 rs
below_first y ys k [] = refl
below_first y ys k (r ∷ rs) =
    let next : suc k + 1 ≡ suc (k + 1) = omega arith in
    ap (λ n. with_rows (y ∷ with_strip ys k 0 r) n 0 rs) next ∙ below_first y (with_strip ys k 0 r) (k + 1) rs

no_rows : (k : ℕ) (rs : List (List Cell)) → with_rows [] k 0 rs ≡ []
no_rows k [] = refl
no_rows k (r ∷ rs) = no_rows (k + 1) rs

pub over_blank : (w n : ℕ) (rs : List (List Cell)) → Wide w rs → n ≤ length rs → with_rows (blank_rows w n) 0 0 rs ≡ take n rs
over_blank w zero [] all le = refl
over_blank w (suc n) [] all le = absurd (omega (arith, le))
over_blank w zero (r ∷ rs) all le = no_rows 1 rs
over_blank w (suc n) (r ∷ rs) all le =
    let row = replicate w (space empty_attr) in
    ap (λ x. with_rows (x ∷ blank_rows w n) 1 0 rs) (over_row row r (omega (arith, all.0, length-replicate w (space empty_attr))))
    ∙ below_first r (blank_rows w n) 0 rs
    ∙ ap (λ x. r ∷ x) (over_blank w n rs all.1 (omega (arith, le)))
