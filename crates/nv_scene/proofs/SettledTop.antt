-- The first row of a window, looked for from the cursor upwards.
use Rattle.std.proofs.Common.{◌≡◌, ℕ, zero, suc, ◌+◌, ◌-◌, ◌<◌, ◌≤◌, Bool, true, false, cond, min, nat_lt, List, [], ◌∷◌, length, map, get_or, refl, sym, ap, ◌∙◌, arith}
use Rattle.std.proofs.lemmas.Bool.Decides.{nat_tests}
use Rattle.std.proofs.lemmas.List.{length-map}
use Rattle.nv_places.specs.Flat.{line_at}
use Rattle.nv_scene.specs.Settling.{first_fitting, settled_top}
use Rattle.nv_scene.proofs.Fitting.{failing, fitting, no_fewer, none_more, one_more, rows_from}

height_at : (f : List ℕ → ℕ) (text : List (List ℕ)) (k : ℕ) → k < length text → f (line_at text k) ≡ get_or (map f text) k (f (line_at text k))
height_at f [] k h = absurd (omega arith)
height_at f (line ∷ lines) zero h = refl
height_at f (line ∷ lines) (suc k) h = height_at f lines k (omega arith)

not_before : (cursor top : ℕ) → top ≤ cursor → nat_lt cursor top ≡ false
not_before cursor top h = grind (arith, nat_tests)

as_fitting : (rows : ℕ) (hs : List ℕ) (cursor top : ℕ) → top ≤ cursor → settled_top rows hs cursor top ≡ first_fitting rows hs cursor (cursor - top)
as_fitting rows hs cursor top h = ap (λ (t : Bool). cond t cursor (first_fitting rows hs cursor (cursor - top))) (not_before cursor top h)

-- a cursor in the first row, or before it
pub top_front : (rows : ℕ) (hs : List ℕ) (cursor top : ℕ) → cursor ≤ top → cursor ≡ settled_top rows hs cursor top
top_front rows hs cursor top h = by (nat_lt cursor top)
  where
    none : cursor - top ≡ 0
    none = omega (arith, h)

    by : (t : Bool) → cursor ≡ cond t cursor (first_fitting rows hs cursor (cursor - top))
    by true = refl
    by false = sym (ap (first_fitting rows hs cursor) none)

over_most : (left rows h : ℕ) → rows ≡ min (left + 1) h → left < rows → left < h
over_most left rows h e over = grind (arith, nat_tests)

within_most : (left rows h : ℕ) → rows ≡ min (left + 1) h → rows ≤ left → rows ≡ h
within_most left rows h e under = grind (arith, nat_tests)

least_of_two : (a b : ℕ) → a ≤ b → min a b ≡ a
least_of_two a b h = grind (arith, nat_tests)

module _ (f : List ℕ → ℕ) (text : List (List ℕ)) (cursor top height : ℕ) (within : cursor < length text) where
  abbrev hs : List ℕ
  hs = map f text

  pub top_start : rows_from hs cursor (cursor + 1 - 0) + height ≡ height
  top_start = let same : cursor + 1 - 0 ≡ suc cursor = omega arith in omega (arith, none_more hs cursor, ap (rows_from hs cursor) same)

  -- one line more
  one_line : (n : ℕ) → n ≤ cursor → rows_from hs cursor (cursor - n) ≡ f (line_at text (cursor - n)) + rows_from hs cursor (cursor + 1 - n)
  one_line n h =
      let next : suc (cursor - n) ≡ cursor + 1 - n = omega arith in
      one_more hs cursor (cursor - n) (f (line_at text (cursor - n))) (omega arith) (omega (arith, within, length-map text f)) (height_at f text (cursor - n) (omega (arith, within)))
      ∙ ap (λ (k : ℕ). f (line_at text (cursor - n)) + rows_from hs cursor k) next

  pub top_step : (n left rows : ℕ) → n ≤ cursor → rows_from hs cursor (cursor + 1 - n) + left ≡ height → rows ≡ min (left + 1) (f (line_at text (cursor - n)))
      → rows ≤ left → rows_from hs cursor (cursor + 1 - (n + 1)) + (left - rows) ≡ height
  top_step n left rows h inv is under =
      let same : rows ≡ f (line_at text (cursor - n)) = within_most left rows (f (line_at text (cursor - n))) is under in
      let here : cursor + 1 - (n + 1) ≡ cursor - n = omega arith in
      omega (arith, inv, same, under, one_line n h, ap (rows_from hs cursor) here)

  pub top_end : (n left : ℕ) → top ≤ cursor → n ≡ cursor - top + 1 → rows_from hs cursor (cursor + 1 - n) + left ≡ height → top ≡ settled_top height hs cursor top
  top_end n left order end inv =
      let first : cursor - (cursor - top) ≡ cursor + 1 - n = omega (arith, end) in
      let back : cursor - (cursor - top) ≡ top = omega arith in
      sym (as_fitting height hs cursor top order
      ∙ fitting height hs cursor (cursor - top)
      (omega (arith, inv, ap (rows_from hs cursor) first))
      ∙ back)

  pub top_stop : (n left rows : ℕ) → top ≤ cursor → n ≤ cursor - top → rows_from hs cursor (cursor + 1 - n) + left ≡ height
      → rows ≡ min (left + 1) (f (line_at text (cursor - n))) → left < rows → min (cursor - n + 1) cursor ≡ settled_top height hs cursor top
  top_stop zero left rows order few inv is over =
      let many : height < rows_from hs cursor (cursor - 0) = omega (arith, inv, one_line 0 (omega arith), over_most left rows (f (line_at text (cursor - 0))) is over) in
      least_back ∙ sym (as_fitting height hs cursor top order
      ∙ failing height hs cursor 0 (cursor - top) (omega (arith, within, length-map text f)) (omega arith) (omega arith)
      (λ some. omega (arith, many, no_fewer hs cursor (cursor - 0) (cursor - 1) (omega (arith, within, length-map text f)) (omega arith) (omega arith))))
    where
      least_back : min (cursor - 0 + 1) cursor ≡ cursor
      least_back = grind (arith, nat_tests)
  top_stop (suc p) left rows order few inv is over =
      let here : cursor - p ≡ cursor + 1 - suc p = omega arith in
      let back : cursor - p ≡ cursor - suc p + 1 = omega arith in
      let many : height < rows_from hs cursor (cursor - suc p) = omega (arith, inv, one_line (suc p) (omega arith), over_most left rows (f (line_at text (cursor - suc p))) is over) in
      least_of_two (cursor - suc p + 1) cursor (omega arith)
      ∙ sym (as_fitting height hs cursor top order
      ∙ failing height hs cursor p (cursor - top) (omega (arith, within, length-map text f)) (omega arith) (omega arith) (λ some. many)
      ∙ fitting height hs cursor p (omega (arith, inv, ap (rows_from hs cursor) here))
      ∙ back)
