-- What a patch shows, and what it leaves beside it.
use Rattle.std.proofs.Common.{◌≡◌, ◌≢◌, ◌<◌, ◌≤◌, ◌+◌, ◌-◌, ℕ, suc, Bool, true, false, cond, ◌&&◌, ◌==◌, ◌⊎◌, inl, inr, List, [], ◌∷◌, length, get_or, refl, sym, ap, ◌∙◌, arith, ⊎_elim}
use Rattle.std.proofs.lemmas.Bool.{cases_eq, cases_lt, eq-eqb, ne_eqb}
use Rattle.nv_hl.specs.declared.cell.Cell.{Cell}
use Rattle.nv_hl.specs.Attributes.{empty_attr}
use Rattle.nv_hl.specs.Cells.{is_right_half, space}
use Rattle.nv_screen.specs.Drawing.{cell_shown, with_left_half, with_patch_cells, with_right_half, with_space}
use Rattle.nv_screen.specs.Laws.{PatchesShow, cell_beside, cell_over}
use Rattle.nv_screen.proofs.Strips.{inside}
use Rattle.nv_screen.proofs.WholeScreens.{Sized, left, right}
use Rattle.nv_screen.proofs.WindowLemmas.{get_or-any, here, strip_beside, strip_inside, strip_other, strip_over}

module _ (w h : ℕ) (r c : ℕ) (high : r < h) (wide : c < w) where
  abbrev shown : List (List Cell) → Cell
  shown rows = here w h r c high wide rows

  space_elsewhere : (rows : List (List Cell)) (row k : ℕ) → Sized w h rows → row ≢ r → shown (with_space rows row k) ≡ shown rows
  space_elsewhere rows row k s ne = strip_other w h r c high wide rows row k (space (cell_shown rows row k).attr ∷ []) s ne

  space_beside : (rows : List (List Cell)) (row k : ℕ) → Sized w h rows → k ≢ c → shown (with_space rows row k) ≡ shown rows
  space_beside rows row k s ne =
      let out : (c < k) ⊎ (k + 1 ≤ c) =
      ⊎_elim (λ (a : c < k). inl a) (λ (a : k ≤ c). let past : k + 1 ≤ c = grind (arith, a) in inr past) (cases_lt c k) in
      strip_beside w h r c high wide rows row k (space (cell_shown rows row k).attr ∷ []) s out

  space_here : (rows : List (List Cell)) (k : ℕ) → Sized w h rows → k ≡ c → shown (with_space rows r k) ≡ space (shown rows).attr
  space_here rows k s e =
      let put = space (cell_shown rows r k).attr in
      let first : c - k ≡ 0 = omega (arith, e) in
      strip_inside w h r c high wide rows r k (put ∷ []) s refl (omega (arith, e)) (omega (arith, e))
      ∙ ap (λ n. get_or (put ∷ []) n (space empty_attr)) first
      ∙ ap (λ n. space (cell_shown rows r n).attr) e

  -- a space in place of a cell, or not
  either_elsewhere : (b : Bool) (rows : List (List Cell)) (row k : ℕ) → Sized w h rows → row ≢ r
      → shown (cond b (with_space rows row k) rows) ≡ shown rows
  either_elsewhere true rows row k s ne = space_elsewhere rows row k s ne
  either_elsewhere false rows row k s ne = refl

  either_beside : (b : Bool) (rows : List (List Cell)) (row k : ℕ) → Sized w h rows → k ≢ c
      → shown (cond b (with_space rows row k) rows) ≡ shown rows
  either_beside true rows row k s ne = space_beside rows row k s ne
  either_beside false rows row k s ne = refl

  either_here : (b : Bool) (rows : List (List Cell)) (k : ℕ) → Sized w h rows → k ≡ c
      → shown (cond b (with_space rows r k) rows) ≡ cond b (space (shown rows).attr) (shown rows)
  either_here true rows k s e = space_here rows k s e
  either_here false rows k s e = refl

  module _ (rows : List (List Cell)) (s : Sized w h rows) (col n : ℕ) (some : 0 < n) where
    abbrev half_at : Bool
    half_at = is_right_half (cell_shown rows r col)

    abbrev half_here : Bool
    half_here = is_right_half (cell_shown rows r c)

    abbrev low : List (List Cell)
    low = with_left_half rows r col

    abbrev blank_here : Cell
    blank_here = space (cell_shown rows r c).attr

    tests : (p q : Bool) → (c + 1 == col) ≡ p → (c == col + n) ≡ q
        → cell_beside rows r col n c ≡ cond (p && half_at) blank_here (cond (q && half_here) blank_here (cell_shown rows r c))
    tests p q e f = λ i. cond (e i && half_at) blank_here (cond (f i && half_here) blank_here (cell_shown rows r c))

    -- the column before a patch, or one further left
    on_left : c < col → shown (with_right_half low r (col + n)) ≡ cell_beside rows r col n c
    on_left lt =
        let apart : col + n ≢ c = λ e. absurd (omega (arith, lt, e)) in
        let no : (c == col + n) ≡ false = ne_eqb c (col + n) (λ e. apart (sym e)) in
        either_beside (is_right_half (cell_shown low r (col + n))) low r (col + n) (left w h rows r col s) apart
        ∙ ⊎_elim
        (λ (e : c + 1 ≡ col).
        either_here half_at rows (col - 1) s (omega (arith, e))
        ∙ sym (tests true false (eq-eqb (c + 1) col e) no))
        (λ (ne : c + 1 ≢ col).
        let other : col - 1 ≢ c = λ e. ne (omega (arith, e, lt)) in
        either_beside half_at rows r (col - 1) s other
        ∙ sym (tests false false (ne_eqb (c + 1) col ne) no))
        (cases_eq (c + 1) col)

    -- the column behind a patch, or one further right
    on_right : col + n ≤ c → shown (with_right_half low r (col + n)) ≡ cell_beside rows r col n c
    on_right le =
        let apart : col - 1 ≢ c = λ e. absurd (omega (arith, le, e, some)) in
        let no : (c + 1 == col) ≡ false = ne_eqb (c + 1) col (λ e. absurd (omega (arith, le, e, some))) in
        let same : shown low ≡ shown rows = either_beside half_at rows r (col - 1) s apart in
        let s' = left w h rows r col s in
        ⊎_elim
        (λ (e : c ≡ col + n).
        either_here (is_right_half (cell_shown low r (col + n))) low (col + n) s' (sym e)
        ∙ ap (λ k. cond (is_right_half (cell_shown low r k)) (space (shown low).attr) (shown low)) (sym e)
        ∙ ap (λ x. cond (is_right_half x) (space x.attr) x) same
        ∙ sym (tests false true no (eq-eqb c (col + n) e)))
        (λ (ne : c ≢ col + n).
        either_beside (is_right_half (cell_shown low r (col + n))) low r (col + n) s' (λ e. ne (sym e))
        ∙ same
        ∙ sym (tests false false no (ne_eqb c (col + n) ne)))
        (cases_eq c (col + n))

  in_row : (rows : List (List Cell)) (s : Sized w h rows) (col : ℕ) (x : Cell) (xs : List Cell)
      → shown (with_patch_cells rows r col (x ∷ xs)) ≡ cell_over col (x ∷ xs) c (cell_beside rows r col (suc (length xs)) c)
  in_row rows s col x xs =
      let n = suc (length xs) in
      let low' = with_left_half rows r col in
      let full = with_right_half low' r (col + n) in
      let beside = cell_beside rows r col n c in
      strip_over w h r c high wide full r col (x ∷ xs) (right w h low' r (col + n) (left w h rows r col s)) refl
      ∙ ⊎_elim
      (λ (lt : c < col).
      ap (cell_over col (x ∷ xs) c) (on_left rows s col n (omega arith) lt))
      (λ (le : col ≤ c).
      ⊎_elim
      (λ (lt : c < col + n).
      inside col (x ∷ xs) c (shown full) le lt
      ∙ get_or-any (x ∷ xs) (c - col) (shown full) beside (omega (arith, le, lt))
      ∙ sym (inside col (x ∷ xs) c beside le lt))
      (λ (past : col + n ≤ c). ap (cell_over col (x ∷ xs) c) (on_right rows s col n (omega arith) past))
      (cases_lt c (col + n)))
      (cases_lt c col)

  in_other_row : (rows : List (List Cell)) (s : Sized w h rows) (row col : ℕ) (x : Cell) (xs : List Cell) → row ≢ r
      → shown (with_patch_cells rows row col (x ∷ xs)) ≡ shown rows
  in_other_row rows s row col x xs ne =
      let n = suc (length xs) in
      let low' = with_left_half rows row col in
      let s' = left w h rows row col s in
      strip_other w h r c high wide (with_right_half low' row (col + n)) row col (x ∷ xs) (right w h low' row (col + n) s') ne
      ∙ either_elsewhere (is_right_half (cell_shown low' row (col + n))) low' row (col + n) s' ne
      ∙ either_elsewhere (is_right_half (cell_shown rows row col)) rows row (col - 1) s ne

  pub patch_shows : (rows : List (List Cell)) (row col : ℕ) (cs : List Cell) → Sized w h rows → 0 < length cs
      → shown (with_patch_cells rows row col cs) ≡ cond (row == r) (cell_over col cs c (cell_beside rows r col (length cs) c)) (shown rows)
  patch_shows rows row col [] s some = absurd (omega (arith, some))
  patch_shows rows row col (x ∷ xs) s some =
      let over = cell_over col (x ∷ xs) c (cell_beside rows r col (suc (length xs)) c) in
      ⊎_elim
      (λ (e : row ≡ r).
      (λ i. shown (with_patch_cells rows (e i) col (x ∷ xs))) ∙ in_row rows s col x xs
      ∙ sym (ap (λ b. cond b over (shown rows)) (eq-eqb row r e)))
      (λ (ne : row ≢ r). in_other_row rows s row col x xs ne ∙ sym (ap (λ b. cond b over (shown rows)) (ne_eqb row r ne)))
      (cases_eq row r)

pub patches_show : PatchesShow
patches_show s sized row col cs some r c high wide =
    patch_shows s.width s.height r c high wide s.rows row col cs sized some
