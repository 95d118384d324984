-- Lemmas on what a window shows of virtual texts.
use Rattle.std.proofs.Common.{◌≡◌, ◌≢◌, ◌<◌, ◌≤◌, ◌+◌, ◌-◌, ℕ, zero, suc, Bool, true, false, cond, ◌&&◌, nat_lt, min, Option, None, Some, List, [], ◌∷◌, ◌++◌, length, map, take, drop, replicate, get_or, set, refl, sym, ap, ◌∙◌, arith, append_assoc, append-nil, subst, ⊎_elim}
use Rattle.std.proofs.lemmas.Bool.{cases_eq, cases_lt}
use Rattle.std.proofs.lemmas.Bool.Decides.{nat_tests}
use Rattle.std.proofs.lemmas.List.{drop-take, get_or-set_other, get_or-set_same, length-set, length-take, map-append, set-get_or, take-take}
use Rattle.nv_hl.specs.declared.cell.Cell.{Cell}
use Rattle.nv_notes.specs.declared.note.At.{At}
use Rattle.nv_notes.specs.declared.note.At.TheVariants.{Eol, Overlay, RightAlign}
use Rattle.nv_linedraw.specs.LineCells.{rows_of_line}
use Rattle.nv_screen.specs.declared.scene.Pane.{Pane}
use Rattle.nv_screen.specs.declared.scene.Patch.{Patch}
use Rattle.nv_screen.specs.declared.scene.SceneLine.{SceneLine}
use Rattle.nv_screen.specs.Cursor.{bytes_at, rows_together}
use Rattle.nv_screen.specs.Drawing.{begins_with_half, cells_up_to, last_as_space}
use Rattle.nv_virt.specs.Texts.{Strip, Text, end_by, ends_after, line_above, place_by, strip_of, strips_at, strips_on, tail_of_line, text_place}
use Rattle.nv_virt.specs.inside.Capped.{AreCapped, IsPlaceNear, capped_by}

-- ---- the first cells are enough

half_of_first : (m : ℕ) (cs : List Cell) → 0 < m → begins_with_half (take m cs) ≡ begins_with_half cs
half_of_first zero cs lt = absurd (omega (arith, lt))
half_of_first (suc m) [] lt = refl
half_of_first (suc m) (c ∷ cs) lt = refl

pub up_to_first : (k m : ℕ) (cs : List Cell) → k < m → cells_up_to k (take m cs) ≡ cells_up_to k cs
up_to_first k m cs lt =
    let d = m - k in
    let count : m ≡ k + d = omega (arith, lt) in
    let half : begins_with_half (drop k (take m cs)) ≡ begins_with_half (drop k cs) =
    ap (λ n. begins_with_half (drop k (take n cs))) count
    ∙ ap begins_with_half (drop-take k d cs)
    ∙ half_of_first d (drop k cs) (omega (arith, lt)) in
    let front : take k (take m cs) ≡ take k cs = take-take k m cs (omega (arith, lt)) in
    λ i. cond (half i) (last_as_space (front i)) (front i)

some_first : (m : ℕ) (cs : List Cell) → nat_lt 0 (length (take (m + 1) cs)) ≡ nat_lt 0 (length cs)
some_first m cs =
    let count = length-take (m + 1) cs in
    grind (arith, nat_tests, count)

module _ (p : Pane) where
  abbrev w : ℕ
  w = p.rect.width

  abbrev h : ℕ
  h = p.rect.height

  front_enough : (above : ℕ) (place : ℕ × ℕ) (cs : List Cell) → strips_at p above place (take (w + 1) cs) ≡ strips_at p above place cs
  front_enough above place cs =
      let some = some_first w cs in
      let same = up_to_first (w - place.1) (w + 1) cs (omega arith) in
      λ i. cond (nat_lt (above + place.0) h && nat_lt place.1 w && some i)
      (record { row = p.rect.row + (above + place.0); col = p.rect.col + place.1; cells = same i } ∷ []) []

  none_below : (above : ℕ) (place : ℕ × ℕ) (cs : List Cell) → h ≤ above + place.0 → strips_at p above place cs ≡ []
  none_below above place cs past =
      let no : nat_lt (above + place.0) h ≡ false = grind (arith, nat_tests, past) in
      ap (λ b. cond (b && nat_lt place.1 w && nat_lt 0 (length cs))
      (record { row = p.rect.row + (above + place.0); col = p.rect.col + place.1; cells = cells_up_to (w - place.1) cs } ∷ []) []) no

  none_beside : (above : ℕ) (place : ℕ × ℕ) (cs : List Cell) → above + place.0 < h → w ≤ place.1 → strips_at p above place cs ≡ []
  none_beside above place cs inside past =
      let yes : nat_lt (above + place.0) h ≡ true = grind (arith, nat_tests, inside) in
      let no : nat_lt place.1 w ≡ false = grind (arith, nat_tests, past) in
      let strip : Strip = record { row = p.rect.row + (above + place.0); col = p.rect.col + place.1; cells = cells_up_to (w - place.1) cs } in
      ap (λ b. cond (b && nat_lt place.1 w && nat_lt 0 (length cs)) (strip ∷ []) []) yes
      ∙ ap (λ b. cond (b && nat_lt 0 (length cs)) (strip ∷ []) []) no

  -- of a place what lies outside the window isn't looked at
  pub strips_same : (above wanted : ℕ) (place goal : ℕ × ℕ) (cs : List Cell) → above ≡ min h wanted → IsPlaceNear h w place goal
      → strips_at p above place (take (w + 1) cs) ≡ strips_at p wanted goal cs
  strips_same above wanted place goal cs is at =
      front_enough above place cs
      ∙ ⊎_elim
      (λ (inside : wanted + goal.0 < h).
      let high : above ≡ wanted = omega (arith, is, inside) in
      let row : place.0 ≡ goal.0 = omega (arith, at.row, inside) in
      let same = at.col (omega (arith, row, inside)) in
      ⊎_elim
      (λ (left : goal.1 < w).
      let col : place.1 ≡ goal.1 = omega (arith, same, left) in
      λ i. strips_at p (high i) (row i, col i) cs)
      (λ (right : w ≤ goal.1).
      none_beside above place cs (omega (arith, high, row, inside)) (omega (arith, same, right))
      ∙ sym (none_beside wanted goal cs inside right))
      (cases_lt goal.1 w))
      (λ (past : h ≤ wanted + goal.0).
      none_below above place cs (omega (arith, is, at.row, past)) ∙ sym (none_below wanted goal cs past))
      (cases_lt (wanted + goal.0) h)

-- ---- cells put behind others, or not

pub not_put : (b : Bool) (olds : List Strip) (s : Strip) → b ≡ false → olds ≡ olds ++ cond b (s ∷ []) []
not_put b olds s outside = sym (append-nil olds) ∙ ap (λ t. olds ++ cond t (s ∷ []) []) (sym outside)

-- ---- columns behind texts

pub as_it_was : (ends : List (Option ℕ)) (n : ℕ) → ends ≡ set ends n (get_or ends n None)
as_it_was ends n = sym (set-get_or ends n None)

module _ (p : Pane) where
  abbrev tail_row : ℕ → ℕ
  tail_row n = (tail_of_line p.rect.width p.tabstop (bytes_at p.lines.items n)).0

  capped_end : (at : At) (n : ℕ) (ends wanted : List (Option ℕ)) (col behind : ℕ) → AreCapped p ends wanted → tail_row n < p.rect.height
      → (at ≡ Eol → min p.rect.width col ≡ min p.rect.width behind)
      → end_by at (get_or ends n None) (min p.rect.width col) ≡ capped_by p.rect.width (end_by at (get_or wanted n None) behind)
  capped_end Eol n ends wanted col behind is visible same = ap Some (same refl)
  capped_end Overlay n ends wanted col behind is visible same = is.each n visible
  capped_end RightAlign n ends wanted col behind is visible same = is.each n visible

  pub capped_after : (at : At) (n : ℕ) (ends wanted later : List (Option ℕ)) (col behind : ℕ) → AreCapped p ends wanted → n < length ends
      → later ≡ set ends n (end_by at (get_or ends n None) (min p.rect.width col))
      → (tail_row n < p.rect.height → at ≡ Eol → min p.rect.width col ≡ min p.rect.width behind)
      → AreCapped p later (set wanted n (end_by at (get_or wanted n None) behind))
  capped_after at n ends wanted later col behind is lt put_is same =
      let old = end_by at (get_or ends n None) (min p.rect.width col) in
      let new = end_by at (get_or wanted n None) behind in record {
        count = length-set wanted n new ∙ is.count ∙ sym (length-set ends n old) ∙ ap length (sym put_is);
        each = λ m visible.
            ap (λ es. get_or es m None) put_is
            ∙ ⊎_elim
            (λ (here : m ≡ n).
            ap (λ k. get_or (set ends n old) k None) here
            ∙ get_or-set_same ends n old None lt
            ∙ capped_end at n ends wanted col behind is (subst (λ k. tail_row k < p.rect.height) here visible)
            (same (subst (λ k. tail_row k < p.rect.height) here visible))
            ∙ ap (capped_by p.rect.width) (sym (get_or-set_same wanted n new None (omega (arith, lt, is.count))))
            ∙ ap (λ k. capped_by p.rect.width (get_or (set wanted n new) k None)) (sym here))
            (λ (other : m ≢ n).
            get_or-set_other ends n m old None other
            ∙ is.each m visible
            ∙ ap (capped_by p.rect.width) (sym (get_or-set_other wanted n m new None other)))
            (cases_eq m n);
      }

  none_at : (n k : ℕ) → get_or (replicate n None) k None ≡ capped_by p.rect.width (get_or (replicate n None) k None)
  none_at zero k = refl
  none_at (suc n) zero = refl
  none_at (suc n) (suc k) = none_at n k

  pub none_capped : (n : ℕ) (ends : List (Option ℕ)) → ends ≡ replicate n None → AreCapped p ends (replicate n None)
  none_capped n ends is = record {
    count = ap length (sym is);
    each = λ k visible. ap (λ es. get_or es k None) is ∙ none_at n k;
  }

-- the columns behind a text that begins at a place, of which one cell more than the width are enough
pub behind_same : (w most count cells : ℕ) (place goal : ℕ × ℕ) → IsPlaceNear most w place goal → goal.0 < most
    → count ≡ min (w + 1) cells → min w (place.1 + count) ≡ min w (goal.1 + cells)
behind_same w most count cells place goal at visible counted =
    let same = at.col (omega (arith, at.row, visible)) in
    omega (arith, same, counted)

-- ---- the rows of lines

pub above_step : (w t : ℕ) (lines : List SceneLine) (k : ℕ) (d : SceneLine) → k < length lines
    → rows_together w t (take (suc k) lines) ≡ rows_together w t (take k lines) + rows_of_line w t (get_or lines k d).bytes
above_step w t [] k d lt = absurd (omega (arith, lt))
above_step w t (line ∷ lines) zero d lt = omega arith
above_step w t (line ∷ lines) (suc k) d lt =
    let rest = above_step w t lines k d (omega (arith, lt)) in
    omega (arith, rest)

pub tops_before : (xs : List ℕ) (x n : ℕ) → n < length xs → get_or (xs ++ x ∷ []) n 0 ≡ get_or xs n 0
tops_before [] x n lt = absurd (omega (arith, lt))
tops_before (y ∷ ys) x zero lt = refl
tops_before (y ∷ ys) x (suc n) lt = tops_before ys x n (omega (arith, lt))

pub tops_last : (xs : List ℕ) (x n : ℕ) → n ≡ length xs → get_or (xs ++ x ∷ []) n 0 ≡ x
tops_last [] x n is = ap (λ k. get_or (x ∷ []) k 0) is
tops_last (y ∷ ys) x zero is = absurd (omega (arith, is))
tops_last (y ∷ ys) x (suc n) is = tops_last ys x n (omega (arith, is))

pub tops_step : (f : ℕ → ℕ) (xs new : List ℕ) (x k : ℕ) → new ≡ xs ++ x ∷ [] → length xs ≡ k → x ≡ f k
    → ((n : ℕ) → n < k → get_or xs n 0 ≡ f n) → (n : ℕ) → n < k + 1 → get_or new n 0 ≡ f n
tops_step f xs new x k pushed count last before n lt =
    ap (λ zs. get_or zs n 0) pushed
    ∙ ⊎_elim
    (λ (less : n < k). tops_before xs x n (omega (arith, less, count)) ∙ before n less)
    (λ (here : k ≤ n).
    let same : n ≡ k = omega (arith, here, lt) in
    tops_last xs x n (omega (arith, same, count)) ∙ last ∙ ap f (sym same))
    (cases_lt n k)

-- the bytes of a line by its place
pub bytes_are : (lines : List SceneLine) (n : ℕ) (d : SceneLine) → n < length lines → bytes_at lines n ≡ (get_or lines n d).bytes
bytes_are [] n d lt = absurd (omega (arith, lt))
bytes_are (line ∷ lines) zero d lt = refl
bytes_are (line ∷ lines) (suc n) d lt = bytes_are lines n d (omega (arith, lt))

-- ---- a text

-- where cells are, of which one more than the width are enough
abbrev pub Placed : (h w t : ℕ) → List ℕ → At → ℕ → Option ℕ → List Cell → ℕ × ℕ → Type 0
Placed h w t line at byte before shown place =
    (e : Option ℕ) (m : ℕ) → ((tail_of_line w t line).0 < h → before ≡ capped_by w e) → length shown ≡ min (w + 1) m
    → IsPlaceNear h w place (place_by w t line at byte e m)

pub text_laid : (p : Pane) (n : ℕ) (t : Text) (lh lw lt : ℕ) (line : List ℕ) (at : At) (before : Option ℕ) (shown cells : List Cell)
    (place : ℕ × ℕ) (end above : ℕ) (ends wanted later : List (Option ℕ))
    → lh ≡ p.rect.height → lw ≡ p.rect.width → lt ≡ p.tabstop → line ≡ bytes_at p.lines.items n → at ≡ t.at
    → cells ≡ take (p.rect.width + 1) t.cells → shown ≡ cells → before ≡ get_or ends n None
    → Placed lh lw lt line at t.byte before shown place
    → end ≡ min p.rect.width (place.1 + length shown) → n < length ends
    → later ≡ set ends n (end_by at (get_or ends n None) end)
    → above ≡ min p.rect.height (line_above p n) → AreCapped p ends wanted
    → AreCapped p later (ends_after p wanted n t)
    × (strips_at p above place cells ≡ strips_at p (line_above p n) (text_place p wanted n t) t.cells)
text_laid p n t lh lw lt line at before shown cells place end above ends wanted later h_is w_is t_is line_is at_is cells_is shown_is before_is placed end_is lt_is later_is above_is capped =
    let w = p.rect.width in
    let h = p.rect.height in
    let bytes = bytes_at p.lines.items n in
    let e = get_or wanted n None in
    let m = length t.cells in
    let goal = text_place p wanted n t in
    let counted : length shown ≡ min (w + 1) m = ap length (shown_is ∙ cells_is) ∙ length-take (w + 1) t.cells in
    let one : Placed h lw lt line at t.byte before shown place =
    subst (λ (x : ℕ). Placed x lw lt line at t.byte before shown place) h_is placed in
    let two : Placed h w lt line at t.byte before shown place =
    subst (λ (x : ℕ). Placed h x lt line at t.byte before shown place) w_is one in
    let three : Placed h w p.tabstop line at t.byte before shown place =
    subst (λ (x : ℕ). Placed h w x line at t.byte before shown place) t_is two in
    let four : Placed h w p.tabstop bytes at t.byte before shown place =
    subst (λ (l : List ℕ). Placed h w p.tabstop l at t.byte before shown place) line_is three in
    let there : Placed h w p.tabstop bytes t.at t.byte before shown place =
    subst (λ (a : At). Placed h w p.tabstop bytes a t.byte before shown place) at_is four in
    let comes : IsPlaceNear h w place goal = there e m (λ visible. before_is ∙ capped.each n visible) counted in (
      capped_after p t.at n ends wanted later (place.1 + length shown) (goal.1 + m) capped lt_is
          (later_is ∙ (λ i. set ends n (end_by (at_is i) (get_or ends n None) (end_is i))))
          (λ visible eol.
          let row : goal.0 ≡ (tail_of_line w p.tabstop bytes).0 = ap (λ a. (place_by w p.tabstop bytes a t.byte e m).0) eol in
          behind_same w h (length shown) m place goal comes (omega (arith, visible, row)) counted),
      ap (strips_at p above place) cells_is ∙ strips_same p above (line_above p n) place goal t.cells above_is comes,
    )

-- a text on none of the lines, and one on a line, in front of others
pub none_shown : (p : Pane) (o : Option ℕ) (t : Text) (wanted : List (Option ℕ)) (rest : List (Option ℕ) → List Strip) (olds : List Strip)
    → o ≡ None → olds ++ rest wanted ≡ olds ++ strips_on p wanted o t rest
none_shown p o t wanted rest olds none = ap (λ q. olds ++ strips_on p wanted q t rest) (sym none)

pub some_shown : (p : Pane) (o : Option ℕ) (n : ℕ) (t : Text) (wanted : List (Option ℕ)) (rest : List (Option ℕ) → List Strip) (olds news : List Strip)
    → o ≡ Some n → news ≡ olds ++ strips_at p (line_above p n) (text_place p wanted n t) t.cells
    → news ++ rest (ends_after p wanted n t) ≡ olds ++ strips_on p wanted o t rest
some_shown p o n t wanted rest olds news some laid =
    ap (λ ns. ns ++ rest (ends_after p wanted n t)) laid
    ∙ append_assoc olds (strips_at p (line_above p n) (text_place p wanted n t) t.cells) (rest (ends_after p wanted n t))
    ∙ ap (λ q. olds ++ strips_on p wanted q t rest) (sym some)
