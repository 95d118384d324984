-- Rows of which some cells may differ from what is shown.
use Rattle.std.proofs.Common.{◌≡◌, ◌≢◌, ℕ, zero, suc, ◌+◌, ◌-◌, ◌<◌, ◌≤◌, ltb, leb, List, [], ◌∷◌, ◌++◌, length, map, take, drop, get_or, set, Bool, true, false, cond, not, ◌&&◌, ◌||◌, Option, Some, None, pos, All, ◌^◌, min, replicate, refl, ap, sym, subst, ◌∙◌, arith, ⊎_elim, append_assoc, append-nil, length-set}
use Rattle.std.proofs.Math.ListN.{drop_of_length-le}
use Rattle.std.proofs.lemmas.Bool.{cases_eq, cases_lt, false≢true}
use Rattle.std.proofs.lemmas.Bool.Decides.{nat_tests}
use Rattle.std.proofs.lemmas.List.{length-map, drop-drop, drop-map, drop-set-lt, get_or-drop, get_or-map, get_or-set_other, get_or-set_same, get_or-take, get_or_append_left, get_or_past, get_or_push, length-drop, length-replicate, length-take, take-append-drop, take-map, take_more_set}
use Rattle.std.proofs.lemmas.List.Elements.{All-from_get_or}
use Rattle.std.specs.List.{AllByRecursion}
use Rattle.nv_hl.specs.declared.attribute.Attr.{Attr}
use Rattle.nv_hl.specs.declared.cell.Cell.{Cell}
use Rattle.nv_linedraw.proofs.LayLemmas.{drop_at}
use Rattle.nv_linegrid.specs.declared.event.Redraw.{Redraw}
use Rattle.nv_linegrid.specs.declared.event.Redraw.TheVariants.{LineOf}
use Rattle.nv_linegrid.specs.Client.{Shown, ShownRows, shown_of, cells_from, row_between, row_from, row_with, scrolled_from}
use Rattle.nv_linegrid.specs.Rows.{differs_at, end_due, first_due, is_due, is_right_at, line_between, line_of_row, no_cell, runs_of, shows_cell}
use Rattle.nv_linegrid.specs.Scrolls.{Shift, rows_after_shift, rows_after_shifts, shifts_between}
use Rattle.nv_linegrid.specs.Batch.{is_resized, is_size}
use Rattle.nv_linegrid.specs.Told.{AreSized, IsWhole, Told, Wanted, shown_cell, with_attr, with_attrs_of, with_attrs_of_rows}
use Rattle.nv_linegrid.proofs.TableLemmas.{Grows, rows_grow}
use Rattle.nv_linegrid.proofs.DueLemmas.{row_shown, row_told}
use Rattle.nv_painter.specs.inside.Due.{AreDue, IsDue, ShowsBut}
use Rattle.nv_painter.specs.declared.lent.LentRow.{LentRow}
use Rattle.nv_painter.specs.inside.Lent.{AreLent, IsLikeBut, lent_cells, lent_rows, placed_cells, placed_rows}
use Rattle.nv_painter.specs.inside.Moving.{moves, rows_to_move}
use Rattle.nv_painter.specs.inside.Sketch.{HaveIds, IsIdOf, IsSketch, ShowsCells}
use Rattle.nv_painter.proofs.LineLemmas.{front_step, row_step, same_shown_itself}
use Rattle.nv_painter.proofs.SketchLemmas.{ToldTo, adds_none, have_more, shows_more, shows_none}
use Rattle.nv_painter.proofs.ToldLemmas.{size_is}

-- ---- cells that are shown don't differ

less_is : (a b : ℕ) → a < b → ltb a b ≡ true
less_is a b lt = grind (arith, nat_tests)

not_less : (a b : ℕ) → b ≤ a → ltb a b ≡ false
not_less a b le = grind (arith, nat_tests)

shown_differs_not : (old : List (Option Shown)) (new : List Shown) (i : ℕ) → get_or old i None ≡ Some (get_or new i no_cell)
    → differs_at old new i ≡ false
shown_differs_not old new i e =
    ap (λ o. ltb i (length new) && not (shows_cell o (get_or new i no_cell))) e
    ∙ ap (λ b. ltb i (length new) && not b) (same_shown_itself (get_or new i no_cell))
    ∙ no (ltb i (length new))
  where
    no : (b : Bool) → (b && false) ≡ false
    no true = refl
    no false = refl

past_differs_not : (old : List (Option Shown)) (new : List Shown) (i : ℕ) → length new ≤ i → differs_at old new i ≡ false
past_differs_not old new i le =
    ap (λ b. b && not (shows_cell (get_or old i None) (get_or new i no_cell))) (not_less i (length new) le)

not_due : (old : List (Option Shown)) (new : List Shown) (i : ℕ) → differs_at old new i ≡ false → differs_at old new (i - 1) ≡ false
    → differs_at old new (i + 1) ≡ false → is_due old new i ≡ false
unfolding is_due
not_due old new i here before behind =
    rw here (rw before (rw behind (by (is_right_at new i && ltb 0 i) (is_right_at new (i + 1)))))
  where
    by : (a b : Bool) → (false || (a && false) || (b && false)) ≡ false
    by true true = refl
    by true false = refl
    by false true = refl
    by false false = refl

module _ (attrs : List Attr) (cells : List Cell) (row : List (Option Shown)) where
  shown_at : (i : ℕ) (d : Cell) → i < length cells → get_or row i None ≡ Some (shown_cell attrs (get_or cells i d))
      → differs_at row (map (shown_cell attrs) cells) i ≡ false
  shown_at i d lt e =
      shown_differs_not row (map (shown_cell attrs) cells) i (e ∙ ap Some (sym (get_or-map (shown_cell attrs) cells i d no_cell lt)))

  some_cell : (i : ℕ) → i < length cells → Cell
  some_cell i lt = first cells (omega (arith, lt))
    where
      first : (cs : List Cell) → 0 < length cs → Cell
      first [] lt = absurd (omega (arith, lt))
      first (c ∷ cs) lt = c

  front_differs_not : (from : ℕ) → ShowsCells attrs (take from cells) (take from row) → (i : ℕ) → i < from → i < length cells
      → differs_at row (map (shown_cell attrs) cells) i ≡ false
  front_differs_not from s i lt within =
      let d = some_cell i within in
      let inside : i < length (take from cells) = omega (arith, within, lt, length-take from cells) in
      shown_at i d within
      (sym (get_or-take from row i None lt) ∙ ap (λ l. get_or l i None) s.row_is
      ∙ get_or-map Some (map (shown_cell attrs) (take from cells)) i no_cell None (omega (arith, inside, length-map (take from cells) (shown_cell attrs)))
      ∙ ap Some (get_or-map (shown_cell attrs) (take from cells) i d no_cell inside)
      ∙ ap (λ c. Some (shown_cell attrs c)) (get_or-take from cells i d lt))

  back_differs_not : (to : ℕ) → ShowsCells attrs (drop to cells) (drop to row) → (i : ℕ) → to ≤ i → i < length cells
      → differs_at row (map (shown_cell attrs) cells) i ≡ false
  back_differs_not to s i le within =
      let d = some_cell i within in
      let at : to + (i - to) ≡ i = omega (arith, le) in
      let inside : i - to < length (drop to cells) = omega (arith, le, within, length-drop to cells) in
      shown_at i d within
      (ap (λ j. get_or row j None) (sym at) ∙ sym (get_or-drop to row (i - to) None) ∙ ap (λ l. get_or l (i - to) None) s.row_is
      ∙ get_or-map Some (map (shown_cell attrs) (drop to cells)) (i - to) no_cell None (omega (arith, inside, length-map (drop to cells) (shown_cell attrs)))
      ∙ ap Some (get_or-map (shown_cell attrs) (drop to cells) (i - to) d no_cell inside)
      ∙ ap (λ c. Some (shown_cell attrs c)) (get_or-drop to cells (i - to) d ∙ ap (λ j. get_or cells j d) at))

  front_not_due : (from : ℕ) → ShowsCells attrs (take from cells) (take from row) → from ≤ length cells → (i : ℕ) → i < from - 1
      → is_due row (map (shown_cell attrs) cells) i ≡ false
  front_not_due from s within i lt =
      let none = front_differs_not from s in
      not_due row (map (shown_cell attrs) cells) i (none i (omega (arith, lt)) (omega (arith, lt, within))) (none (i - 1) (omega (arith, lt)) (omega (arith, lt, within)))
      (none (i + 1) (omega (arith, lt)) (omega (arith, lt, within)))

  back_not_due : (to : ℕ) → ShowsCells attrs (drop to cells) (drop to row) → (i : ℕ) → to + 1 ≤ i → i < length cells
      → is_due row (map (shown_cell attrs) cells) i ≡ false
  back_not_due to s i le within =
      let none = back_differs_not to s in
      not_due row (map (shown_cell attrs) cells) i (none i (omega (arith, le)) within) (none (i - 1) (omega (arith, le)) (omega (arith, within)))
      (⊎_elim (λ (lt : i + 1 < length cells). none (i + 1) (omega (arith, le)) lt)
      (λ (past : length cells ≤ i + 1). past_differs_not row (map (shown_cell attrs) cells) (i + 1) (omega (arith, past, length-map cells (shown_cell attrs))))
      (cases_lt (i + 1) (length cells)))

-- ---- the first due cell, and the last

first_skips : (old : List (Option Shown)) (new : List Shown) (m n i : ℕ) → ((j : ℕ) → i ≤ j → j < i + m → is_due old new j ≡ false)
    → first_due old new (m + n) i ≡ first_due old new n (i + m)
first_skips old new zero n i none =
    let count : 0 + n ≡ n = omega arith in
    let at : i ≡ i + 0 = omega arith in
    ap (λ m. first_due old new m i) count ∙ ap (first_due old new n) at
first_skips old new (suc m) n i none =
    let count : suc m + n ≡ suc (m + n) = omega arith in
    let at : i + 1 + m ≡ i + suc m = omega arith in
    ap (λ k. first_due old new k i) count
    ∙ ap (λ b. cond b i (first_due old new (m + n) (i + 1))) (none i (omega arith) (omega arith))
    ∙ first_skips old new m n (i + 1) (λ j le lt. none j (omega (arith, le)) (omega (arith, lt)))
    ∙ ap (first_due old new n) at

pub first_from : (attrs : List Attr) (cells : List Cell) (row : List (Option Shown)) (from : ℕ) → from ≤ length cells
    → ShowsCells attrs (take from cells) (take from row)
    → first_due row (map (shown_cell attrs) cells) (length cells - (from - 1)) (from - 1)
    ≡ first_due row (map (shown_cell attrs) cells) (length cells) 0
first_from attrs cells row from within s =
    let new = map (shown_cell attrs) cells in
    let n = length cells - (from - 1) in
    let parts : from - 1 + n ≡ length cells = omega (arith, within) in
    let start : 0 + (from - 1) ≡ from - 1 = omega arith in
    sym (ap (λ m. first_due row new m 0) (sym parts)
    ∙ first_skips row new (from - 1) n 0 (λ j le lt. front_not_due attrs cells row from s within j (omega (arith, lt)))
    ∙ ap (first_due row new n) start)

end_skips : (old : List (Option Shown)) (new : List Shown) (m n : ℕ) → ((j : ℕ) → n ≤ j → j < m + n → is_due old new j ≡ false)
    → end_due old new (m + n) ≡ end_due old new n
end_skips old new zero n none = let count : 0 + n ≡ n = omega arith in ap (end_due old new) count
end_skips old new (suc m) n none =
    let count : suc m + n ≡ suc (m + n) = omega arith in
    ap (end_due old new) count
    ∙ ap (λ b. cond b (suc (m + n)) (end_due old new (m + n))) (none (m + n) (omega arith) (omega arith))
    ∙ end_skips old new m n (λ j le lt. none j le (omega (arith, lt)))

pub end_from : (attrs : List Attr) (cells : List Cell) (row : List (Option Shown)) (to end : ℕ) → end ≡ min (to + 1) (length cells) → ShowsCells attrs (drop to cells) (drop to row)
    → end_due row (map (shown_cell attrs) cells) end ≡ end_due row (map (shown_cell attrs) cells) (length cells)
end_from attrs cells row to end is s =
    let new = map (shown_cell attrs) cells in
    let m = length cells - end in
    let parts : m + end ≡ length cells = omega (arith, is) in
    sym (ap (end_due row new) (sym parts)
    ∙ end_skips row new m end (λ j le lt.
    back_not_due attrs cells row to s j (omega (arith, is, le, lt)) (omega (arith, lt, is))))

-- ---- a row is told

pub map-between : (attrs : List Attr) (cells : List Cell) (n m : ℕ) → map (shown_cell attrs) (take n (drop m cells)) ≡ take n (drop m (map (shown_cell attrs) cells))
map-between attrs cells n m = front n (drop m cells) ∙ ap (take n) (sym (drop-map (shown_cell attrs) m cells))
  where
    front : (n : ℕ) (cs : List Cell) → map (shown_cell attrs) (take n cs) ≡ take n (map (shown_cell attrs) cs)
    front zero cs = refl
    front (suc n) [] = refl
    front (suc n) (c ∷ cs) = ap (λ l. shown_cell attrs c ∷ l) (front n cs)

module _ (number : ℕ) (attrs : List Attr) (cells : List Cell) (row : List (Option Shown)) (first end : ℕ)
    (count : length row ≡ length cells)
    (first_is : first ≡ first_due row (map (shown_cell attrs) cells) (length cells) 0)
    (end_is : end ≡ end_due row (map (shown_cell attrs) cells) (length cells)) where
  long : length cells ≡ length (map (shown_cell attrs) cells)
  long = sym (length-map cells (shown_cell attrs))

  its_first : first ≡ first_due row (map (shown_cell attrs) cells) (length (map (shown_cell attrs) cells)) 0
  its_first = first_is ∙ ap (λ n. first_due row (map (shown_cell attrs) cells) n 0) long

  its_end : end ≡ end_due row (map (shown_cell attrs) cells) (length (map (shown_cell attrs) cells))
  its_end = end_is ∙ ap (end_due row (map (shown_cell attrs) cells)) long

  line_is : line_of_row number row (map (shown_cell attrs) cells) ≡ line_between number (map (shown_cell attrs) cells) first end
  line_is = λ i. line_between number (map (shown_cell attrs) cells) (sym its_first i) (sym its_end i)

  -- nothing is due
  pub none_due_line : end ≤ first → line_of_row number row (map (shown_cell attrs) cells) ≡ []
  none_due_line le = line_is ∙ ap (λ b. cond b (LineOf (pos 1) number first (runs_of (take (end - first) (drop first (map (shown_cell attrs) cells)))) ∷ []) []) (not_less first end le)

  pub none_due_row : end ≤ first → row ≡ map Some (map (shown_cell attrs) cells)
  none_due_row le = row_shown row (map (shown_cell attrs) cells) (count ∙ long) (omega (arith, its_first, its_end, le))

  -- some cells are
  pub due_line : (shown : List Shown) → shown ≡ map (shown_cell attrs) (take (end - first) (drop first cells)) → first < end
      → line_of_row number row (map (shown_cell attrs) cells) ≡ LineOf (pos 1) number first (runs_of shown) ∷ []
  due_line shown is lt =
      line_is ∙ ap (λ b. cond b (LineOf (pos 1) number first (runs_of (take (end - first) (drop first (map (shown_cell attrs) cells)))) ∷ []) []) (less_is first end lt)
      ∙ ap (λ l. LineOf (pos 1) number first (runs_of l) ∷ []) (sym (is ∙ map-between attrs cells (end - first) first))

  pub due_row : (shown : List Shown) → shown ≡ map (shown_cell attrs) (take (end - first) (drop first cells)) → first < end
      → row_with row first shown ≡ map Some (map (shown_cell attrs) cells)
  due_row shown is lt =
      ap (row_with row first) (is ∙ map-between attrs cells (end - first) first)
      ∙ (λ i. row_with row (its_first i) (take (its_end i - its_first i) (drop (its_first i) (map (shown_cell attrs) cells))))
      ∙ row_told row (map (shown_cell attrs) cells) (count ∙ long) (omega (arith, its_first, its_end, lt))

-- ---- a row with other cells

pub put_step : (row : List (Option Shown)) (at : ℕ) (c : Shown) (cs : List Shown) → at < length row
    → row_with (set row at (Some c)) (at + 1) cs ≡ row_with row at (c ∷ cs)
put_step row at c cs lt =
    let n = length cs in
    let behind : drop (at + 1 + n) (set row at (Some c)) ≡ drop (at + suc n) row =
    drop-set-lt (at + 1 + n) row at (Some c) (omega arith) ∙ ap (λ k. drop k row) (omega arith) in
    (λ i. take_more_set row at (Some c) lt i ++ map Some cs ++ behind i)
    ∙ ap (λ l. l ++ drop (at + suc n) row) (append_assoc (take at row) (Some c ∷ []) (map Some cs))

pub put_none : (row : List (Option Shown)) (at : ℕ) → row_with row at [] ≡ row
put_none row at =
    (λ i. append-nil (take at row) i ++ drop (omega_at i) row) ∙ take-append-drop at row
  where
    omega_at : at + 0 ≡ at
    omega_at = omega arith

-- ---- attributes

attrs_append : (attrs : List Attr) (xs ys : List Cell) → with_attrs_of attrs (xs ++ ys) ≡ with_attrs_of (with_attrs_of attrs xs) ys
attrs_append attrs [] ys = refl
attrs_append attrs (x ∷ xs) ys = attrs_append (with_attr attrs x.attr) xs ys

-- cells that are shown add none
pub attrs_between : (attrs : List Attr) (cells : List Cell) (row : List (Option Shown)) (from to : ℕ) → ShowsBut attrs cells row from to
    → (more : List Attr) → with_attrs_of attrs (take (to - from) (drop from cells)) ≡ attrs ++ more
    → with_attrs_of attrs (take (to - from) (drop from cells)) ≡ with_attrs_of attrs cells
attrs_between attrs cells row from to s more grows =
    let front = take from cells in
    let middle = take (to - from) (drop from cells) in
    let back = drop to cells in
    let rest : drop (to - from) (drop from cells) ≡ back = drop-drop (to - from) from cells ∙ ap (λ k. drop k cells) (omega (arith, s.order)) in
    let parts : front ++ (middle ++ back) ≡ cells =
    ap (λ l. front ++ (middle ++ l)) (sym rest) ∙ ap (λ l. front ++ l) (take-append-drop (to - from) (drop from cells)) ∙ take-append-drop from cells in
    sym (ap (with_attrs_of attrs) (sym parts) ∙ attrs_append attrs front (middle ++ back)
    ∙ ap (λ l. with_attrs_of l (middle ++ back)) (adds_none attrs front s.front.ids)
    ∙ attrs_append attrs middle back
    ∙ ap (λ l. with_attrs_of l back) grows
    ∙ adds_none (attrs ++ more) back (have_more attrs more back s.back.ids)
    ∙ sym grows)

-- ---- what is due of a row, one cell after another

pub back_none : (attrs : List Attr) (cells : List Cell) (row : List (Option Shown)) (k : ℕ) → length row ≡ length cells → length cells ≤ k
    → ShowsCells attrs (drop k cells) (drop k row)
back_none attrs cells row k count le =
    let xs : drop k cells ≡ [] = past cells (omega (arith, le)) in
    let ys : drop k row ≡ [] = past row (omega (arith, le, count)) in
    subst (λ (q : List Cell × List (Option Shown)). ShowsCells attrs q.0 q.1) (λ i. (sym xs i, sym ys i)) (record { ids = tt; row_is = refl })
  where
    past : {A : Type 0} (l : List A) → length l ≤ k → drop k l ≡ []
    past l le = drop_of_length-le l le

have_drop : (attrs : List Attr) (cells : List Cell) (n : ℕ) → HaveIds attrs cells → HaveIds attrs (drop n cells)
have_drop attrs cells zero h = h
have_drop attrs [] (suc n) h = tt
have_drop attrs (c ∷ cells) (suc n) h = have_drop attrs cells n h.1

-- what is shown from a cell on is shown from a later one on
pub back_later : (attrs : List Attr) (cells : List Cell) (row : List (Option Shown)) (k m : ℕ) → k ≤ m
    → ShowsCells attrs (drop k cells) (drop k row) → ShowsCells attrs (drop m cells) (drop m row)
back_later attrs cells row k m le s =
    let n = m - k in
    let same : n + k ≡ m = omega (arith, le) in
    let xs : drop n (drop k cells) ≡ drop m cells = drop-drop n k cells ∙ ap (λ j. drop j cells) (omega (arith, le)) in
    let ys : drop n (drop k row) ≡ drop m row = drop-drop n k row ∙ ap (λ j. drop j row) (omega (arith, le)) in
    subst (λ (q : List Cell × List (Option Shown)). ShowsCells attrs q.0 q.1) (λ i. (xs i, ys i))
    (record {
      ids = have_drop attrs (drop k cells) n s.ids;
      row_is = ap (drop n) s.row_is ∙ drop-map Some n (map (shown_cell attrs) (drop k cells))
          ∙ ap (map Some) (drop-map (shown_cell attrs) n (drop k cells));
    })

have_take : (attrs : List Attr) (cells : List Cell) (n : ℕ) → HaveIds attrs cells → HaveIds attrs (take n cells)
have_take attrs cells zero h = tt
have_take attrs [] (suc n) h = tt
have_take attrs (c ∷ cells) (suc n) h = (h.0, have_take attrs cells n h.1)

front_of : (attrs : List Attr) (cells : List Cell) (row : List (Option Shown)) (n : ℕ) → ShowsCells attrs cells row
    → ShowsCells attrs (take n cells) (take n row)
front_of attrs cells row n s = record {
  ids = have_take attrs cells n s.ids;
  row_is = ap (take n) s.row_is ∙ take-map Some n (map (shown_cell attrs) cells) ∙ ap (map Some) (take-map (shown_cell attrs) n cells);
}

-- a row that shows cells shows others but for those in which they differ
pub shows_but : (attrs : List Attr) (old new : List Cell) (row : List (Option Shown)) (from to : ℕ) → ShowsCells attrs old row
    → IsLikeBut old new from to → ShowsBut attrs new row from to
shows_but attrs old new row from to s like = record {
  order = like.order;
  within = like.within;
  count = ap length s.row_is ∙ length-map (map (shown_cell attrs) old) Some ∙ length-map old (shown_cell attrs) ∙ like.count;
  front = subst (λ cs. ShowsCells attrs cs (take from row)) like.front (front_of attrs old row from s);
  back = subst (λ cs. ShowsCells attrs cs (drop to row)) like.back (back_later attrs old row 0 to (omega arith) s);
}

-- where nothing is known, all cells may differ
pub all_may_differ : (attrs : List Attr) (cells : List Cell) (row : List (Option Shown)) → length row ≡ length cells
    → ShowsBut attrs cells row 0 (length cells)
all_may_differ attrs cells row count = record {
  order = omega arith;
  within = omega arith;
  count = count;
  front = shows_none attrs;
  back = back_none attrs cells row (length cells) count (omega arith);
}

pub back_more : (attrs : List Attr) (cells : List Cell) (row : List (Option Shown)) (k id : ℕ) (cell : Cell) → k < length row → k < length cells
    → cell ≡ get_or cells k cell → get_or row k None ≡ Some (record { text = cell.text; id = id }) → IsIdOf attrs cell.attr id
    → ShowsCells attrs (drop (k + 1) cells) (drop (k + 1) row) → ShowsCells attrs (drop k cells) (drop k row)
back_more attrs cells row k id cell in_row in_cells is there known s =
    let xs : drop k cells ≡ cell ∷ drop (k + 1) cells = drop_at cells k cell in_cells ∙ ap (λ c. c ∷ drop (k + 1) cells) (sym is) in
    let one : get_or row k None ≡ Some (shown_cell attrs cell) = there ∙ (λ i. Some (record { text = cell.text; id = known.is i })) in
    let ys : drop k row ≡ Some (shown_cell attrs cell) ∷ drop (k + 1) row = drop_at row k None in_row ∙ ap (λ c. c ∷ drop (k + 1) row) one in
    subst (λ (q : List Cell × List (Option Shown)). ShowsCells attrs q.0 q.1) (λ i. (sym xs i, sym ys i))
    (record { ids = (known.has, s.ids); row_is = ap (λ l. Some (shown_cell attrs cell) ∷ l) s.row_is })

-- ---- rows that are due

pub due_more : (attrs more : List Attr) (due : Option (ℕ × ℕ)) (drawn cells : List Cell) (row : List (Option Shown))
    → IsDue due attrs drawn cells row → IsDue due (attrs ++ more) drawn cells row
due_more attrs more None drawn cells row s = shows_more attrs more cells row s
due_more attrs more (Some d) drawn cells row s = (
  s.0,
  record {
    order = s.1.order;
    within = s.1.within;
    count = s.1.count;
    front = shows_more attrs more (take d.0 cells) (take d.0 row) s.1.front;
    back = shows_more attrs more (drop d.1 cells) (drop d.1 row) s.1.back;
  },
)

pub due_grows : (dues : List (Option (ℕ × ℕ))) (drawn : List (List Cell)) (attrs after : List Attr) (rows : ShownRows) (screen : List (List Cell))
    → Grows attrs after → AreDue dues drawn attrs rows screen → AreDue dues drawn after rows screen
due_grows dues drawn attrs after rows screen g s =
    subst (λ l. AreDue dues drawn l rows screen) (sym g.1)
    (record {
      high = s.high;
      each = λ k lt. due_more attrs g.0 (get_or dues k None) (get_or drawn k []) (get_or screen k []) (get_or rows k []) (s.each k lt);
    })

-- one row more
pub dues_more : (dues after : List (Option (ℕ × ℕ))) (due : Option (ℕ × ℕ)) (drawn : List (List Cell)) (attrs : List Attr) (rows : ShownRows)
    (screen : List (List Cell)) (k : ℕ) → length dues ≡ k → after ≡ dues ++ due ∷ []
    → IsDue due attrs (get_or drawn k []) (get_or screen k []) (get_or rows k [])
    → ((j : ℕ) → j < k → IsDue (get_or dues j None) attrs (get_or drawn j []) (get_or screen j []) (get_or rows j []))
    → (j : ℕ) → j < k + 1 → IsDue (get_or after j None) attrs (get_or drawn j []) (get_or screen j []) (get_or rows j [])
dues_more dues after due drawn attrs rows screen k count is here below j lt =
    subst (λ (l : List (Option (ℕ × ℕ))). IsDue (get_or l j None) attrs (get_or drawn j []) (get_or screen j []) (get_or rows j [])) (sym is)
    (⊎_elim
    (λ (front : j < k).
    subst (λ o. IsDue o attrs (get_or drawn j []) (get_or screen j []) (get_or rows j []))
    (sym (get_or_append_left dues (due ∷ []) None j (omega (arith, front, count)))) (below j front))
    (λ (last : k ≤ j).
    let same : k ≡ j = omega (arith, last, lt) in
    subst (λ o. IsDue o attrs (get_or drawn j []) (get_or screen j []) (get_or rows j []))
    (sym (get_or_push dues due None j (count ∙ same)))
    (subst (λ i. IsDue due attrs (get_or drawn i []) (get_or screen i []) (get_or rows i [])) same here))
    (cases_lt j k))

pub attrs_step : (k : ℕ) (dues : List (Option (ℕ × ℕ))) (due : Option (ℕ × ℕ)) (drawn screen : List (List Cell)) (attrs after all : List Attr)
    (cells : List Cell) (rows : ShownRows) → k < length drawn → due ≡ get_or dues k None → cells ≡ get_or drawn k []
    → ((row : List (Option Shown)) (shown : List Cell) → IsDue due attrs cells shown row → after ≡ with_attrs_of attrs shown)
    → AreDue dues drawn attrs rows screen → with_attrs_of_rows attrs (drop k screen) ≡ all
    → (with_attrs_of_rows after (drop (k + 1) screen) ≡ all) × AreDue dues drawn after rows screen
attrs_step k dues due drawn screen attrs after all cells rows lt due_is cells_are adds s e =
    let row = get_or screen k [] in
    let below : k < length screen = omega (arith, s.high, lt) in
    let here : drop k screen ≡ row ∷ drop (k + 1) screen = drop_at screen k [] below in
    let known : IsDue due attrs cells row (get_or rows k []) =
    subst (λ (q : Option (ℕ × ℕ) × List Cell). IsDue q.0 attrs q.1 row (get_or rows k [])) (λ i. (sym due_is i, sym cells_are i)) (s.each k lt) in
    let more : after ≡ with_attrs_of attrs row = adds (get_or rows k []) row known in
    let grows : Grows attrs after = subst (Grows attrs) (sym more) (rows_grow attrs (row ∷ [])) in (
      ap (λ l. with_attrs_of_rows l (drop (k + 1) screen)) more ∙ sym (ap (with_attrs_of_rows attrs) here) ∙ e,
      due_grows dues drawn attrs after rows screen grows s,
    )

pub attrs_end : (k : ℕ) (dues : List (Option (ℕ × ℕ))) (drawn screen : List (List Cell)) (attrs all : List Attr) (rows : ShownRows)
    → length drawn ≤ k → AreDue dues drawn attrs rows screen → with_attrs_of_rows attrs (drop k screen) ≡ all → attrs ≡ all
attrs_end k dues drawn screen attrs all rows le s e =
    ap (with_attrs_of_rows attrs) (sym (drop_of_length-le screen (omega (arith, s.high, le)))) ∙ e

pub told_step : (k : ℕ) (dues : List (Option (ℕ × ℕ))) (due : Option (ℕ × ℕ)) (drawn screen : List (List Cell)) (attrs : List Attr)
    (first rows after : ShownRows) (old row : List (Option Shown)) (cells : List Cell) (front next all : List Redraw)
    → k < length drawn → length rows ≡ length drawn → due ≡ get_or dues k None → cells ≡ get_or drawn k [] → old ≡ get_or rows k []
    → ((shown : List Cell) → IsDue due attrs cells shown old → row ≡ map Some (map (shown_cell attrs) shown))
    → ((shown : List Cell) → IsDue due attrs cells shown old → next ≡ front ++ line_of_row k old (map (shown_cell attrs) shown))
    → after ≡ set rows k row → drop k rows ≡ drop k first
    → AreDue dues drawn attrs first screen → ToldTo k attrs screen rows front all
    → ToldTo (k + 1) attrs screen after next all
told_step k dues due drawn screen attrs first rows after old row cells front next all lt high due_is cells_are old_is row_is next_is after_is rest s e =
    let below : k < length screen = omega (arith, s.high, lt) in
    let long : length rows ≡ length screen = high ∙ sym s.high in
    let here : get_or (drop k rows) 0 [] ≡ get_or (drop k first) 0 [] = ap (λ (l : ShownRows). get_or l 0 []) rest in
    let at : k + 0 ≡ k = omega arith in
    let same : get_or rows k [] ≡ get_or first k [] =
    ap (λ j. get_or rows j []) (sym at) ∙ sym (get_or-drop k rows 0 []) ∙ here ∙ get_or-drop k first 0 [] ∙ ap (λ j. get_or first j []) at in
    let was : old ≡ get_or first k [] = old_is ∙ same in
    let known : IsDue due attrs cells (get_or screen k []) old =
    subst (λ (q : Option (ℕ × ℕ) × List Cell × List (Option Shown)). IsDue q.0 attrs q.1 (get_or screen k []) q.2)
    (λ i. (sym due_is i, sym cells_are i, sym was i)) (s.each k lt) in
    let shown = get_or screen k [] in
    record {
      events_are = row_step k rows after screen attrs row front all next long below after_is
          (next_is shown known ∙ ap (λ o. front ++ line_of_row k o (map (shown_cell attrs) shown)) old_is) e.events_are;
      rows_are = front_step k rows after screen attrs row long below after_is (row_is shown known) e.rows_are;
    }

-- a screen that is drawn whole
pub whole_sketch : (attrs : List Attr) (drawn screen : List (List Cell)) (rows : ShownRows) → drawn ≡ screen
    → ((k : ℕ) → length (get_or rows k []) ≡ length (get_or screen k [])) → IsSketch [] drawn attrs rows screen
whole_sketch attrs drawn screen rows is wide = record {
  high = ap length (sym is);
  drawn_is = λ k e. ap (λ l. get_or l k []) is;
  shown = λ k e. absurd (false≢true e);
  wide = wide;
}

-- rows of one width
pub same_width : (width height : ℕ) (rows : ShownRows) (screen : List (List Cell)) → AreSized width height rows → length screen ≡ height
    → AllByRecursion (λ r. length r ≡ width) screen → (k : ℕ) → length (get_or rows k []) ≡ length (get_or screen k [])
same_width width height rows screen sized high wide k = by rows screen k (sized.high ∙ sym high) sized.wide wide
  where
    by : (rs : ShownRows) (ss : List (List Cell)) (k : ℕ) → length rs ≡ length ss → AllByRecursion (λ r. length r ≡ width) rs
        → AllByRecursion (λ r. length r ≡ width) ss → length (get_or rs k []) ≡ length (get_or ss k [])
    by [] [] k e h1 h2 = refl
    by [] (s ∷ ss) k e h1 h2 = absurd (omega (arith, e))
    by (r ∷ rs) [] k e h1 h2 = absurd (omega (arith, e))
    by (r ∷ rs) (s ∷ ss) zero e h1 h2 = h1.0 ∙ sym h2.0
    by (r ∷ rs) (s ∷ ss) (suc k) e h1 h2 = by rs ss k (omega (arith, e)) h1.1 h2.1

-- rows stay as wide when they are scrolled
pub shifts_keep_sized : (width height : ℕ) (ss : List Shift) (rows : ShownRows) → AreSized width height rows
    → AreSized width height (rows_after_shifts ss rows)
shifts_keep_sized width height [] rows sized = sized
shifts_keep_sized width height (s ∷ ss) rows sized =
    shifts_keep_sized width height ss (rows_after_shift s rows) (record { high = high 0 rows ∙ sized.high; wide = wide 0 rows sized.wide })
  where
    between_wide : (left right : ℕ) (source : List (Option Shown)) (i : ℕ) (cells : List (Option Shown))
        → length (row_between left right source i cells) ≡ length cells
    between_wide left right source i [] = refl
    between_wide left right source i (c ∷ cs) = ap suc (between_wide left right source (i + 1) cs)

    high : (k : ℕ) (rs : ShownRows) → length (scrolled_from s.top s.bot s.left s.right s.rows rows k rs) ≡ length rs
    high k [] = refl
    high k (r ∷ rs) = ap suc (high (k + 1) rs)

    by : (k : ℕ) (r : List (Option Shown)) → length r ≡ width → (b : Bool)
        → length (cond b (row_between s.left s.right (cells_from rows (row_from s.top s.bot s.rows k)) 0 r) r) ≡ width
    by k r is true = between_wide s.left s.right (cells_from rows (row_from s.top s.bot s.rows k)) 0 r ∙ is
    by k r is false = is

    wide : (k : ℕ) (rs : ShownRows) → AllByRecursion (λ r. length r ≡ width) rs
        → AllByRecursion (λ r. length r ≡ width) (scrolled_from s.top s.bot s.left s.right s.rows rows k rs)
    wide k [] h = tt
    wide k (r ∷ rs) h = (by k r h.0 (leb s.top k && ltb k s.bot), wide (k + 1) rs h.1)

every_blank : (width n : ℕ) (row : List (Option Shown)) → length row ≡ width → AllByRecursion (λ r. length r ≡ width) (replicate n row)
every_blank width zero row is = tt
every_blank width (suc n) row is = (is, every_blank width n row is)

-- the rows before the lines are as wide as the screen's
pub rows_are_sized : (r : Bool) (t : Told) (w : Wanted) → r ≡ is_resized t w → IsWhole t
    → AreSized w.screen.width w.screen.height (rows_after_shifts (moves r t.views w.views) (rows_to_move r t.rows w.screen))
rows_are_sized true t w e whole =
    let blank = replicate w.screen.width (Some (shown_of (32 ∷ []) 0)) in
    record { high = length-replicate w.screen.height blank; wide = every_blank w.screen.width w.screen.height blank (length-replicate w.screen.width _) }
rows_are_sized false t w e whole =
    shifts_keep_sized w.screen.width w.screen.height (shifts_between t.views w.views) t.rows
    (whole (w.screen.width, w.screen.height) (size_is t.size w.screen.width w.screen.height (sym e)))

pub size_known : (o : Option (ℕ × ℕ)) (width height : ℕ) → is_size o width height ≡ true → o ≡ Some (width, height)
size_known o width height e = size_is o width height (ap not e)

-- ---- rows that are lent

-- rows that are lent are as short as the screen's
pub lent_are_short : (width : ℕ) (drawn screen : List (List Cell)) → width < 2 ^ 32 → AreLent drawn screen
    → AllByRecursion (λ r. length r ≡ width) screen → All (λ r. length r < 2 ^ 32) drawn
lent_are_short width drawn screen wide lent all =
    All-from_get_or (λ (r : List Cell). length r < 2 ^ 32) drawn [] (λ k lt. by k (get_or drawn k []) refl)
  where
    at_most : (rows : List (List Cell)) (k : ℕ) → AllByRecursion (λ r. length r ≡ width) rows → length (get_or rows k []) ≤ width
    at_most [] k h = omega arith
    at_most (r ∷ rows) zero h = omega (arith, h.0)
    at_most (r ∷ rows) (suc k) h = at_most rows k h.1

    by : (k : ℕ) (row : List Cell) → get_or drawn k [] ≡ row → length (get_or drawn k []) < 2 ^ 32
    by k [] e = omega (arith, ap length e)
    by k (c ∷ cs) e = omega (arith, wide, at_most screen k all, ap length (lent k (omega (arith, ap length e))))

map-put : (rows : List LentRow) (n : ℕ) (row : LentRow) → placed_rows (set rows n row) ≡ set (placed_rows rows) n (placed_cells row)
map-put [] n row = refl
map-put (r ∷ rows) zero row = refl
map-put (r ∷ rows) (suc n) row = ap (λ l. placed_cells r ∷ l) (map-put rows n row)

-- one row more is lent
pub lent_step : (rows : List LentRow) (row : LentRow) (cells : List Cell) (n : ℕ) (screen : List (List Cell)) → placed_cells row ≡ cells
    → cells ≡ get_or screen n [] → AreLent (placed_rows rows) screen → AreLent (placed_rows (set rows n row)) screen
lent_step rows row cells n screen is here lent k some =
    let put : get_or (placed_rows (set rows n row)) k [] ≡ get_or (set (placed_rows rows) n cells) k [] =
    ap (λ l. get_or l k []) (map-put rows n row ∙ ap (set (placed_rows rows) n) is) in
    put ∙ by (placed_rows rows) n k here (lent k) (omega (arith, some, ap length put))
  where
    past : (ls : List (List Cell)) (n k : ℕ) → length ls ≤ n → n ≡ k → get_or (set ls n cells) k [] ≡ []
    past ls n k le same = get_or_past (set ls n cells) k [] (omega (arith, le, same, length-set ls n cells))

    by : (ls : List (List Cell)) (n k : ℕ) → cells ≡ get_or screen n [] → (0 < length (get_or ls k []) → get_or ls k [] ≡ get_or screen k [])
        → 0 < length (get_or (set ls n cells) k []) → get_or (set ls n cells) k [] ≡ get_or screen k []
    by ls n k at old some =
        ⊎_elim
        (λ (same : n ≡ k). ⊎_elim
        (λ (lt : n < length ls). subst (λ j. get_or (set ls n cells) j [] ≡ get_or screen j []) same (get_or-set_same ls n cells [] lt ∙ at))
        (λ (le : length ls ≤ n). absurd (omega (arith, some, ap length (past ls n k le same))))
        (cases_lt n (length ls)))
        (λ (other : n ≢ k).
        let stays = get_or-set_other ls n k cells [] (λ (e : k ≡ n). other (sym e)) in
        stays ∙ old (omega (arith, some, ap length stays)))
        (cases_eq n k)

pub lent_at : (rows : List LentRow) (row : LentRow) (k : ℕ) → k < length rows → lent_cells (get_or rows k row) ≡ get_or (lent_rows rows) k []
lent_at rows row k lt = sym (get_or-map lent_cells rows k row [] lt)

-- attributes of the due cells of a row
pub due_attrs : (attrs : List Attr) (due : ℕ × ℕ) (drawn cells : List Cell) (row : List (Option Shown)) (from to : ℕ)
    → IsDue (Some due) attrs drawn cells row → to ≡ min due.1 (length drawn) → from ≡ min due.0 to
    → with_attrs_of attrs (take (to - from) (drop from drawn)) ≡ with_attrs_of attrs cells
due_attrs attrs due drawn cells row from to s to_is from_is =
    let long : length drawn ≡ length cells = ap length s.0 in
    let t : to ≡ due.1 = omega (arith, to_is, long, s.1.within) in
    let f : from ≡ due.0 = omega (arith, from_is, t, s.1.order) in
    let grows : Grows attrs (with_attrs_of attrs (take (due.1 - due.0) (drop due.0 cells))) = rows_grow attrs (take (due.1 - due.0) (drop due.0 cells) ∷ []) in
    (λ i. with_attrs_of attrs (take (t i - f i) (drop (f i) (s.0 i))))
    ∙ attrs_between attrs cells row due.0 due.1 s.1 grows.0 grows.1

-- the first and the last due cell, looked for from cells that are shown on
pub due_first : (attrs : List Attr) (cells : List Cell) (row : List (Option Shown)) (from to start first : ℕ) → ShowsBut attrs cells row from to
    → start ≡ min from (length cells) - 1 → first ≡ first_due row (map (shown_cell attrs) cells) (length cells - start) start
    → first ≡ first_due row (map (shown_cell attrs) cells) (length cells) 0
due_first attrs cells row from to start first s start_is is =
    let within : from ≤ length cells = omega (arith, s.order, s.within) in
    let at : start ≡ from - 1 = omega (arith, start_is, within) in
    is ∙ ap (λ k. first_due row (map (shown_cell attrs) cells) (length cells - k) k) at ∙ first_from attrs cells row from within s.front

pub due_end : (attrs : List Attr) (cells : List Cell) (row : List (Option Shown)) (from to stop end : ℕ) → ShowsBut attrs cells row from to
    → stop ≡ min (to + 1) (length cells) → end ≡ end_due row (map (shown_cell attrs) cells) stop
    → end ≡ end_due row (map (shown_cell attrs) cells) (length cells)
due_end attrs cells row from to stop end s stop_is is = is ∙ end_from attrs cells row to stop stop_is s.back
