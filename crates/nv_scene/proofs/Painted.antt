-- The marks that show on a row, among those that may.
use Rattle.std.proofs.Common.{◌≡◌, ℕ, ◌<◌, ◌≤◌, ◌&&◌, ◌||◌, Bool, true, false, cond, not, nat_le, nat_lt, suc, List, [], ◌∷◌, ◌++◌, length, map, filter, All, Option, Some, None, refl, ap, sym, subst, ◌∙◌, arith}
use Rattle.std.specs.Prelude.{IsPermutation, flat_map}
use Rattle.std.specs.Cmp.{IsTotalOrder, IsStrictWeakOrder, then_total, on_total, nat_cmp_total}
use Rattle.std.specs.Ordering.{is_lt}
use Rattle.std.proofs.lemmas.Bool.Decides.{nat_tests}
use Rattle.std.proofs.lemmas.List.Elements.{All-filter}
use Rattle.std.proofs.lemmas.List.Kept.{IsSortedBy-filter}
use Rattle.std.proofs.lemmas.List.Sorted.{All-permutation, ranks_by}
use Rattle.nv_places.specs.Places.{is_before}
use Rattle.nv_places.specs.declared.place.Pos.{Pos}
use Rattle.nv_marks.specs.Queries.{is_selected, stops_from}
use Rattle.nv_marks.specs.declared.extmark.Far.{Far}
use Rattle.nv_marks.specs.declared.extmark.Mark.{Mark}
use Rattle.nv_marks.specs.declared.extmark.Paint.{Paint}
use Rattle.nv_marks.proofs.SwapLemmas.{IsPermutation-filter}
use Rattle.nv_hl.specs.Groups.{NamedGroup}
use Rattle.nv_linedraw.specs.declared.looks.Span.{Span}
use Rattle.nv_windows.specs.Views.{row_begin}
use Rattle.nv_scene.specs.Panes.{AreSpansOf, paint_order, range_from, range_to, shows_by, shows_on, span_on}
use Rattle.nv_scene.specs.inside.Painting.{AreLaid, ShowOnRows, may_show, may_show_by, may_show_on, mark_if_on, reaching_rows, showing_marks, spans_of_mark}

pub paint_order_total : IsTotalOrder paint_order
paint_order_total =
    then_total (then_total
    (on_total (λ (m : Mark). m.priority) nat_cmp_total)
    (on_total (λ (m : Mark). m.ns) nat_cmp_total))
    (on_total (λ (m : Mark). m.id) nat_cmp_total)

pub paint_order_ranks : IsStrictWeakOrder (λ (m k : Mark). is_lt (paint_order m k))
paint_order_ranks = ranks_by paint_order_total (λ (m : Mark). m)

-- what passes the narrower test passes the wider one
filter_narrower : {X : Type 0} (p q : X → Bool) → ((x : X) → p x ≡ true → q x ≡ true) → (xs : List X) → filter p (filter q xs) ≡ filter p xs
filter_narrower p q narrower [] = refl
filter_narrower {X = X} p q narrower (x ∷ xs) = by (q x) refl (p x) refl (filter_narrower p q narrower xs)
  where
    by : (a : Bool) → q x ≡ a → (b : Bool) → p x ≡ b → filter p (filter q xs) ≡ filter p xs
        → filter p (cond a (x ∷ filter q xs) (filter q xs)) ≡ cond b (x ∷ filter p xs) (filter p xs)
    by true e true f rest = ap (λ (t : Bool). cond t (x ∷ filter p (filter q xs)) (filter p (filter q xs))) f ∙ ap (λ (l : List X). x ∷ l) rest
    by true e false f rest = ap (λ (t : Bool). cond t (x ∷ filter p (filter q xs)) (filter p (filter q xs))) f ∙ rest
    by false e false f rest = rest
    by false e true f rest = let so = narrower x f in cc

-- a mark that shows on a row isn't hidden
shown_isnt_hidden : (h t : Bool) → (not h && t) ≡ true → (h ≡ false) × (t ≡ true)
shown_isnt_hidden true t e = absurd (let no : false ≡ true = e in cc)
shown_isnt_hidden false t e = (refl, e)

-- it starts before the rows end, and in them or before them with its end in them or behind
shown_selected : (p : Pos) (row len first behind : ℕ) (stop : Option Far) (paint : Option Paint) → first ≤ row → row < behind
    → shows_by p row len stop paint ≡ true
    → (not (is_before (row_begin behind) p) && (not (is_before p (row_begin first)) || (true && stops_from (row_begin first) stop))) ≡ true
shown_selected p row len first behind None paint above below e = cc
shown_selected p row len first behind (Some far) None above below e = cc
shown_selected p row len first behind (Some far) (Some paint) above below e =
    numbers p.row p.col row first behind far.pos.row far.pos.col (nat_lt (range_from p row) (range_to far.pos row len)) above below e
  where
    numbers : (a c row first behind stop col : ℕ) (t : Bool) → first ≤ row → row < behind → (nat_le a row && nat_le row stop && t) ≡ true
        → (not (is_before (row_begin behind) (record { row = a; col = c }))
        && (not (is_before (record { row = a; col = c }) (row_begin first)) || (true && not (is_before (record { row = stop; col = col }) (row_begin first))))) ≡ true
    numbers a c row first behind stop col t above below e = grind (arith, nat_tests)

shown_stops : (p : Pos) (row len first : ℕ) (stop : Option Far) (paint : Option Paint) → first ≤ row → shows_by p row len stop paint ≡ true → may_show_by first stop paint ≡ true
shown_stops p row len first None paint h e = cc
shown_stops p row len first (Some far) None h e = cc
shown_stops p row len first (Some far) (Some paint) h e =
    numbers p.row row first far.pos.row (nat_lt (range_from p row) (range_to far.pos row len)) h e
  where
    numbers : (a row first stop : ℕ) (t : Bool) → first ≤ row → (nat_le a row && nat_le row stop && t) ≡ true → nat_le first stop ≡ true
    numbers a row first stop t h e = grind (arith, nat_tests)

shown_may : (k : Mark) (row len first : ℕ) → first ≤ row → shows_on row len k ≡ true → may_show first k ≡ true
shown_may k row len first above e =
    let both = shown_isnt_hidden k.hidden (shows_by k.start row len k.stop k.paint) e in
    ap (λ (h : Bool). not h && may_show_by first k.stop k.paint) both.0 ∙ shown_stops k.start row len first k.stop k.paint above both.1

shown_reach : (k : Mark) (row len first behind : ℕ) → first ≤ row → row < behind → shows_on row len k ≡ true → is_selected (reaching_rows first behind) k ≡ true
shown_reach k row len first behind above below e =
    shown_selected k.start row len first behind k.stop k.paint above below (shown_isnt_hidden k.hidden (shows_by k.start row len k.stop k.paint) e).1

-- the marks that show on a row are among those
shown_among : (first behind row len : ℕ) (marks : List Mark) → first ≤ row → row < behind
    → filter (shows_on row len) (showing_marks first behind marks) ≡ filter (shows_on row len) marks
shown_among first behind row len marks above below =
    filter_narrower (shows_on row len) (may_show first) (λ k e. shown_may k row len first above e) (filter (is_selected (reaching_rows first behind)) marks)
    ∙ filter_narrower (shows_on row len) (is_selected (reaching_rows first behind)) (λ k e. shown_reach k row len first behind above below e) marks

pub laid_shown : (first behind : ℕ) (marks laid : List Mark) → AreLaid first behind marks laid → ShowOnRows first behind marks laid
laid_shown first behind marks laid are = record {
  same_marks = λ row len above below.
      subst (λ (l : List Mark). IsPermutation l (filter (shows_on row len) laid)) (shown_among first behind row len marks above below)
      (IsPermutation-filter (shows_on row len) (showing_marks first behind marks) laid are.same_marks);
  rising = are.rising;
}

-- and so are those that may show on some of the rows, for these
shown_on_row : (p : Pos) (row len first behind : ℕ) (stop : Option Far) (paint : Option Paint) → first ≤ row → row < behind → shows_by p row len stop paint ≡ true
    → (nat_lt p.row behind && may_show_by first stop paint) ≡ true
shown_on_row p row len first behind None paint h i e = cc
shown_on_row p row len first behind (Some far) None h i e = cc
shown_on_row p row len first behind (Some far) (Some paint) h i e =
    numbers p.row row first behind far.pos.row (nat_lt (range_from p row) (range_to far.pos row len)) h i e
  where
    numbers : (a row first behind stop : ℕ) (t : Bool) → first ≤ row → row < behind → (nat_le a row && nat_le row stop && t) ≡ true
        → (nat_lt a behind && nat_le first stop) ≡ true
    numbers a row first behind stop t h i e = grind (arith, nat_tests)

shown_on : (k : Mark) (row len first behind : ℕ) → first ≤ row → row < behind → shows_on row len k ≡ true → may_show_on first behind k ≡ true
shown_on k row len first behind above below e =
    let both = shown_isnt_hidden k.hidden (shows_by k.start row len k.stop k.paint) e in
    ap (λ (h : Bool). nat_lt k.start.row behind && (not h && may_show_by first k.stop k.paint)) both.0
    ∙ shown_on_row k.start row len first behind k.stop k.paint above below both.1

pub shown_in_part : (first behind from to : ℕ) (marks laid : List Mark) → first ≤ from → to ≤ behind → ShowOnRows first behind marks laid
    → ShowOnRows from to marks (filter (may_show_on from to) laid)
shown_in_part first behind from to marks laid after before are = record {
  same_marks = λ row len above below.
      subst (λ (l : List Mark). IsPermutation (filter (shows_on row len) marks) l)
      (sym (filter_narrower (shows_on row len) (may_show_on from to) (λ k e. shown_on k row len from to above below e) laid))
      (are.same_marks row len (omega (arith, after, above)) (omega (arith, below, before)));
  rising = IsSortedBy-filter (λ (m k : Mark). is_lt (paint_order m k)) paint_order_ranks (may_show_on from to) laid are.rising;
}

-- their spans are those of the row
pub spans_shown : (groups : List NamedGroup) (first behind row len : ℕ) (marks laid : List Mark) (spans : List Span) → first ≤ row → row < behind
    → ShowOnRows first behind marks laid → spans ≡ map (span_on groups row len) (filter (shows_on row len) laid) → AreSpansOf groups marks row len spans
spans_shown groups first behind row len marks laid spans above below are is = record {
  order = filter (shows_on row len) laid;
  marks_are = are.same_marks row len above below;
  rising = IsSortedBy-filter (λ (m k : Mark). is_lt (paint_order m k)) paint_order_ranks (shows_on row len) laid are.rising;
  spans_are = is;
}

-- what holds of all marks holds of those
pub laid_all : (P : Mark → Type 0) (first behind : ℕ) (marks laid : List Mark) → AreLaid first behind marks laid → All P marks → All P laid
laid_all P first behind marks laid are all =
    All-permutation P (showing_marks first behind marks) laid are.same_marks
    (All-filter (may_show first) P (filter (is_selected (reaching_rows first behind)) marks)
    (All-filter (is_selected (reaching_rows first behind)) P marks all))

pub fewer_pass : {X : Type 0} (p : X → Bool) (xs : List X) → length (filter p xs) ≤ length xs
fewer_pass p [] = omega arith
fewer_pass p (x ∷ xs) = by (p x) (fewer_pass p xs)
  where
    by : (t : Bool) → length (filter p xs) ≤ length xs → length (cond t (x ∷ filter p xs) (filter p xs)) ≤ suc (length xs)
    by true rest = omega (arith, rest)
    by false rest = omega (arith, rest)

-- the spans of marks one by one
pub all_shown : (groups : List NamedGroup) (row len : ℕ) (marks : List Mark)
    → flat_map (spans_of_mark groups row len) marks ≡ map (span_on groups row len) (filter (shows_on row len) marks)
all_shown groups row len [] = refl
all_shown groups row len (k ∷ ks) = by (shows_on row len k) (all_shown groups row len ks)
  where
    by : (t : Bool) → flat_map (spans_of_mark groups row len) ks ≡ map (span_on groups row len) (filter (shows_on row len) ks)
        → cond t (span_on groups row len k ∷ []) [] ++ flat_map (spans_of_mark groups row len) ks
        ≡ map (span_on groups row len) (cond t (k ∷ filter (shows_on row len) ks) (filter (shows_on row len) ks))
    by true rest = ap (λ (l : List Span). span_on groups row len k ∷ l) rest
    by false rest = rest

-- the marks that may show on some rows, one by one
pub all_on : (first behind : ℕ) (marks : List Mark) → flat_map (mark_if_on first behind) marks ≡ filter (may_show_on first behind) marks
all_on first behind [] = refl
all_on first behind (k ∷ ks) = by (may_show_on first behind k) (all_on first behind ks)
  where
    by : (t : Bool) → flat_map (mark_if_on first behind) ks ≡ filter (may_show_on first behind) ks
        → cond t (k ∷ []) [] ++ flat_map (mark_if_on first behind) ks ≡ cond t (k ∷ filter (may_show_on first behind) ks) (filter (may_show_on first behind) ks)
    by true rest = ap (λ (l : List Mark). k ∷ l) rest
    by false rest = rest
