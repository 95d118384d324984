-- Folding the parts of a batch.
use Rattle.std.proofs.Common.{◌≡◌, ℕ, zero, suc, ◌+◌, ◌-◌, ◌<◌, ◌≤◌, ltb, leb, ℤ, pos, neg_ℤ, List, [], ◌∷◌, ◌++◌, length, map, take, drop, get_or, set, replicate, Bool, true, false, cond, not, ◌&&◌, Option, Some, None, option_and_then, refl, ap, sym, ◌∙◌, append_assoc, arith}
use Rattle.std.proofs.lemmas.Bool.{lt-ltb, le-leb, and_parts, eqb-true, false≢true, true≢false}
use Rattle.std.proofs.lemmas.Bool.Decides.{nat_tests}
use Rattle.std.proofs.lemmas.List.{length-take-le, length-drop, length-append, set-get_or}
use Rattle.std.proofs.Math.Seq.{get_or-append_seam, set-append_seam}
use Rattle.std.specs.Cmp.Derive.{both_true}
use Rattle.std.specs.List.{AllByRecursion}
use Rattle.nv_hl.specs.declared.attribute.Attr.{Attr}
use Rattle.nv_hl.specs.declared.colours.Colours.{Colours}
use Rattle.nv_linegrid.specs.declared.event.Redraw.{Redraw}
use Rattle.nv_linegrid.specs.declared.event.Redraw.TheVariants.{Resize, DefaultColors, Clear, LineOf, Goto}
use Rattle.nv_linegrid.specs.Client.{Shown, shown_of, ShownRows, Client, client_after, client_after_all, client_with_rows, client_with_cells, if_it_fits, row_with, row_of_spaces, rows_unknown, is_rectangle_in}
use Rattle.nv_linegrid.specs.Told.{Told, Wanted, View, client_of, table_of, blank_shown_rows, known_rows, IsInScreen}
use Rattle.nv_linegrid.specs.Rows.{runs_of, first_due, end_due, line_of_row, lines_of_rows}
use Rattle.nv_linegrid.specs.Scrolls.{Shift, shift_by, shift_between, shift_in, shifts_between, is_same_text, rows_of_lines, rows_after_shift, rows_after_shifts, scroll_of}
use Rattle.nv_linegrid.specs.Batch.{event_if, is_size, is_place, same_colours, is_resized, rows_to_scroll, cursor_before}
use Rattle.nv_linegrid.proofs.RunLemmas.{IsKnown, runs_tell, runs_name}
use Rattle.nv_linegrid.proofs.DueLemmas.{end_within, row_told, row_shown}

-- ---- events one after another

pub fold_append : (c : Client) (xs ys : List Redraw)
    → client_after_all c (xs ++ ys) ≡ option_and_then (λ d. client_after_all d ys) (client_after_all c xs)
fold_append c [] ys = refl
fold_append c (e ∷ xs) ys = by (client_after c e) (λ d. fold_append d xs ys)
  where
    by : (o : Option Client)
        → ((d : Client) → client_after_all d (xs ++ ys) ≡ option_and_then (λ d. client_after_all d ys) (client_after_all d xs))
        → option_and_then (λ d. client_after_all d (xs ++ ys)) o
        ≡ option_and_then (λ d. client_after_all d ys) (option_and_then (λ d. client_after_all d xs) o)
    by None h = refl
    by (Some d) h = h d

pub folds_then : (c d : Client) (r : Option Client) (xs ys : List Redraw) → client_after_all c xs ≡ Some d
    → client_after_all d ys ≡ r → client_after_all c (xs ++ ys) ≡ r
folds_then c d r xs ys h k =
    fold_append c xs ys ∙ ap (option_and_then (λ d. client_after_all d ys)) h ∙ k

-- ---- lines

all_take : {A : Type 0} (P : A → Type 0) (n : ℕ) (xs : List A) → AllByRecursion P xs → AllByRecursion P (take n xs)
all_take P zero xs h = tt
all_take P (suc n) [] h = tt
all_take P (suc n) (x ∷ xs) h = (h.0, all_take P n xs h.1)

all_drop : {A : Type 0} (P : A → Type 0) (n : ℕ) (xs : List A) → AllByRecursion P xs → AllByRecursion P (drop n xs)
all_drop P zero xs h = h
all_drop P (suc n) [] h = tt
all_drop P (suc n) (x ∷ xs) h = all_drop P n xs h.1

is_less : (a b : ℕ) → ltb a b ≡ true → a < b
is_less a b e = grind (arith, nat_tests)

is_not_less : (a b : ℕ) → ltb a b ≡ false → b ≤ a
is_not_less a b e = grind (arith, nat_tests)

pub fold_line : (c : Client) (rows : ShownRows) (k : ℕ) (old : List (Option Shown)) (new : List Shown) → k < length rows
    → get_or rows k [] ≡ old → length old ≡ length new → AllByRecursion (IsKnown c.table) new
    → client_after_all (client_with_rows c rows) (line_of_row k old new) ≡ Some (client_with_rows c (set rows k (map Some new)))
fold_line c rows k old new lt at len known =
    by (ltb (first_due old new (length new) 0) (end_due old new (length new))) refl
  where
    first : ℕ
    first = first_due old new (length new) 0

    end : ℕ
    end = end_due old new (length new)

    seg : List Shown
    seg = take (end - first) (drop first new)

    by : (b : Bool) → ltb first end ≡ b
        → client_after_all (client_with_rows c rows) (cond b (LineOf (pos 1) k first (runs_of seg) ∷ []) [])
        ≡ Some (client_with_rows c (set rows k (map Some new)))
    by true e =
        let some = is_less first end e in
        let least = end_within old new (length new) in
        let long : length seg ≡ end - first = length-take-le (end - first) (drop first new) (omega (arith, length-drop first new)) in
        let within : first + length seg ≤ length (get_or rows k []) = omega (arith, long, ap length at, len, least, some) in
        let tests =
        both_true (both_true (lt-ltb k (length rows) lt) (le-leb (first + length seg) (length (get_or rows k [])) within))
        (runs_name c.table seg (all_take (IsKnown c.table) (end - first) (drop first new) (all_drop (IsKnown c.table) first new known))) in
        ap (λ o. option_and_then (λ d. client_after_all d []) (client_with_cells (client_with_rows c rows) k first (runs_of seg) o)) (runs_tell seg)
        ∙ ap (λ b. option_and_then (λ d. client_after_all d []) (if_it_fits b (client_with_rows c (set rows k (row_with (get_or rows k []) first seg))))) tests
        ∙ ap (λ r. Some (client_with_rows c (set rows k (row_with r first seg)))) at
        ∙ ap (λ r. Some (client_with_rows c (set rows k r))) (row_told old new len some)
    by false e =
        let same = row_shown old new len (is_not_less first end e) in
        ap (λ r. Some (client_with_rows c r)) (sym (set-get_or rows k []) ∙ ap (set rows k) (at ∙ same))

-- rows of the same lengths
abbrev pub AreAlike : ShownRows → List (List Shown) → Type 0
AreAlike [] [] = Unit {0}
AreAlike (o ∷ os) [] = ⊥
AreAlike [] (n ∷ ns) = ⊥
AreAlike (o ∷ os) (n ∷ ns) = (length o ≡ length n) × AreAlike os ns

pub fold_lines : (c : Client) (pre : ShownRows) (k : ℕ) (olds : ShownRows) (news : List (List Shown)) → length pre ≡ k
    → AreAlike olds news → AllByRecursion (AllByRecursion (IsKnown c.table)) news
    → client_after_all (client_with_rows c (pre ++ olds)) (lines_of_rows k olds news)
    ≡ Some (client_with_rows c (pre ++ known_rows news))
fold_lines c pre k [] [] len alike known = refl
fold_lines c pre k [] (n ∷ ns) len alike known = absurd alike
fold_lines c pre k (o ∷ os) [] len alike known = absurd alike
fold_lines c pre k (o ∷ os) (n ∷ ns) len alike known =
    let rows = pre ++ o ∷ os in
    let at : get_or rows k [] ≡ o = ap (λ j. get_or rows j []) (sym len) ∙ get_or-append_seam pre o os [] in
    let within : k < length rows = omega (arith, length-append pre (o ∷ os), len) in
    let one = fold_line c rows k o n within at alike.0 known.0 in
    let put : set rows k (map Some n) ≡ (pre ++ map Some n ∷ []) ++ os =
    ap (λ j. set rows j (map Some n)) (sym len) ∙ set-append_seam pre o os (map Some n) ∙ sym (append_assoc pre (map Some n ∷ []) os) in
    let more = fold_lines c (pre ++ map Some n ∷ []) (k + 1) os ns (omega (arith, length-append pre (map Some n ∷ []), len)) alike.1 known.1 in
    folds_then (client_with_rows c rows) (client_with_rows c ((pre ++ map Some n ∷ []) ++ os)) _ (line_of_row k o n) (lines_of_rows (k + 1) os ns)
    (one ∙ ap (λ r. Some (client_with_rows c r)) put)
    (more ∙ ap (λ r. Some (client_with_rows c r)) (append_assoc pre (map Some n ∷ []) (known_rows ns)))

-- ---- the other events

-- a client whose screen has a size
abbrev pub known_client : ℕ → ℕ → ShownRows → List (ℕ × Attr) → Option Colours → Option (ℕ × ℕ) → Client
known_client width height rows table colours cursor = record {
  size = Some (width, height);
  rows = rows;
  table = table;
  colours = colours;
  cursor = cursor;
}

abbrev pub rows_before_clear : Bool → Told → Wanted → ShownRows
rows_before_clear true t w = rows_unknown w.screen.width w.screen.height
rows_before_clear false t w = t.rows

size_is : (o : Option (ℕ × ℕ)) (width height : ℕ) → is_size o width height ≡ true → o ≡ Some (width, height)
size_is None width height e = absurd (false≢true e)
size_is (Some s) width height e =
    let p = and_parts _ _ e in
    let w = eqb-true s.0 width p.0 in
    let h = eqb-true s.1 height p.1 in
    λ i. Some (w i, h i)

not_false : (b : Bool) → not b ≡ false → b ≡ true
not_false true e = refl
not_false false e = absurd (true≢false e)

pub is_size_told : (t : Told) (w : Wanted) → is_resized t w ≡ false → t.size ≡ Some (w.screen.width, w.screen.height)
is_size_told t w e =
    size_is t.size w.screen.width w.screen.height (not_false (is_size t.size w.screen.width w.screen.height) e)

pub resize_step : (r : Bool) (t : Told) (w : Wanted) → is_resized t w ≡ r
    → client_after_all (client_of t) (event_if r (Resize (pos 1) w.screen.width w.screen.height))
    ≡ Some (known_client w.screen.width w.screen.height (rows_before_clear r t w) (table_of t.attrs) t.colours (cursor_before r t))
resize_step true t w e = refl
resize_step false t w e =
    ap (λ s. Some (record { size = s; rows = t.rows; table = table_of t.attrs; colours = t.colours; cursor = t.cursor }))
    (is_size_told t w e)

colours_are : (o : Option Colours) (c : Colours) → same_colours o c ≡ true → o ≡ Some c
colours_are None c e = absurd (false≢true e)
colours_are (Some d) c e =
    let p4 = and_parts _ _ e in
    let p3 = and_parts _ _ p4.0 in
    let p2 = and_parts _ _ p3.0 in
    let p1 = and_parts _ _ p2.0 in
    let fg = eqb-true d.fg c.fg p1.0 in
    let bg = eqb-true d.bg c.bg p1.1 in
    let sp = eqb-true d.sp c.sp p2.1 in
    let cterm_fg = eqb-true d.cterm_fg c.cterm_fg p3.1 in
    let cterm_bg = eqb-true d.cterm_bg c.cterm_bg p4.1 in
    λ i. Some (record { fg = fg i; bg = bg i; sp = sp i; cterm_fg = cterm_fg i; cterm_bg = cterm_bg i })

pub colours_step : (width height : ℕ) (rows : ShownRows) (table : List (ℕ × Attr)) (old : Option Colours) (cursor : Option (ℕ × ℕ)) (new : Colours)
    → client_after_all (known_client width height rows table old cursor) (event_if (not (same_colours old new)) (DefaultColors new))
    ≡ Some (known_client width height rows table (Some new) cursor)
colours_step width height rows table old cursor new = by (same_colours old new) refl
  where
    by : (b : Bool) → same_colours old new ≡ b
        → client_after_all (known_client width height rows table old cursor) (event_if (not b) (DefaultColors new))
        ≡ Some (known_client width height rows table (Some new) cursor)
    by true e = ap (λ o. Some (known_client width height rows table o cursor)) (colours_are old new e)
    by false e = refl

map_replicate : {A B : Type 0} (f : A → B) (n : ℕ) (x : A) → map f (replicate n x) ≡ replicate n (f x)
map_replicate f zero x = refl
map_replicate f (suc n) x = ap (λ l. f x ∷ l) (map_replicate f n x)

spaces_are_blank : (width height : ℕ) → map row_of_spaces (rows_unknown width height) ≡ blank_shown_rows width height
spaces_are_blank width height =
    map_replicate row_of_spaces height (replicate width None)
    ∙ ap (replicate height) (map_replicate (λ (c : Option Shown). Some (shown_of (32 ∷ []) 0)) width None)

pub clear_step : (r : Bool) (t : Told) (w : Wanted) (table : List (ℕ × Attr)) (colours : Option Colours) (cursor : Option (ℕ × ℕ))
    → client_after_all (known_client w.screen.width w.screen.height (rows_before_clear r t w) table colours cursor) (event_if r (Clear (pos 1)))
    ≡ Some (known_client w.screen.width w.screen.height (rows_to_scroll r t w) table colours cursor)
clear_step true t w table colours cursor =
    ap (λ rows. Some (known_client w.screen.width w.screen.height rows table colours cursor))
    (spaces_are_blank w.screen.width w.screen.height)
clear_step false t w table colours cursor = refl

-- ---- scrolls

abbrev pub FitsSize : Option (ℕ × ℕ) → Shift → Type 0
FitsSize size s = is_rectangle_in size s.top s.bot s.left s.right ≡ true

pub fold_scrolls : (c : Client) (ss : List Shift) (rows : ShownRows) → AllByRecursion (FitsSize c.size) ss
    → client_after_all (client_with_rows c rows) (map scroll_of ss) ≡ Some (client_with_rows c (rows_after_shifts ss rows))
fold_scrolls c [] rows h = refl
fold_scrolls c (s ∷ ss) rows h =
    ap (λ b. option_and_then (λ d. client_after_all d (map scroll_of ss)) (if_it_fits b (client_with_rows c (rows_after_shift s rows)))) h.0
    ∙ fold_scrolls c ss (rows_after_shift s rows) h.1

shift_fits : (width height : ℕ) (v : View) (d : ℤ) (n : ℕ) → IsInScreen width height v
    → AllByRecursion (FitsSize (Some (width, height))) (shift_by v d n)
shift_fits width height v d n inside = by (ltb 0 n && ltb n v.height) refl
  where
    by : (b : Bool) → (ltb 0 n && ltb n v.height) ≡ b
        → AllByRecursion (FitsSize (Some (width, height)))
        (cond b (record { top = v.row; bot = v.row + v.height; left = v.col; right = v.col + v.width; rows = d } ∷ []) [])
    by true e =
        let p = and_parts (ltb 0 n) (ltb n v.height) e in
        let some = is_less 0 n p.0 in
        let less = is_less n v.height p.1 in
        let tests : FitsSize (Some (width, height)) (record { top = v.row; bot = v.row + v.height; left = v.col; right = v.col + v.width; rows = d }) =
        both_true (both_true (both_true (lt-ltb v.row (v.row + v.height) (omega arith)) (le-leb (v.row + v.height) height inside.rows))
        (lt-ltb v.col (v.col + v.width) (omega (arith, inside.wide)))) (le-leb (v.col + v.width) width inside.cols) in
        (tests, tt)
    by false e = tt

between_fits : (width height : ℕ) (old new : View) → IsInScreen width height new
    → AllByRecursion (FitsSize (Some (width, height))) (shift_between old new)
between_fits width height old new inside =
    by (leb old.first new.first) (leb (new.first - old.first) (length old.heights)) (leb (old.first - new.first) (length new.heights))
  where
    by : (down above below : Bool)
        → AllByRecursion (FitsSize (Some (width, height)))
        (cond down
        (cond above (shift_by new (pos (rows_of_lines (new.first - old.first) old)) (rows_of_lines (new.first - old.first) old)) [])
        (cond below (shift_by new (neg_ℤ (pos (rows_of_lines (old.first - new.first) new))) (rows_of_lines (old.first - new.first) new)) []))
    by true true below = shift_fits width height new _ _ inside
    by true false below = tt
    by false above true = shift_fits width height new _ _ inside
    by false above false = tt

in_fits : (width height : ℕ) (olds : List View) (new : View) → IsInScreen width height new
    → AllByRecursion (FitsSize (Some (width, height))) (shift_in olds new)
in_fits width height [] new inside = tt
in_fits width height (old ∷ olds) new inside =
    by (is_same_text old new) (between_fits width height old new inside) (in_fits width height olds new inside)
  where
    by : (b : Bool) → AllByRecursion (FitsSize (Some (width, height))) (shift_between old new)
        → AllByRecursion (FitsSize (Some (width, height))) (shift_in olds new)
        → AllByRecursion (FitsSize (Some (width, height))) (cond b (shift_between old new) (shift_in olds new))
    by true here more = here
    by false here more = more

all_append : {A : Type 0} (P : A → Type 0) (xs ys : List A) → AllByRecursion P xs → AllByRecursion P ys → AllByRecursion P (xs ++ ys)
all_append P [] ys h k = k
all_append P (x ∷ xs) ys h k = (h.0, all_append P xs ys h.1 k)

pub shifts_fit : (width height : ℕ) (olds news : List View) → AllByRecursion (IsInScreen width height) news
    → AllByRecursion (FitsSize (Some (width, height))) (shifts_between olds news)
shifts_fit width height olds [] inside = tt
shifts_fit width height olds (new ∷ news) inside =
    all_append (FitsSize (Some (width, height))) (shift_in olds new) (shifts_between olds news) (in_fits width height olds new inside.0)
    (shifts_fit width height olds news inside.1)

-- ---- the cursor

place_is : (o : Option (ℕ × ℕ)) (p : ℕ × ℕ) → is_place o p ≡ true → o ≡ Some p
place_is None p e = absurd (false≢true e)
place_is (Some q) p e =
    let h = and_parts _ _ e in
    let row = eqb-true q.0 p.0 h.0 in
    let col = eqb-true q.1 p.1 h.1 in
    λ i. Some (row i, col i)

pub goto_step : (width height : ℕ) (rows : ShownRows) (table : List (ℕ × Attr)) (colours : Option Colours) (old : Option (ℕ × ℕ)) (new : ℕ × ℕ)
    → new.0 < height → new.1 < width
    → client_after_all (known_client width height rows table colours old) (event_if (not (is_place old new)) (Goto (pos 1) new.0 new.1))
    ≡ Some (known_client width height rows table colours (Some new))
goto_step width height rows table colours old new row col = by (is_place old new) refl
  where
    by : (b : Bool) → is_place old new ≡ b
        → client_after_all (known_client width height rows table colours old) (event_if (not b) (Goto (pos 1) new.0 new.1))
        ≡ Some (known_client width height rows table colours (Some new))
    by true e = ap (λ o. Some (known_client width height rows table colours o)) (place_is old new e)
    by false e =
        ap (λ b. option_and_then (λ d. client_after_all d []) (if_it_fits b (known_client width height rows table colours (Some new))))
        (both_true (lt-ltb new.0 height row) (lt-ltb new.1 width col))
