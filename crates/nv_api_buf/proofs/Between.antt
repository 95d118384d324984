-- Lemmas on text between two places, line by line.
use Rattle.std.proofs.Common.{◌≡◌, ◌≢◌, ℕ, zero, suc, ◌+◌, ◌-◌, ◌==◌, ◌<◌, ◌≤◌, Bool, true, false, cond, List, [], ◌∷◌, ◌++◌, length, take, drop, get_or, refl, sym, ap, subst, ◌∙◌, arith, All, Some, slice_get, append-nil, append_assoc}
use Rattle.std.proofs.lemmas.Bool.Decides.{nat_tests}
use Rattle.std.proofs.lemmas.List.{length-take, length-drop, get_or-take, get_or-drop, take_all, take_more}
use Rattle.std.proofs.lemmas.Option.{get_or_from_slice_get}
use Rattle.std.proofs.lemmas.List.Elements.{All-cons, All-nil, All-head, All-tail, All-take, All-drop}
use Rattle.std.specs.Prelude.{if◌then◌else◌}
use Rattle.std.specs.List.{slice_range}
use Rattle.nv_value.specs.Content.{list}
use Rattle.nv_msgpack.specs.Shortest.{HasSpelling}
use Rattle.nv_lines.proofs.Ranges.{slice_range-more}
use Rattle.nv_places.specs.Flat.{line_at, IsLine}
use Rattle.nv_places.specs.declared.place.Pos.{Pos}
use Rattle.nv_buffer.specs.Splices.{IsInLine, IsNarrowLine, IsNarrowText, with_front, with_back}
use Rattle.nv_args.specs.Texts.{first_from, last_before, strings, text_between}
use Rattle.nv_api_buf.specs.inside.Parts.{part_of, joined_line}
use Rattle.nv_api_buf.proofs.Spelled.{list-spelled}
use Rattle.nv_api_buf.proofs.TextLemmas.{range_none}

-- the first line joins what stands before it, and no other does
front-first : (front : List ℕ) (lines : List (List ℕ)) (k : ℕ) → k ≡ 0 → 0 < length lines → get_or (with_front front lines) k [] ≡ front ++ get_or lines k []
front-first front [] k e h = absurd (omega arith)
front-first front (line ∷ lines) zero e h = refl
front-first front (line ∷ lines) (suc k) e h = absurd (omega arith)

front-other : (front : List ℕ) (lines : List (List ℕ)) (k : ℕ) → 0 < k → k < length lines → get_or (with_front front lines) k [] ≡ get_or lines k []
front-other front [] k e h = absurd (omega arith)
front-other front (line ∷ lines) zero e h = absurd (omega arith)
front-other front (line ∷ lines) (suc k) e h = refl

front-at : (front : List ℕ) (lines : List (List ℕ)) (k : ℕ) → k < length lines
    → get_or (with_front front lines) k [] ≡ (if k == 0 then front else []) ++ get_or lines k []
front-at front lines k h = go (k == 0) refl
  where
    go : (b : Bool) → (k == 0) ≡ b → get_or (with_front front lines) k [] ≡ cond b front [] ++ get_or lines k []
    go true e = let first : k ≡ 0 = grind (arith, nat_tests) in front-first front lines k first (omega arith)
    go false e = let other : 0 < k = grind (arith, nat_tests) in front-other front lines k other h

length-front : (front : List ℕ) (lines : List (List ℕ)) → 0 < length lines → length (with_front front lines) ≡ length lines
length-front front [] h = absurd (omega arith)
length-front front (line ∷ lines) h = refl

-- the last line joins what stands behind it, and no other does
back-last : (lines : List (List ℕ)) (back : List ℕ) (k : ℕ) → k + 1 ≡ length lines → get_or (with_back lines back) k [] ≡ get_or lines k [] ++ back
back-last [] back k h = absurd (omega arith)
back-last (line ∷ []) back zero h = refl
back-last (line ∷ []) back (suc k) h = absurd (omega arith)
back-last (line ∷ next ∷ lines) back zero h = absurd (omega arith)
back-last (line ∷ next ∷ lines) back (suc k) h = back-last (next ∷ lines) back k (omega arith)

back-other : (lines : List (List ℕ)) (back : List ℕ) (k : ℕ) → k + 1 < length lines → get_or (with_back lines back) k [] ≡ get_or lines k []
back-other [] back k h = absurd (omega arith)
back-other (line ∷ []) back k h = absurd (omega arith)
back-other (line ∷ next ∷ lines) back zero h = refl
back-other (line ∷ next ∷ lines) back (suc k) h = back-other (next ∷ lines) back k (omega arith)

back-at : (lines : List (List ℕ)) (back : List ℕ) (k n : ℕ) → n ≡ length lines → k < n
    → get_or (with_back lines back) k [] ≡ get_or lines k [] ++ (if k + 1 == n then back else [])
back-at lines back k n same h = go (k + 1 == n) refl
  where
    go : (b : Bool) → (k + 1 == n) ≡ b → get_or (with_back lines back) k [] ≡ get_or lines k [] ++ cond b back []
    go true e = let at : k + 1 ≡ n = grind (arith, nat_tests) in back-last lines back k (omega arith)
    go false e =
        let other : k + 1 < n = grind (arith, nat_tests) in
        back-other lines back k (omega arith) ∙ sym (append-nil (get_or lines k []))

-- the line at a place once they are joined
pub joined-at : (front back : List ℕ) (lines : List (List ℕ)) (k n : ℕ) (line : List ℕ) → n ≡ length lines → k < n → line ≡ get_or lines k []
    → get_or (with_back (with_front front lines) back) k [] ≡ joined_line line k n front back
joined-at front back lines k n line same h here =
    let some : 0 < length lines = omega arith in
    back-at (with_front front lines) back k n (same ∙ sym (length-front front lines some)) h
    ∙ ap (λ (l : List ℕ). l ++ (if k + 1 == n then back else [])) (front-at front lines k (omega arith))
    ∙ append_assoc (if k == 0 then front else []) (get_or lines k []) (if k + 1 == n then back else [])
    ∙ ap (λ (l : List ℕ). (if k == 0 then front else []) ++ (l ++ (if k + 1 == n then back else []))) (sym here)

-- the first line from a column on
first-first : (col : ℕ) (lines : List (List ℕ)) (k : ℕ) → k ≡ 0 → 0 < length lines → get_or (first_from col lines) k [] ≡ drop col (get_or lines k [])
first-first col [] k e h = absurd (omega arith)
first-first col (line ∷ lines) zero e h = refl
first-first col (line ∷ lines) (suc k) e h = absurd (omega arith)

first-other : (col : ℕ) (lines : List (List ℕ)) (k : ℕ) → 0 < k → k < length lines → get_or (first_from col lines) k [] ≡ get_or lines k []
first-other col [] k e h = absurd (omega arith)
first-other col (line ∷ lines) zero e h = absurd (omega arith)
first-other col (line ∷ lines) (suc k) e h = refl

first-at : (col : ℕ) (lines : List (List ℕ)) (k : ℕ) → k < length lines → get_or (first_from col lines) k [] ≡ drop (if k == 0 then col else 0) (get_or lines k [])
first-at col lines k h = go (k == 0) refl
  where
    go : (b : Bool) → (k == 0) ≡ b → get_or (first_from col lines) k [] ≡ drop (cond b col 0) (get_or lines k [])
    go true e = let first : k ≡ 0 = grind (arith, nat_tests) in first-first col lines k first (omega arith)
    go false e = let other : 0 < k = grind (arith, nat_tests) in first-other col lines k other h

length-first : (col : ℕ) (lines : List (List ℕ)) → length (first_from col lines) ≡ length lines
length-first col [] = refl
length-first col (line ∷ lines) = refl

-- the last line before a column
last-last : (col : ℕ) (lines : List (List ℕ)) (k : ℕ) → k + 1 ≡ length lines → get_or (last_before col lines) k [] ≡ take col (get_or lines k [])
last-last col [] k h = absurd (omega arith)
last-last col (line ∷ []) zero h = refl
last-last col (line ∷ []) (suc k) h = absurd (omega arith)
last-last col (line ∷ next ∷ lines) zero h = absurd (omega arith)
last-last col (line ∷ next ∷ lines) (suc k) h = last-last col (next ∷ lines) k (omega arith)

last-other : (col : ℕ) (lines : List (List ℕ)) (k : ℕ) → k + 1 < length lines → get_or (last_before col lines) k [] ≡ get_or lines k []
last-other col [] k h = absurd (omega arith)
last-other col (line ∷ []) k h = absurd (omega arith)
last-other col (line ∷ next ∷ lines) zero h = refl
last-other col (line ∷ next ∷ lines) (suc k) h = last-other col (next ∷ lines) k (omega arith)

length-last : (col : ℕ) (lines : List (List ℕ)) → length (last_before col lines) ≡ length lines
length-last col [] = refl
length-last col (line ∷ []) = refl
length-last col (line ∷ next ∷ lines) = ap suc (length-last col (next ∷ lines))

-- how many lines the text between two places has
pub length-text : (lines : List (List ℕ)) (start stop : Pos) → start.row ≤ stop.row → stop.row < length lines
    → length (text_between lines start stop) ≡ stop.row + 1 - start.row
length-text lines start stop order within =
    let rows = slice_range lines start.row (stop.row + 1) in
    length-first start.col (last_before stop.col rows) ∙ length-last stop.col rows
    ∙ omega (arith, length-take (stop.row + 1 - start.row) (drop start.row lines), length-drop start.row lines)

-- one of the rows of a range
row-at : (lines : List (List ℕ)) (from n k : ℕ) → k < n → get_or (take n (drop from lines)) k [] ≡ line_at lines (from + k)
row-at lines from n k h = get_or-take n (drop from lines) k [] h ∙ get_or-drop from lines k []

-- the line of the text between two places that is a part of this row
pub part-at : (lines : List (List ℕ)) (start stop : Pos) (row : ℕ) → start.row ≤ row → row ≤ stop.row → stop.row < length lines
    → get_or (text_between lines start stop) (row - start.row) [] ≡ part_of (line_at lines row) row start stop
part-at lines start stop row low high within =
    let n = stop.row + 1 - start.row in
    let k = row - start.row in
    let rows = take n (drop start.row lines) in
    let many : length rows ≡ n = omega (arith, length-take n (drop start.row lines), length-drop start.row lines) in
    let sum : start.row + k ≡ row = omega arith in
    let here : get_or rows k [] ≡ line_at lines row = row-at lines start.row n k (omega arith) ∙ ap (line_at lines) sum in
    first-at start.col (last_before stop.col rows) k (omega (arith, length-last stop.col rows))
    ∙ ap (λ (b : Bool). drop (cond b start.col 0) (get_or (last_before stop.col rows) k [])) (first_row (k == 0) (row == start.row) refl refl)
    ∙ ap (drop (if row == start.row then start.col else 0)) (last_row rows k refl many here (row == stop.row) refl)
  where
    first_row : (a b : Bool) → (row - start.row == 0) ≡ a → (row == start.row) ≡ b → (row - start.row == 0) ≡ (row == start.row)
    first_row true true p q = p ∙ sym q
    first_row false false p q = p ∙ sym q
    first_row true false p q = absurd (grind (arith, nat_tests))
    first_row false true p q = absurd (grind (arith, nat_tests))

    last_row : (rows : List (List ℕ)) (k : ℕ) → k ≡ row - start.row → length rows ≡ stop.row + 1 - start.row → get_or rows k [] ≡ line_at lines row
        → (b : Bool) → (row == stop.row) ≡ b → get_or (last_before stop.col rows) k [] ≡ cond b (take stop.col (line_at lines row)) (line_at lines row)
    last_row rows k place many here true e =
        let same : row ≡ stop.row = grind (arith, nat_tests) in
        last-last stop.col rows k (omega arith) ∙ ap (take stop.col) here
    last_row rows k place many here false e =
        let other : row ≢ stop.row = grind (arith, nat_tests) in
        last-other stop.col rows k (omega arith) ∙ here

-- one more line of the text between two places
pub between-more : (lines : List (List ℕ)) (start stop : Pos) (row : ℕ) → start.row ≤ row → row ≤ stop.row → stop.row < length lines
    → take (row + 1 - start.row) (text_between lines start stop)
    ≡ take (row - start.row) (text_between lines start stop) ++ part_of (line_at lines row) row start stop ∷ []
between-more lines start stop row low high within =
    let text = text_between lines start stop in
    let step : row + 1 - start.row ≡ (row - start.row) + 1 = omega arith in
    ap (λ n. take n text) step
    ∙ take_more text (row - start.row) [] (omega (arith, length-text lines start stop (omega arith) within))
    ∙ ap (λ (l : List ℕ). take (row - start.row) text ++ l ∷ []) (part-at lines start stop row low high within)

-- a line that lies between two places whole is all of its part
whole-part : (line : List ℕ) (row : ℕ) (start stop : Pos) → start.row < row → row < stop.row → part_of line row start stop ≡ line
whole-part line row start stop low high = go (row == start.row) (row == stop.row) refl refl
  where
    go : (a b : Bool) → (row == start.row) ≡ a → (row == stop.row) ≡ b → drop (cond a start.col 0) (cond b (take stop.col line) line) ≡ line
    go false false p q = refl
    go true b p q = absurd (grind (arith, nat_tests))
    go false true p q = absurd (grind (arith, nat_tests))

-- a place is in the line that is got from its row
pub part-place : (lines : List (List ℕ)) (row : ℕ) (line : List ℕ) (place : Pos) → IsInLine lines place → Some line ≡ slice_get lines row
    → row ≡ place.row → place.col ≤ length line
part-place lines row line place h there same =
    let e : line_at lines place.row ≡ line = ap (line_at lines) (sym same) ∙ get_or_from_slice_get lines row line [] (sym there) in
    subst (λ (l : List ℕ). place.col ≤ length l) e h.col

-- a part of a line is one
pub part-line : (line : List ℕ) (row : ℕ) (start stop : Pos) → IsLine line → IsLine (part_of line row start stop)
part-line line row start stop h = go (row == start.row) (row == stop.row)
  where
    go : (a b : Bool) → IsLine (drop (cond a start.col 0) (cond b (take stop.col line) line))
    go a true = All-drop (λ n. n ≢ 10) (cond a start.col 0) (take stop.col line) (All-take (λ n. n ≢ 10) stop.col line h)
    go a false = All-drop (λ n. n ≢ 10) (cond a start.col 0) line h

-- the part of the line that is got from a row
pub part-got : (lines : List (List ℕ)) (row : ℕ) (line : List ℕ) (start stop : Pos) → Some line ≡ slice_get lines row
    → part_of line row start stop ≡ part_of (line_at lines row) row start stop
part-got lines row line start stop there =
    ap (λ (l : List ℕ). part_of l row start stop) (sym (get_or_from_slice_get lines row line [] (sym there)))

-- the first line of the text between two places, and those behind it up to a row
pub between-rows : (lines : List (List ℕ)) (start stop : Pos) (n : ℕ) → start.row + 1 + n ≤ stop.row → stop.row < length lines
    → take (start.row + 1 + n - start.row) (text_between lines start stop)
    ≡ part_of (line_at lines start.row) start.row start stop ∷ slice_range lines (start.row + 1) (start.row + 1 + n)
between-rows lines start stop zero high within =
    let text = text_between lines start stop in
    let first : List ℕ = part_of (line_at lines start.row) start.row start stop in
    ap (λ n. take n text) (let same : start.row + 1 + zero - start.row ≡ start.row + 1 - start.row = omega arith in same)
    ∙ between-more lines start stop start.row (omega arith) (omega arith) within
    ∙ ap (λ n. take n text ++ first ∷ []) (let none : start.row - start.row ≡ 0 = omega arith in none)
    ∙ ap (λ l. first ∷ l) (sym (range_none lines (start.row + 1) (start.row + 1 + zero) (omega arith)))
between-rows lines start stop (suc n) high within =
    let text = text_between lines start stop in
    let first : List ℕ = part_of (line_at lines start.row) start.row start stop in
    let row = start.row + 1 + n in
    let next : start.row + 1 + suc n ≡ row + 1 = omega arith in
    ap (λ m. take (m - start.row) text) next
    ∙ between-more lines start stop row (omega arith) (omega arith) within
    ∙ ap (λ (l : List ℕ). take (row - start.row) text ++ l ∷ []) (whole-part (line_at lines row) row start stop (omega arith) (omega arith))
    ∙ ap (λ l. l ++ line_at lines row ∷ []) (between-rows lines start stop n (omega arith) within)
    ∙ ap (λ l. first ∷ l) (sym (slice_range-more lines (start.row + 1) row [] (omega arith) (omega arith)))
    ∙ ap (λ m. first ∷ slice_range lines (start.row + 1) m) (sym next)

-- the text between two places of one row
pub between-one : (lines : List (List ℕ)) (start stop : Pos) → start.row ≡ stop.row → stop.row < length lines
    → text_between lines start stop ≡ part_of (line_at lines start.row) start.row start stop ∷ []
between-one lines start stop same within =
    let text = text_between lines start stop in
    sym (take_all (start.row + 1 - start.row) text (omega (arith, length-text lines start stop (omega arith) within)))
    ∙ between-more lines start stop start.row (omega arith) (omega arith) within
    ∙ ap (λ n. take n text ++ part_of (line_at lines start.row) start.row start stop ∷ []) (let none : start.row - start.row ≡ 0 = omega arith in none)

-- and of several
pub between-several : (lines : List (List ℕ)) (start stop : Pos) → start.row < stop.row → stop.row < length lines
    → text_between lines start stop
    ≡ (part_of (line_at lines start.row) start.row start stop ∷ slice_range lines (start.row + 1) stop.row) ++ part_of (line_at lines stop.row) stop.row start stop ∷ []
between-several lines start stop order within =
    let text = text_between lines start stop in
    let last : List ℕ = part_of (line_at lines stop.row) stop.row start stop in
    let n = stop.row - (start.row + 1) in
    let place : start.row + 1 + n ≡ stop.row = omega arith in
    sym (take_all (stop.row + 1 - start.row) text (omega (arith, length-text lines start stop (omega arith) within)))
    ∙ between-more lines start stop stop.row (omega arith) (omega arith) within
    ∙ ap (λ m. take (m - start.row) text ++ last ∷ []) (sym place)
    ∙ ap (λ l. l ++ last ∷ []) (between-rows lines start stop n (omega arith) within)
    ∙ ap (λ m. (part_of (line_at lines start.row) start.row start stop ∷ slice_range lines (start.row + 1) m) ++ last ∷ []) place

-- lines that are narrow stay so where less of the first and of the last is taken
first-narrow : (col : ℕ) (lines : List (List ℕ)) → All IsNarrowLine lines → All IsNarrowLine (first_from col lines)
first-narrow col [] narrow = narrow
first-narrow col (line ∷ lines) narrow =
    let here : IsNarrowLine line = All-head IsNarrowLine line lines narrow in
    All-cons IsNarrowLine (drop col line) lines (omega (arith, length-drop col line)) (All-tail IsNarrowLine line lines narrow)

last-narrow : (col : ℕ) (lines : List (List ℕ)) → All IsNarrowLine lines → All IsNarrowLine (last_before col lines)
last-narrow col [] narrow = narrow
last-narrow col (line ∷ []) narrow =
    let here : IsNarrowLine line = All-head IsNarrowLine line [] narrow in
    All-cons IsNarrowLine (take col line) [] (omega (arith, length-take col line)) (All-nil IsNarrowLine)
last-narrow col (line ∷ next ∷ lines) narrow =
    All-cons IsNarrowLine line (last_before col (next ∷ lines)) (All-head IsNarrowLine line (next ∷ lines) narrow)
    (last-narrow col (next ∷ lines) (All-tail IsNarrowLine line (next ∷ lines) narrow))

-- the text between two places of a narrow text can be spelled as a list of strings
pub between-spelled : (lines : List (List ℕ)) (start stop : Pos) → IsNarrowText lines → start.row ≤ stop.row → stop.row < length lines
    → HasSpelling (list (strings (text_between lines start stop)))
between-spelled lines start stop narrow order within =
    list-spelled (text_between lines start stop) (omega (arith, length-text lines start stop order within, narrow.count))
    (first-narrow start.col (last_before stop.col (slice_range lines start.row (stop.row + 1)))
    (last-narrow stop.col (slice_range lines start.row (stop.row + 1))
    (All-take IsNarrowLine (stop.row + 1 - start.row) (drop start.row lines) (All-drop IsNarrowLine start.row lines narrow.columns))))
