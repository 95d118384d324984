-- Lemmas on places: rows, columns and offsets.
use Rattle.std.proofs.Common.{◌≡◌, ◌≢◌, ◌≤◌, ◌<◌, ◌+◌, ◌-◌, List, [], ◌∷◌, ◌++◌, ℕ, zero, suc, refl, ap, sym, ◌∙◌, length, take, drop, length-append, arith, All, cond, eqb, inl, inr, subst}
use Rattle.std.proofs.lemmas.List.{take-append-drop, take-append-le, length-take-le}
use Rattle.std.proofs.lemmas.List.Elements.{All-head, All-tail, All-nil, All-take}
use Rattle.std.proofs.lemmas.Bool.Decides.{nat_tests, eqb_tells}
use Rattle.std.proofs.lemmas.Bool.{cases_lt}
use Rattle.std.proofs.Math.Seq.{take-add, take-append-add}
use Rattle.std.specs.List.{join_with_byte}
use Rattle.nv_places.specs.Flat.{flat, IsLine, row_start, line_at}
use Rattle.nv_places.specs.Places.{row_count, col_count, end_of, extent_of, further, place_of, offset_of, IsPlaceIn}
use Rattle.nv_places.specs.declared.place.Pos.{Pos}
use Rattle.nv_places.specs.declared.place.Extent.{Extent}
use Rattle.nv_places.proofs.FlatLemmas.{flat-append, take-row_start, drop-row_start}

pub row_count-append : (a b : List ℕ) → row_count (a ++ b) ≡ row_count a + row_count b
row_count-append [] b = omega arith
row_count-append (x ∷ a) b = grind (arith, nat_tests, row_count-append a b)

-- where there is no byte 10 the column is the length
pub col_count_of_one_row : (a : List ℕ) → row_count a ≡ 0 → col_count a ≡ length a
col_count_of_one_row [] h = refl
col_count_of_one_row (x ∷ a) h = grind (arith, nat_tests)

pub col_count-append : (a b : List ℕ) → col_count (a ++ b) ≡ cond (eqb (row_count b) 0) (col_count a + col_count b) (col_count b)
col_count-append [] b = grind (arith, nat_tests)
col_count-append (x ∷ a) b =
    grind (arith, nat_tests, col_count-append a b, row_count-append a b, col_count_of_one_row a, col_count_of_one_row b, length-append a b)

pub end_of-append : (a b : List ℕ) → end_of (a ++ b) ≡ further (end_of a) (extent_of b)
end_of-append a b = rw (row_count-append a b, col_count-append a b) (by_rows (row_count a) (row_count b) (col_count a) (col_count b))
  where
    by_rows : (ra rb ca cb : ℕ)
        → (let p : Pos = record { row = ra + rb; col = cond (eqb rb 0) (ca + cb) cb } in p)
        ≡ further (record { row = ra; col = ca }) (record { rows = rb; cols = cb })
    by_rows ra rb ca cb = elim (eqb_tells rb 0) [
      | inl one_row ↦ let same : ra + rb ≡ ra = omega arith in rw (one_row.0, same) refl
      | inr more ↦ rw more.0 refl
    ]

-- a line has no rows, and its length is its column
pub row_count-line : (a : List ℕ) → IsLine a → row_count a ≡ 0
row_count-line [] is = refl
row_count-line (b ∷ a) is =
    let not_feed : b ≢ 10 = All-head (λ c. c ≢ 10) b a is in
    grind (arith, nat_tests, row_count-line a (All-tail (λ c. c ≢ 10) b a is))

pub row_count-flat : (lines : List (List ℕ)) → All IsLine lines → row_count (flat lines) ≡ length lines
row_count-flat [] are = refl
row_count-flat (line ∷ lines) are =
    grind (arith, nat_tests, row_count-append line (10 ∷ flat lines), row_count-line line (All-head IsLine line lines are), row_count-flat lines (All-tail IsLine line lines are))

pub col_count-flat : (lines : List (List ℕ)) → col_count (flat lines) ≡ 0
col_count-flat [] = refl
col_count-flat (line ∷ lines) =
    grind (arith, nat_tests, col_count-append line (10 ∷ flat lines), col_count-flat lines)

pub end_of-flat : (lines : List (List ℕ)) → All IsLine lines → end_of (flat lines) ≡ record { row = length lines; col = 0 }
end_of-flat lines are = rw (row_count-flat lines are, col_count-flat lines) refl

pub extent_of-flat : (lines : List (List ℕ)) → All IsLine lines → extent_of (flat lines) ≡ record { rows = length lines; cols = 0 }
extent_of-flat lines are = rw (row_count-flat lines are, col_count-flat lines) refl

pub extent_of-joined : (line : List ℕ) (lines : List (List ℕ)) → All IsLine (line ∷ lines)
    → extent_of (join_with_byte 10 (line ∷ lines)) ≡ record { rows = length lines; cols = length (line_at (line ∷ lines) (length lines)) }
extent_of-joined line [] are =
    let none : row_count line ≡ 0 = row_count-line line (All-head IsLine line [] are) in
    rw (none, col_count_of_one_row line none) refl
extent_of-joined line (next ∷ lines) are =
    let none : row_count line ≡ 0 = row_count-line line (All-head IsLine line (next ∷ lines) are) in
    let rest = extent_of-joined next lines (All-tail IsLine line (next ∷ lines) are) in
    let rows : row_count (line ++ 10 ∷ join_with_byte 10 (next ∷ lines)) ≡ suc (row_count (join_with_byte 10 (next ∷ lines))) =
    grind (arith, nat_tests, row_count-append line (10 ∷ join_with_byte 10 (next ∷ lines))) in
    let cols : col_count (line ++ 10 ∷ join_with_byte 10 (next ∷ lines)) ≡ col_count (join_with_byte 10 (next ∷ lines)) =
    grind (arith, nat_tests, col_count-append line (10 ∷ join_with_byte 10 (next ∷ lines))) in
    rw (rows, cols) (ap (λ (e : Extent). let after : Extent = record { rows = suc e.rows; cols = e.cols } in after) rest)

-- a line's first bytes have no rows, and are as many as their column
row_count-take : (n : ℕ) (a : List ℕ) → row_count a ≡ 0 → row_count (take n a) ≡ 0
row_count-take n a h =
    let parts : row_count a ≡ row_count (take n a) + row_count (drop n a) =
    sym (ap row_count (take-append-drop n a)) ∙ row_count-append (take n a) (drop n a) in
    omega arith

-- the end of the first bytes of a row
end_of-row : (lines : List (List ℕ)) (line : List ℕ) (n : ℕ) → All IsLine lines → IsLine line → n ≤ length line
    → end_of (flat lines ++ take n line) ≡ record { row = length lines; col = n }
end_of-row lines line n are is fits =
    let none : row_count (take n line) ≡ 0 = row_count-take n line (row_count-line line is) in
    let n_of : col_count (take n line) ≡ n = col_count_of_one_row (take n line) none ∙ length-take-le n line fits in
    let same : 0 + n ≡ n = omega arith in
    rw (end_of-append (flat lines) (take n line), row_count-flat lines are, col_count-flat lines, none, n_of, same) refl

-- the parts of a flat text before a row, and from the row on
flat-parts : (lines : List (List ℕ)) (row : ℕ) → flat (take row lines) ++ flat (drop row lines) ≡ flat lines
flat-parts lines row = sym (flat-append (take row lines) (drop row lines)) ∙ ap flat (take-append-drop row lines)

-- the bytes up to a column of a row
take-in_row : (lines : List (List ℕ)) (row col : ℕ) → row ≤ length lines → col ≤ length (line_at lines row)
    → take (row_start lines row + col) (flat lines) ≡ flat (take row lines) ++ take col (line_at lines row)
take-in_row lines row col in_rows in_line =
    take-add (row_start lines row) col (flat lines)
    ∙ rw (take-row_start lines row, drop-row_start lines row) (ap (λ t. flat (take row lines) ++ t) (from_row lines row col in_rows in_line))
  where
    from_row : (lines : List (List ℕ)) (row col : ℕ) → row ≤ length lines → col ≤ length (line_at lines row)
        → take col (flat (drop row lines)) ≡ take col (line_at lines row)
    from_row [] zero zero in_rows in_line = refl
    from_row [] zero (suc col) in_rows in_line = absurd (omega arith)
    from_row [] (suc row) col in_rows in_line = absurd (omega arith)
    from_row (line ∷ lines) zero col in_rows in_line = take-append-le col line (10 ∷ flat lines) in_line
    from_row (line ∷ lines) (suc row) col in_rows in_line = from_row lines row col (omega arith) in_line

IsLine-line_at : (lines : List (List ℕ)) (row : ℕ) → All IsLine lines → IsLine (line_at lines row)
IsLine-line_at [] row are = All-nil (λ c. c ≢ 10)
IsLine-line_at (line ∷ lines) zero are = All-head IsLine line lines are
IsLine-line_at (line ∷ lines) (suc row) are = IsLine-line_at lines row (All-tail IsLine line lines are)

-- a row's start and a column in it are within the text
offset-fits : (lines : List (List ℕ)) (row col : ℕ) → row ≤ length lines → col ≤ length (line_at lines row)
    → row_start lines row + col ≤ length (flat lines)
offset-fits [] zero col in_rows in_line = omega arith
offset-fits [] (suc row) col in_rows in_line = absurd (omega arith)
offset-fits (line ∷ lines) zero col in_rows in_line = omega (arith, length-append line (10 ∷ flat lines))
offset-fits (line ∷ lines) (suc row) col in_rows in_line =
    omega (arith, offset-fits lines row col (omega arith) in_line, length-append line (10 ∷ flat lines), length-append line (10 ∷ flat (take row lines)))

pub place-offset : (lines : List (List ℕ)) (p : Pos) → All IsLine lines → IsPlaceIn lines p
    → (offset_of lines p ≤ length (flat lines)) × (place_of (flat lines) (offset_of lines p) ≡ p)
place-offset lines p are is = (
  offset-fits lines p.row p.col is.row is.col,
  ap end_of (take-in_row lines p.row p.col is.row is.col)
      ∙ end_of-row (take p.row lines) (line_at lines p.row) p.col (All-take IsLine p.row lines are) (IsLine-line_at lines p.row are) is.col
      ∙ ap (λ r. let q : Pos = record { row = r; col = p.col } in q) (length-take-le p.row lines is.row),
)

pub offset-place : (lines : List (List ℕ)) (offset : ℕ) → All IsLine lines → offset ≤ length (flat lines)
    → IsPlaceIn lines (place_of (flat lines) offset) × (offset_of lines (place_of (flat lines) offset) ≡ offset)
offset-place [] zero are fits = (record { row = omega arith; col = omega arith }, refl)
offset-place [] (suc offset) are fits = absurd (omega arith)
offset-place (line ∷ lines) offset are fits = elim (cases_lt (length line) offset) [
  | inl beyond ↦ in_rest (λ k in_text. offset-place lines k (All-tail IsLine line lines are) in_text) beyond
  | inr within ↦
      let P : Pos → Type 0 = λ q. IsPlaceIn (line ∷ lines) q × (offset_of (line ∷ lines) q ≡ offset) in
      subst P (sym (in_first within)) (record { row = omega arith; col = within }, omega arith)
]
  where
    is_line : IsLine line
    is_line = All-head IsLine line lines are

    are_lines : All IsLine lines
    are_lines = All-tail IsLine line lines are

    in_first : offset ≤ length line → place_of (flat (line ∷ lines)) offset ≡ record { row = 0; col = offset }
    in_first within =
        ap end_of (take-append-le offset line (10 ∷ flat lines) within) ∙ end_of-row [] line offset (All-nil IsLine) is_line within

    -- a place of the later lines is one row further in all of them
    next : (k : ℕ) → place_of (flat (line ∷ lines)) (length line + suc k)
        ≡ (let p : Pos = record { row = suc (row_count (take k (flat lines))); col = col_count (take k (flat lines)) } in p)
    next k = ap end_of (take-append-add line (10 ∷ flat lines) (suc k)) ∙ after_line (take k (flat lines))
      where
        after_line : (text : List ℕ) → end_of (line ++ 10 ∷ text)
            ≡ (let p : Pos = record { row = suc (row_count text); col = col_count text } in p)
        after_line text =
            let rows : row_count (line ++ 10 ∷ text) ≡ suc (row_count text) =
            grind (arith, nat_tests, row_count-append line (10 ∷ text), row_count-line line is_line) in
            let cols : col_count (line ++ 10 ∷ text) ≡ col_count text =
            grind (arith, nat_tests, col_count-append line (10 ∷ text)) in
            rw (rows, cols) refl

    in_rest : ((k : ℕ) → k ≤ length (flat lines) → IsPlaceIn lines (place_of (flat lines) k) × (offset_of lines (place_of (flat lines) k) ≡ k))
        → length line < offset
        → IsPlaceIn (line ∷ lines) (place_of (flat (line ∷ lines)) offset)
        × (offset_of (line ∷ lines) (place_of (flat (line ∷ lines)) offset) ≡ offset)
    in_rest rest beyond =
        let k = offset - suc (length line) in
        let whole = length-append line (10 ∷ flat lines) in
        let in_text : k ≤ length (flat lines) = omega arith in
        let is_at : offset ≡ length line + suc k = omega arith in
        let there = ap (place_of (flat (line ∷ lines))) is_at ∙ next k in
        let place = rest k in_text in
        let rows = row_count (take k (flat lines)) in
        let before = length-append line (10 ∷ flat (take rows lines)) in
        let P : Pos → Type 0 = λ q. IsPlaceIn (line ∷ lines) q × (offset_of (line ∷ lines) q ≡ offset) in
        subst P (sym there) (record { row = omega (arith, place.0.row); col = place.0.col }, omega (arith, place.1))
