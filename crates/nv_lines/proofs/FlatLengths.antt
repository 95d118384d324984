-- Lemmas on the length of flat text.
use Rattle.std.proofs.Common.{◌≡◌, ℕ, ◌+◌, ◌-◌, ◌<◌, ◌≤◌, List, [], ◌∷◌, ◌++◌, length, take, drop, get_or, refl, sym, ap, ◌∙◌, arith, length-append}
use Rattle.std.proofs.lemmas.List.{take-append-drop, take_all, take_more, drop-drop, length-drop}
use Rattle.std.specs.List.{splice}
use Rattle.nv_places.specs.Flat.{flat, row_start}

pub length-flat-append : (a b : List (List ℕ)) → length (flat (a ++ b)) ≡ length (flat a) + length (flat b)
length-flat-append [] b = omega arith
length-flat-append (line ∷ a) b =
    omega (arith, length-append line (10 ∷ flat (a ++ b)), length-append line (10 ∷ flat a), length-flat-append a b)

-- the flat text up to a row and from there on
pub flat_halves : (lines : List (List ℕ)) (row : ℕ) → length (flat lines) ≡ row_start lines row + length (flat (drop row lines))
flat_halves lines row =
    sym (ap (λ ls. length (flat ls)) (take-append-drop row lines)) ∙ length-flat-append (take row lines) (drop row lines)

-- the flat text up to a row is no longer than all of it
pub row_start-le : (lines : List (List ℕ)) (row : ℕ) → row_start lines row ≤ length (flat lines)
row_start-le lines row = omega (arith, flat_halves lines row)

-- what precedes a row, and the rows from there on
pub flat_rest : (lines was : List (List ℕ)) (row : ℕ) → was ≡ lines
    → length (flat lines) ≡ row_start lines row + length (flat (take (length was - row) (drop row was)))
flat_rest lines was row same =
    let rest : take (length was - row) (drop row was) ≡ drop row lines =
    take_all (length was - row) (drop row was) (omega (arith, length-drop row was)) ∙ ap (drop row) same in
    omega (arith, flat_halves lines row, ap (λ ls. length (flat ls)) rest)

-- the row after this one begins past its bytes and its line end
pub row_start-more : (lines : List (List ℕ)) (row : ℕ) (line : List ℕ) → row < length lines → line ≡ get_or lines row line
    → row_start lines (row + 1) ≡ row_start lines row + (length line + 1)
row_start-more lines row line h e =
    let more : row_start lines (row + 1) ≡ row_start lines row + length (flat (get_or lines row line ∷ [])) =
    ap (λ ls. length (flat ls)) (take_more lines row line h) ∙ length-flat-append (take row lines) (get_or lines row line ∷ []) in
    omega (arith, length-append (get_or lines row line) (10 ∷ []), ap length e)

-- what precedes a row, the row and its line end lie within the flat text
pub row_fits : (lines : List (List ℕ)) (row : ℕ) (line : List ℕ) → row < length lines → line ≡ get_or lines row line
    → row_start lines row + (length line + 1) ≤ length (flat lines)
row_fits lines row line h e = omega (arith, row_start-more lines row line h e, row_start-le lines (row + 1))

-- the flat text of what precedes some rows, of these rows, and of what follows them
pub flat_parts : (lines was : List (List ℕ)) (from to : ℕ) → was ≡ lines → from ≤ to
    → length (flat lines)
    ≡ row_start lines from + (length (flat (take (to - from) (drop from was))) + length (flat (drop to lines)))
flat_parts lines was from to same h =
    let rest : List (List ℕ) = drop from lines in
    let after : drop (to - from) rest ≡ drop to lines =
    drop-drop (to - from) from lines ∙ ap (λ n. drop n lines) (let sum : from + (to - from) ≡ to = omega arith in sum) in
    let front : length (flat lines) ≡ row_start lines from + length (flat rest) =
    sym (ap (λ ls. length (flat ls)) (take-append-drop from lines)) ∙ length-flat-append (take from lines) rest in
    let back : length (flat rest) ≡ length (flat (take (to - from) rest)) + length (flat (drop (to - from) rest)) =
    sym (ap (λ ls. length (flat ls)) (take-append-drop (to - from) rest)) ∙ length-flat-append (take (to - from) rest) (drop (to - from) rest) in
    let middle : length (flat (take (to - from) (drop from was))) ≡ length (flat (take (to - from) rest)) =
    ap (λ ls. length (flat (take (to - from) (drop from ls)))) same in
    omega (arith, front, back, middle, ap (λ ls. length (flat ls)) after)

-- how far apart two rows begin
pub rows_apart : (lines was : List (List ℕ)) (from to : ℕ) → was ≡ lines → from ≤ to
    → row_start lines from + length (flat (take (to - from) (drop from was))) ≡ row_start lines to
rows_apart lines was from to same h = omega (arith, flat_parts lines was from to same h, flat_halves lines to)

-- the flat text after rows were replaced
pub length-flat-splice : (lines new : List (List ℕ)) (from to : ℕ)
    → length (flat (splice lines from to new)) ≡ row_start lines from + (length (flat new) + length (flat (drop to lines)))
length-flat-splice lines new from to =
    omega (arith, length-flat-append (take from lines) (new ++ drop to lines), length-flat-append new (drop to lines))

-- the flat text after rows were replaced is no longer than what was there and what was put together
pub length-flat-splice-le : (lines new : List (List ℕ)) (from to : ℕ) → from ≤ to
    → length (flat (splice lines from to new)) ≤ length (flat lines) + length (flat new)
length-flat-splice-le lines new from to h = omega (arith, length-flat-splice lines new from to, flat_parts lines lines from to refl h)
