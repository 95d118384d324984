-- Lemmas on lines that are put within a line.
use Rattle.std.proofs.Common.{◌≡◌, ℕ, ◌+◌, ◌<◌, ◌≤◌, List, [], ◌∷◌, ◌++◌, length, take, drop, Some, None, slice_get, slice_range, get_or, All, refl, sym, ap, suc, ◌∙◌, append_assoc, add-one, arith, rules}
use Rattle.std.proofs.Math.Seq.{take-add, drop-cons}
use Rattle.std.proofs.lemmas.List.{take-append-le, drop-append-le, drop-drop, take_more}
use Rattle.std.proofs.lemmas.List.Edits.{between_more}
use Rattle.std.proofs.lemmas.List.Elements.{All-append, All-cons, All-get_or}
use Rattle.std.proofs.lemmas.Option.{get_or_from_slice_get, slice_get-get_or}
use Rattle.std.specs.List.{splice, join_with_byte}
use Rattle.nv_places.specs.Flat.{flat, row_start, line_at}
use Rattle.nv_places.specs.Places.{offset_of}
use Rattle.nv_places.specs.declared.place.Pos.{Pos}
use Rattle.nv_places.proofs.FlatLemmas.{flat-append, take-row_start, drop-row_start}
use Rattle.nv_buffer.specs.Splices.{IsInLine, with_front, with_back, lines_between}

pub with_back-last : (lines : List (List ℕ)) (last back : List ℕ) → with_back (lines ++ last ∷ []) back ≡ lines ++ (last ++ back) ∷ []
with_back-last [] last back = refl
with_back-last (line ∷ []) last back = refl
with_back-last (line ∷ next ∷ lines) last back = ap (λ ls. line ∷ ls) (with_back-last (next ∷ lines) last back)

-- the last line taken off, made longer and put back
pub back_put : (old rest now : List (List ℕ)) (last bytes back : List ℕ) → old ≡ rest ++ last ∷ [] → bytes ≡ last ++ back
    → now ≡ rest ++ bytes ∷ [] → now ≡ with_back old back
back_put old rest now last bytes back old_is bytes_is now_is = now_is ∙ rw (bytes_is, old_is) (sym (with_back-last rest last back))

-- a copy of lines that has got one line further
pub copied_more : (lines copy more : List (List ℕ)) (place : ℕ) (line new : List ℕ) → place < length lines → copy ≡ take place lines
    → Some line ≡ slice_get lines place → new ≡ line → more ≡ copy ++ new ∷ [] → more ≡ take (place + 1) lines
copied_more lines copy more place line new h copy_is here new_is more_is =
    more_is
    ∙ rw (copy_is, new_is) (
    sym (take_more lines place line h ∙ ap (λ (l : List ℕ). take place lines ++ l ∷ []) (get_or_from_slice_get lines place line line (sym here)))
    )

pub none_within : (lines : List (List ℕ)) (place : ℕ) → place < length lines → None ≡ slice_get lines place → ⊥
none_within lines place h e = let some = slice_get-get_or lines place [] h in let both = e ∙ some in cc

-- a fact of each line so far and of this one
pub All-one_more : (P : List ℕ → Type 0) (lines : List (List ℕ)) (place : ℕ) (line : List ℕ) → place < length lines
    → Some line ≡ slice_get lines place → All P (take place lines) → P line → All P (take (place + 1) lines)
All-one_more P lines place line h here all one =
    let same : get_or lines place line ≡ line = get_or_from_slice_get lines place line line (sym here) in
    rw (take_more lines place line h, same) (All-append P (take place lines) (line ∷ []) all (All-cons P line [] one (search rules)))

-- a fact of each line, at one of them
pub All-here : (P : List ℕ → Type 0) (lines : List (List ℕ)) (place : ℕ) (line : List ℕ) → place < length lines
    → Some line ≡ slice_get lines place → All P lines → P line
All-here P lines place line h here all =
    let same : get_or lines place line ≡ line = get_or_from_slice_get lines place line line (sym here) in
    rw same at (All-get_or P lines place line h all)

length-with_back : (line : List ℕ) (lines : List (List ℕ)) (back : List ℕ) → length (with_back (line ∷ lines) back) ≡ length (line ∷ lines)
length-with_back line [] back = refl
length-with_back line (next ∷ lines) back = ap (λ n. suc n) (length-with_back next lines back)

pub length-between : (front back : List ℕ) (new : List (List ℕ)) → 0 < length new → length (with_back (with_front front new) back) ≡ length new
length-between front back [] some = absurd (omega arith)
length-between front back (line ∷ lines) some = length-with_back (front ++ line) lines back

pub none_first : (lines : List (List ℕ)) → None ≡ slice_get lines 0 → lines ≡ [] ∷ [] → ⊥
none_first [] h e = cc
none_first (line ∷ lines) h e = cc

pub one_first : (lines : List (List ℕ)) (line : List ℕ) → Some line ≡ slice_get lines 0 → length lines ≡ 1 → lines ≡ line ∷ []
one_first [] line h e = cc
one_first (first ∷ []) line h e = cc
one_first (first ∷ next ∷ lines) line h e = absurd (omega arith)

-- one line that is empty
pub one_empty : (lines : List (List ℕ)) (line : List ℕ) (P : Type 0) → Some line ≡ slice_get lines 0 → length lines ≡ 1
    → (P → line ≡ []) × (line ≡ [] → P) → (P → lines ≡ [] ∷ []) × (lines ≡ [] ∷ [] → P)
one_empty lines line P here count is =
    let one : lines ≡ line ∷ [] = one_first lines line here count in (
      λ p. one ∙ ap (λ (l : List ℕ). l ∷ []) (is.0 p),
      λ e. is.1 (let both : line ∷ [] ≡ [] ∷ [] = sym one ∙ e in cc),
    )

flat-with_back : (line : List ℕ) (lines : List (List ℕ)) (back : List ℕ)
    → flat (with_back (line ∷ lines) back) ≡ join_with_byte 10 (line ∷ lines) ++ (back ++ 10 ∷ [])
flat-with_back line [] back = append_assoc line back (10 ∷ [])
flat-with_back line (next ∷ lines) back =
    ap (λ (t : List ℕ). line ++ 10 ∷ t) (flat-with_back next lines back)
    ∙ sym (append_assoc line (10 ∷ join_with_byte 10 (next ∷ lines)) (back ++ 10 ∷ []))

join-with_front : (front line : List ℕ) (lines : List (List ℕ))
    → join_with_byte 10 ((front ++ line) ∷ lines) ≡ front ++ join_with_byte 10 (line ∷ lines)
join-with_front front line [] = refl
join-with_front front line (next ∷ lines) = append_assoc front line (10 ∷ join_with_byte 10 (next ∷ lines))

-- the flat text of lines put between two places
pub flat-between : (front back : List ℕ) (new : List (List ℕ)) → 0 < length new
    → flat (with_back (with_front front new) back) ≡ front ++ (join_with_byte 10 new ++ (back ++ 10 ∷ []))
flat-between front back [] some = absurd (omega arith)
flat-between front back (line ∷ lines) some =
    flat-with_back (front ++ line) lines back
    ∙ ap (λ (t : List ℕ). t ++ (back ++ 10 ∷ [])) (join-with_front front line lines)
    ∙ append_assoc front (join_with_byte 10 (line ∷ lines)) (back ++ 10 ∷ [])

-- the flat text from a row on
flat-drop : (lines : List (List ℕ)) (row : ℕ) → row < length lines
    → flat (drop row lines) ≡ line_at lines row ++ 10 ∷ flat (drop (row + 1) lines)
flat-drop lines row h = rw (add-one row) (ap flat (drop-cons lines row [] h))

-- the flat text before a place and from there on
pub take-place : (lines : List (List ℕ)) (row col : ℕ) → row < length lines → col ≤ length (line_at lines row)
    → take (row_start lines row + col) (flat lines) ≡ flat (take row lines) ++ take col (line_at lines row)
take-place lines row col h k =
    take-add (row_start lines row) col (flat lines)
    ∙ rw (
      take-row_start lines row,
      drop-row_start lines row,
      flat-drop lines row h,
      take-append-le col (line_at lines row) (10 ∷ flat (drop (row + 1) lines)) k,
    ) refl

pub drop-place : (lines : List (List ℕ)) (row col : ℕ) → row < length lines → col ≤ length (line_at lines row)
    → drop (row_start lines row + col) (flat lines) ≡ drop col (line_at lines row) ++ 10 ∷ flat (drop (row + 1) lines)
drop-place lines row col h k =
    sym (drop-drop col (row_start lines row) (flat lines))
    ∙ rw (drop-row_start lines row, flat-drop lines row h) (drop-append-le col (line_at lines row) (10 ∷ flat (drop (row + 1) lines)) k)

regrouped : (a b c d e : List ℕ) → a ++ ((b ++ (c ++ (d ++ 10 ∷ []))) ++ e) ≡ (a ++ b) ++ (c ++ (d ++ 10 ∷ e))
regrouped a b c d e = simp append_assoc

-- lines put between two places are bytes put between their offsets
pub flat-text_splice : (lines new : List (List ℕ)) (start stop : Pos) → IsInLine lines start → IsInLine lines stop → 0 < length new
    → flat (splice lines start.row (stop.row + 1) (lines_between lines start stop new))
    ≡ splice (flat lines) (offset_of lines start) (offset_of lines stop) (join_with_byte 10 new)
flat-text_splice lines new start stop s e some =
    let front : List ℕ = take start.col (line_at lines start.row) in
    let back : List ℕ = drop stop.col (line_at lines stop.row) in
    let put : List (List ℕ) = lines_between lines start stop new in
    let rest : List (List ℕ) = drop (stop.row + 1) lines in
    flat-append (take start.row lines) (put ++ rest)
    ∙ ap (λ (t : List ℕ). flat (take start.row lines) ++ t) (
    flat-append put rest ∙ ap (λ (t : List ℕ). t ++ flat rest) (flat-between front back new some)
    )
    ∙ regrouped (flat (take start.row lines)) front (join_with_byte 10 new) back (flat rest)
    ∙ sym (
    ap (λ (t : List ℕ). t ++ (join_with_byte 10 new ++ drop (offset_of lines stop) (flat lines))) (take-place lines start.row start.col s.row s.col)
    ∙ ap (λ (t : List ℕ). (flat (take start.row lines) ++ front) ++ (join_with_byte 10 new ++ t)) (drop-place lines stop.row stop.col e.row e.col)
    )

-- rows of a text that have got one row further
pub range_more : (text rows more : List (List ℕ)) (from row : ℕ) (line new : List ℕ) → from ≤ row → row < length text
    → rows ≡ slice_range text from row → Some line ≡ slice_get text row → new ≡ line → more ≡ rows ++ new ∷ []
    → more ≡ slice_range text from (row + 1)
range_more text rows more from row line new order within rows_is here new_is more_is =
    let there : new ≡ get_or text row line = new_is ∙ sym (get_or_from_slice_get text row line line (sym here)) in
    more_is ∙ (λ i. rows_is i ++ there i ∷ []) ∙ sym (between_more text from row line order within)
