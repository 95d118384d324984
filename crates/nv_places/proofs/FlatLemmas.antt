-- Lemmas on the flat text of lines.
use Rattle.std.proofs.Common.{◌≡◌, ◌≢◌, List, [], ◌∷◌, ◌++◌, ℕ, refl, ap, sym, ◌∙◌, append_assoc, take, drop, arith, All, eqb, false}
use Rattle.std.proofs.lemmas.List.{take-append-drop, take_at, drop_at}
use Rattle.std.proofs.lemmas.List.Elements.{All-head, All-tail}
use Rattle.std.proofs.lemmas.Bool.Decides.{nat_tests}
use Rattle.std.specs.List.{splice, join_with_byte}
use Rattle.nv_places.specs.Flat.{flat, IsLine, row_start, lines_of}

pub flat-append : (a b : List (List ℕ)) → flat (a ++ b) ≡ flat a ++ flat b
flat-append [] b = refl
flat-append (line ∷ a) b = ap (λ t. line ++ 10 ∷ t) (flat-append a b) ∙ sym (append_assoc line (10 ∷ flat a) (flat b))

-- one more line in front of a text
lines_of-line : (line text : List ℕ) → IsLine line → lines_of (line ++ 10 ∷ text) ≡ line ∷ lines_of text
lines_of-line [] text is = refl
lines_of-line (b ∷ line) text is =
    let not_feed : b ≢ 10 = All-head (λ c. c ≢ 10) b line is in
    let is_not : eqb b 10 ≡ false = grind (arith, nat_tests) in
    let rest : lines_of (line ++ 10 ∷ text) ≡ line ∷ lines_of text = lines_of-line line text (All-tail (λ c. c ≢ 10) b line is) in
    rw (is_not, rest) refl

pub lines_of-flat : (lines : List (List ℕ)) → All IsLine lines → lines_of (flat lines) ≡ lines
lines_of-flat [] are = refl
lines_of-flat (line ∷ lines) are =
    lines_of-line line (flat lines) (All-head IsLine line lines are) ∙ ap (λ ls. line ∷ ls) (lines_of-flat lines (All-tail IsLine line lines are))

-- the flat text up to the start of a row, and from there on
pub take-row_start : (lines : List (List ℕ)) (row : ℕ) → take (row_start lines row) (flat lines) ≡ flat (take row lines)
take-row_start lines row =
    let cut : flat lines ≡ flat (take row lines) ++ flat (drop row lines) =
    sym (ap flat (take-append-drop row lines)) ∙ flat-append (take row lines) (drop row lines) in
    ap (take (row_start lines row)) cut ∙ take_at (flat (take row lines)) (flat (drop row lines)) (row_start lines row) refl

pub drop-row_start : (lines : List (List ℕ)) (row : ℕ) → drop (row_start lines row) (flat lines) ≡ flat (drop row lines)
drop-row_start lines row =
    let cut : flat lines ≡ flat (take row lines) ++ flat (drop row lines) =
    sym (ap flat (take-append-drop row lines)) ∙ flat-append (take row lines) (drop row lines) in
    ap (drop (row_start lines row)) cut ∙ drop_at (flat (take row lines)) (flat (drop row lines)) (row_start lines row) refl

pub flat-splice : (lines new : List (List ℕ)) (from to : ℕ)
    → flat (splice lines from to new) ≡ splice (flat lines) (row_start lines from) (row_start lines to) (flat new)
flat-splice lines new from to =
    rw (take-row_start lines from, drop-row_start lines to, flat-append (take from lines) (new ++ drop to lines), flat-append new (drop to lines)) refl

pub flat-joined : (line : List ℕ) (lines : List (List ℕ)) → flat (line ∷ lines) ≡ join_with_byte 10 (line ∷ lines) ++ 10 ∷ []
flat-joined line [] = refl
flat-joined line (next ∷ lines) =
    ap (λ (t : List ℕ). line ++ 10 ∷ t) (flat-joined next lines)
    ∙ sym (append_assoc line (10 ∷ join_with_byte 10 (next ∷ lines)) (10 ∷ []))
