-- Edits of a buffer as splices.
use Rattle.std.proofs.Common.{◌≡◌, ℕ, ◌+◌, ◌-◌, ◌<◌, ◌≤◌, Bool, true, false, eqb, ◌&&◌, List, [], ◌∷◌, ◌++◌, length, take, drop, All, Option, Some, None, refl, sym, ap, ◌∙◌, arith}
use Rattle.std.specs.Prelude.{◌↔◌, IsSome, IfOk, IfSome, Ok, Err, Result}
use Rattle.std.specs.List.{join_with_byte}
use Rattle.std.proofs.Math.Seq.{take-add}
use Rattle.std.proofs.lemmas.List.{length-drop, length-take-le, length-append}
use Rattle.std.proofs.lemmas.Bool.Decides.{nat_tests}
use Rattle.nv_places.specs.Flat.{flat, IsLine, row_start}
use Rattle.nv_places.specs.Places.{offset_of, is_before, IsPlaceIn, place_of}
use Rattle.nv_places.specs.declared.place.Pos.{Pos}
use Rattle.nv_places.proofs.FlatLemmas.{flat-append, flat-joined}
use Rattle.nv_places.proofs.PlaceLemmas.{place-offset}
use Rattle.nv_buffer.specs.Splices.{IsInLine, IsBufferText}
use Rattle.nv_buffer.specs.Steps.{IsBuffer}
use Rattle.nv_buffer.specs.Content.{Content, IsEdit, rows_event, text_event, next_part}
use Rattle.nv_buffer.specs.declared.buffer.Spliced.{Spliced}
use Rattle.nv_buffer.specs.declared.edit.ChangePart.{ChangePart}
use Rattle.nv_model.specs.Buffers.{is_empty_splice, rows_splice, text_splice}
use Rattle.nv_model.proofs.Told.{rows_are_spliced, text_is_spliced}
use Rattle.nv_editor.specs.inside.Splicing.{IsMadeOrLeft}

-- a test of both
both_true : (a b : Bool) → (a && b) ≡ true → (a ≡ true) × (b ≡ true)
both_true true true is = (refl, refl)
both_true true false is = (refl, is)
both_true false b is = (is, cc)

equal : (m n : ℕ) → eqb m n ≡ true → m ≡ n
equal m n is = grind (arith, nat_tests)

equal_test : (m n : ℕ) → m ≡ n → eqb m n ≡ true
equal_test m n is = grind (arith, nat_tests)

some_flat : (lines : List (List ℕ)) → length (flat lines) ≡ 0 → lines ≡ []
some_flat [] is = refl
some_flat (line ∷ lines) is = absurd (omega (arith, length-append line (10 ∷ flat lines)))

-- each row takes a byte at least
starts_apart : (lines : List (List ℕ)) (from to : ℕ) → from ≤ to → to ≤ length lines → row_start lines from ≡ row_start lines to → from ≡ to
starts_apart lines from to order within same =
    let rest : List (List ℕ) = take (to - from) (drop from lines) in
    let parts : take to lines ≡ take from lines ++ rest =
    ap (λ (n : ℕ). take n lines) (omega arith) ∙ take-add from (to - from) lines in
    let lengths : row_start lines to ≡ length (flat (take from lines) ++ flat rest) =
    ap (λ (ls : List (List ℕ)). length (flat ls)) parts ∙ ap length (flat-append (take from lines) rest) in
    let none : rest ≡ [] = some_flat rest (omega (arith, length-append (flat (take from lines)) (flat rest))) in
    let count : length rest ≡ to - from = length-take-le (to - from) (drop from lines) (omega (arith, length-drop from lines)) in
    let zero_is : length rest ≡ 0 = ap length none in
    omega arith

pub rows_empty : (part : ChangePart) (text new : List (List ℕ)) (from to : ℕ) → from ≤ to → to ≤ length text → is_empty_splice (rows_splice part text from to new) ≡ true
    → (from ≡ to) × (new ≡ [])
rows_empty part text new from to order within is =
    let both = both_true (eqb (row_start text from) (row_start text to)) (eqb (length (flat new)) 0) is in
    (starts_apart text from to order within (equal (row_start text from) (row_start text to) both.0), some_flat new (equal (length (flat new)) 0 both.1))

pub rows_none : (part : ChangePart) (text new : List (List ℕ)) (from to : ℕ) → (from ≡ to) × (new ≡ []) → is_empty_splice (rows_splice part text from to new) ≡ true
rows_none part text new from to none =
    let starts : eqb (row_start text from) (row_start text to) ≡ true = equal_test (row_start text from) (row_start text to) (ap (row_start text) none.0) in
    let bytes : eqb (length (flat new)) 0 ≡ true = equal_test (length (flat new)) 0 (ap (λ (ls : List (List ℕ)). length (flat ls)) none.1) in
    ap (λ (t : Bool). t && eqb (length (flat new)) 0) starts ∙ bytes

-- joined lines of no bytes are one empty line
join_none : (new : List (List ℕ)) → 0 < length new → length (join_with_byte 10 new) ≡ 0 → new ≡ [] ∷ []
join_none [] some is = absurd (omega arith)
join_none (line ∷ lines) some is =
    let whole : length (flat (line ∷ lines)) ≡ length (join_with_byte 10 (line ∷ lines) ++ 10 ∷ []) = ap length (flat-joined line lines) in
    let one : length line + (1 + length (flat lines)) ≡ 1 = omega (
      arith,
      length-append line (10 ∷ flat lines),
      length-append (join_with_byte 10 (line ∷ lines)) (10 ∷ []),
    ) in
    let none : lines ≡ [] = some_flat lines (omega arith) in
    let empty : line ≡ [] = no_bytes line (omega arith) in
    ap (λ (ls : List (List ℕ)). line ∷ ls) none ∙ ap (λ (l : List ℕ). l ∷ []) empty
  where
    no_bytes : (l : List ℕ) → length l ≡ 0 → l ≡ []
    no_bytes [] is = refl
    no_bytes (b ∷ bs) is = absurd (omega arith)

pub place_in : (text : List (List ℕ)) (p : Pos) → IsInLine text p → IsPlaceIn text p
place_in text p is = record { row = omega (arith, is.row); col = is.col }

pub text_empty : (part : ChangePart) (text new : List (List ℕ)) (start stop : Pos) → All IsLine text → IsInLine text start → IsInLine text stop → 0 < length new
    → is_empty_splice (text_splice part text start stop new) ≡ true → (start ≡ stop) × (new ≡ [] ∷ [])
text_empty part text new start stop lines start_in stop_in some is =
    let both = both_true (eqb (offset_of text start) (offset_of text stop)) (eqb (length (join_with_byte 10 new)) 0) is in
    let at_start = (place-offset text start lines (place_in text start start_in)).1 in
    let at_stop = (place-offset text stop lines (place_in text stop stop_in)).1 in (
      sym at_start ∙ ap (place_of (flat text)) (equal (offset_of text start) (offset_of text stop) both.0) ∙ at_stop,
      join_none new some (equal (length (join_with_byte 10 new)) 0 both.1),
    )

pub text_none : (part : ChangePart) (text new : List (List ℕ)) (start stop : Pos) → (start ≡ stop) × (new ≡ [] ∷ []) → is_empty_splice (text_splice part text start stop new) ≡ true
text_none part text new start stop none =
    let offsets : eqb (offset_of text start) (offset_of text stop) ≡ true = equal_test (offset_of text start) (offset_of text stop) (ap (offset_of text) none.0) in
    let bytes : eqb (length (join_with_byte 10 new)) 0 ≡ true = equal_test (length (join_with_byte 10 new)) 0 (ap (λ (ls : List (List ℕ)). length (join_with_byte 10 ls)) none.1) in
    ap (λ (t : Bool). t && eqb (length (join_with_byte 10 new)) 0) offsets ∙ bytes

-- by a test
by_test : (P : Type 0) (t : Bool) → (t ≡ true → P) → (t ≡ false → P) → P
by_test P true yes_is no_is = yes_is refl
by_test P false yes_is no_is = no_is refl

not_both : (t : Bool) → t ≡ true → t ≡ false → ⊥
not_both t is isnt = let both = sym is ∙ isnt in cc

-- ---- what the calls of a buffer came to
rows_made : (made : Option Spliced) (b c : Content) (from to : ℕ) (new : List (List ℕ)) → from ≤ to → to ≤ length b.text
    → IsBuffer b.text b.tick b.undo b.unsealed → IsBufferText b.text → IsBufferText c.text
    → (IsSome made ↔ ¬ ((from ≡ to) × (new ≡ []))) → (made ≡ None → c ≡ b) → IfSome made (λ (e : Spliced). e ≡ rows_event b from to new)
    → IfSome made (IsEdit b c (flat new)) → IsMadeOrLeft made b c (rows_splice (next_part b) b.text from to new)
rows_made None b c from to new order within buffer text later some none told edit = record {
  same = none refl;
  none = by_test (is_empty_splice (rows_splice (next_part b) b.text from to new) ≡ true) (is_empty_splice (rows_splice (next_part b) b.text from to new)) (λ is. is)
      (λ isnt. absurd (nothing (some.1 (λ both. not_both (is_empty_splice (rows_splice (next_part b) b.text from to new)) (rows_none (next_part b) b.text new from to both) isnt))));
}
  where
    nothing : false ≡ true → ⊥
    nothing is = cc
rows_made (Some event) b c from to new order within buffer text later some none told edit = record {
  spliced = rows_are_spliced b c from to new event order within text.lines later.lines told edit;
  before = buffer;
  text = text;
  later = later;
  some = by_test (is_empty_splice (rows_splice (next_part b) b.text from to new) ≡ false) (is_empty_splice (rows_splice (next_part b) b.text from to new))
      (λ is. absurd (some.0 refl (rows_empty (next_part b) b.text new from to order within is))) (λ isnt. isnt);
}

text_made : (made : Option Spliced) (b c : Content) (start stop : Pos) (new : List (List ℕ)) → IsInLine b.text start → IsInLine b.text stop
    → is_before stop start ≡ false → 0 < length new → IsBuffer b.text b.tick b.undo b.unsealed → IsBufferText b.text → IsBufferText c.text
    → (IsSome made ↔ ¬ ((start ≡ stop) × (new ≡ [] ∷ []))) → (made ≡ None → c ≡ b)
    → IfSome made (λ (e : Spliced). e ≡ text_event b start stop new) → IfSome made (IsEdit b c (join_with_byte 10 new))
    → IsMadeOrLeft made b c (text_splice (next_part b) b.text start stop new)
text_made None b c start stop new start_in stop_in order some_line buffer text later some none told edit = record {
  same = none refl;
  none = by_test (is_empty_splice (text_splice (next_part b) b.text start stop new) ≡ true) (is_empty_splice (text_splice (next_part b) b.text start stop new)) (λ is. is)
      (λ isnt. absurd (nothing (some.1 (λ both. not_both (is_empty_splice (text_splice (next_part b) b.text start stop new)) (text_none (next_part b) b.text new start stop both) isnt))));
}
  where
    nothing : false ≡ true → ⊥
    nothing is = cc
text_made (Some event) b c start stop new start_in stop_in order some_line buffer text later some none told edit = record {
  spliced = text_is_spliced b c start stop new event start_in stop_in order text.lines later.lines told edit;
  before = buffer;
  text = text;
  later = later;
  some = by_test (is_empty_splice (text_splice (next_part b) b.text start stop new) ≡ false) (is_empty_splice (text_splice (next_part b) b.text start stop new))
      (λ is. absurd (some.0 refl (text_empty (next_part b) b.text new start stop text.lines start_in stop_in some_line is))) (λ isnt. isnt);
}

-- and where memory may be wanting
pub rows_made_ok : {E : Type 0} (r : Result (Option Spliced) E) (b c : Content) (from to : ℕ) (new : List (List ℕ)) → from ≤ to → to ≤ length b.text
    → IsBuffer b.text b.tick b.undo b.unsealed → IsBufferText b.text → IsBufferText c.text
    → IfOk r (λ made. IsSome made ↔ ¬ ((from ≡ to) × (new ≡ []))) → IfOk r (λ made. made ≡ None → c ≡ b)
    → IfOk r (λ made. IfSome made (λ (e : Spliced). e ≡ rows_event b from to new)) → IfOk r (λ made. IfSome made (IsEdit b c (flat new)))
    → IfOk r (λ made. IsMadeOrLeft made b c (rows_splice (next_part b) b.text from to new))
rows_made_ok (Ok made) b c from to new order within buffer text later some none told edit =
    rows_made made b c from to new order within buffer text later some none told edit
rows_made_ok (Err e) b c from to new order within buffer text later some none told edit = tt

pub text_made_ok : {E : Type 0} (r : Result (Option Spliced) E) (b c : Content) (start stop : Pos) (new : List (List ℕ)) → IsInLine b.text start → IsInLine b.text stop
    → is_before stop start ≡ false → 0 < length new → IsBuffer b.text b.tick b.undo b.unsealed → IsBufferText b.text → IsBufferText c.text
    → IfOk r (λ made. IsSome made ↔ ¬ ((start ≡ stop) × (new ≡ [] ∷ []))) → IfOk r (λ made. made ≡ None → c ≡ b)
    → IfOk r (λ made. IfSome made (λ (e : Spliced). e ≡ text_event b start stop new)) → IfOk r (λ made. IfSome made (IsEdit b c (join_with_byte 10 new)))
    → IfOk r (λ made. IsMadeOrLeft made b c (text_splice (next_part b) b.text start stop new))
text_made_ok (Ok made) b c start stop new start_in stop_in order some_line buffer text later some none told edit =
    text_made made b c start stop new start_in stop_in order some_line buffer text later some none told edit
text_made_ok (Err e) b c start stop new start_in stop_in order some_line buffer text later some none told edit = tt
