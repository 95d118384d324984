-- Moving an offset and moving its place come to the same.
use Rattle.std.proofs.Common.{◌≡◌, ◌≢◌, ◌≤◌, ◌<◌, ◌+◌, ◌-◌, List, [], ◌∷◌, ◌++◌, ℕ, suc, refl, ap, sym, ◌∙◌, append_assoc, length, take, drop, get_or, length-append, All, arith, Bool, true, false, cond, eqb, ltb, inl, inr, subst}
use Rattle.std.proofs.lemmas.Bool.Decides.{nat_tests, eqb_tells}
use Rattle.std.proofs.lemmas.Bool.{cases_lt}
use Rattle.std.proofs.lemmas.List.{take-append-drop, take_at, take-append-le, length-take-le, length-drop, drop-drop, take-take, drop_more}
use Rattle.std.proofs.Math.Seq.{take-append-add}
use Rattle.std.specs.List.{splice}
use Rattle.nv_places.specs.Flat.{flat, IsLine}
use Rattle.nv_places.specs.Places.{IsPlaceIn, offset_of, row_count, col_count, end_of, extent_of, further, is_before, place_of}
use Rattle.nv_places.specs.Moves.{moved_offset, moved_place, carried_place}
use Rattle.nv_places.specs.declared.place.Pos.{Pos}
use Rattle.nv_places.specs.declared.place.Extent.{Extent}
use Rattle.nv_places.proofs.PlaceLemmas.{place-offset, offset-place, end_of-append}

-- a place lies before each place that is further, and not before one that is not
pub before_further : (p : Pos) (e : Extent) → 0 < e.rows + e.cols → is_before p (further p e) ≡ true
before_further p e some = grind (arith, nat_tests)

pub not_before : (p : Pos) (e : Extent) → is_before (further p e) p ≡ false
not_before p e = grind (arith, nat_tests)

-- what stands an extent behind the old end stands that extent behind the new one
pub carried_place-further : (old new : Pos) (e : Extent) → carried_place old new (further old e) ≡ further new e
carried_place-further old new e = elim (eqb_tells e.rows 0) [
  | inl one_row ↦ in_one_row e.rows e.cols one_row.0
  | inr more ↦ in_more e.rows e.cols more.0 more.1
]
  where
    in_one_row : (rows cols : ℕ) → eqb rows 0 ≡ true
        → carried_place old new (further old (record { rows = rows; cols = cols })) ≡ further new (record { rows = rows; cols = cols })
    in_one_row rows cols is =
        let here : eqb old.row old.row ≡ true = grind (arith, nat_tests) in
        let same : old.col + cols - old.col + new.col ≡ new.col + cols = omega arith in
        rw is (rw here (rw same refl))

    in_more : (rows cols : ℕ) → eqb rows 0 ≡ false → rows ≢ 0
        → carried_place old new (further old (record { rows = rows; cols = cols })) ≡ further new (record { rows = rows; cols = cols })
    in_more rows cols is some =
        let below : eqb (old.row + rows) old.row ≡ false = grind (arith, nat_tests) in
        let same : old.row + rows - old.row + new.row ≡ new.row + rows = omega arith in
        rw is (rw below (rw same refl))

-- some bytes reach somewhere
pub reaches : (b : ℕ) (bs : List ℕ) → 0 < row_count (b ∷ bs) + col_count (b ∷ bs)
reaches b bs = grind (arith, nat_tests)

-- a front of a text that is not all of it ends before the text
pub front_before : (n : ℕ) (text : List ℕ) → n < length text → is_before (end_of (take n text)) (end_of text) ≡ true
front_before n text more =
    let rest : drop n text ≡ get_or text n 0 ∷ drop (n + 1) text = drop_more text n 0 more in
    let whole : end_of text ≡ further (end_of (take n text)) (extent_of (get_or text n 0 ∷ drop (n + 1) text)) =
    ap end_of (sym (take-append-drop n text)) ∙ ap (λ r. end_of (take n text ++ r)) rest ∙ end_of-append (take n text) (get_or text n 0 ∷ drop (n + 1) text) in
    subst (λ (q : Pos). is_before (end_of (take n text)) q ≡ true) (sym whole)
    (before_further (end_of (take n text)) (extent_of (get_or text n 0 ∷ drop (n + 1) text)) (reaches (get_or text n 0) (drop (n + 1) text)))

-- and a text does not end before its front
pub whole_not_before : (front rest : List ℕ) → is_before (end_of (front ++ rest)) (end_of front) ≡ false
whole_not_before front rest =
    subst (λ (q : Pos). is_before q (end_of front) ≡ false) (sym (end_of-append front rest)) (not_before (end_of front) (extent_of rest))

-- the three cases of a move in places
moved-before : (right : Bool) (start : Pos) (old new : Extent) (p : Pos) → is_before p start ≡ true
    → moved_place right start old new p ≡ p
moved-before right start old new p before = rw before refl

moved-behind : (right : Bool) (start : Pos) (old new : Extent) (p : Pos) → is_before p start ≡ false
    → is_before (further start old) p ≡ true
    → moved_place right start old new p ≡ carried_place (further start old) (further start new) p
moved-behind right start old new p not_yet behind = rw (not_yet, behind) refl

moved-inside : (right : Bool) (start : Pos) (old new : Extent) (p : Pos) → is_before p start ≡ false
    → is_before (further start old) p ≡ false
    → moved_place right start old new p ≡ cond right (further start new) start
moved-inside right start old new p not_yet still = rw (not_yet, still) refl

-- An offset in the text a, then old, then b, once new stands in the place of old. First one in a
agrees_before : (a old new b : List ℕ) (right : Bool) (offset : ℕ) → offset < length a
    → end_of (take offset (a ++ (new ++ b)))
    ≡ moved_place right (end_of a) (extent_of old) (extent_of new) (end_of (take offset (a ++ (old ++ b))))
agrees_before a old new b right offset before =
    let within : offset ≤ length a = omega arith in
    let now : end_of (take offset (a ++ (new ++ b))) ≡ end_of (take offset a) = ap end_of (take-append-le offset a (new ++ b) within) in
    let was : end_of (take offset (a ++ (old ++ b))) ≡ end_of (take offset a) = ap end_of (take-append-le offset a (old ++ b) within) in
    now
    ∙ sym (moved-before right (end_of a) (extent_of old) (extent_of new) (end_of (take offset a)) (front_before offset a before))
    ∙ sym (ap (λ (q : Pos). moved_place right (end_of a) (extent_of old) (extent_of new) q) was)

-- one behind old, with c and x between
agrees_behind : (a old new : List ℕ) (right : Bool) (c : ℕ) (x : List ℕ)
    → end_of ((a ++ new) ++ c ∷ x)
    ≡ moved_place right (end_of a) (extent_of old) (extent_of new) (end_of ((a ++ old) ++ c ∷ x))
agrees_behind a old new right c x =
    let old_end : end_of (a ++ old) ≡ further (end_of a) (extent_of old) = end_of-append a old in
    let new_end : end_of (a ++ new) ≡ further (end_of a) (extent_of new) = end_of-append a new in
    let p : Pos = end_of ((a ++ old) ++ c ∷ x) in
    let far : p ≡ further (further (end_of a) (extent_of old)) (extent_of (c ∷ x)) =
    end_of-append (a ++ old) (c ∷ x) ∙ ap (λ (q : Pos). further q (extent_of (c ∷ x))) old_end in
    let not_yet : is_before p (end_of a) ≡ false =
    subst (λ (t : List ℕ). is_before (end_of t) (end_of a) ≡ false) (sym (append_assoc a old (c ∷ x))) (whole_not_before a (old ++ c ∷ x)) in
    let behind : is_before (further (end_of a) (extent_of old)) p ≡ true =
    subst (λ (q : Pos). is_before (further (end_of a) (extent_of old)) q ≡ true) (sym far)
    (before_further (further (end_of a) (extent_of old)) (extent_of (c ∷ x)) (reaches c x)) in
    end_of-append (a ++ new) (c ∷ x)
    ∙ ap (λ (q : Pos). further q (extent_of (c ∷ x))) new_end
    ∙ sym (carried_place-further (further (end_of a) (extent_of old)) (further (end_of a) (extent_of new)) (extent_of (c ∷ x)))
    ∙ sym (ap (λ (q : Pos). carried_place (further (end_of a) (extent_of old)) (further (end_of a) (extent_of new)) q) far)
    ∙ sym (moved-behind right (end_of a) (extent_of old) (extent_of new) p not_yet behind)

-- and one in old, after its front
agrees_inside : (a front back new : List ℕ) (right : Bool)
    → cond right (end_of (a ++ new)) (end_of a)
    ≡ moved_place right (end_of a) (extent_of (front ++ back)) (extent_of new) (end_of (a ++ front))
agrees_inside a front back new right =
    let p : Pos = end_of (a ++ front) in
    let not_yet : is_before p (end_of a) ≡ false = whole_not_before a front in
    let whole : further (end_of a) (extent_of (front ++ back)) ≡ end_of ((a ++ front) ++ back) =
    sym (end_of-append a (front ++ back)) ∙ ap end_of (sym (append_assoc a front back)) in
    let still : is_before (further (end_of a) (extent_of (front ++ back))) p ≡ false =
    subst (λ (q : Pos). is_before q p ≡ false) (sym whole) (whole_not_before (a ++ front) back) in
    ap (λ (q : Pos). cond right q (end_of a)) (end_of-append a new)
    ∙ sym (moved-inside right (end_of a) (extent_of (front ++ back)) (extent_of new) p not_yet still)

-- the first bytes of a text in three parts, up to k bytes into the last
take-behind : (a mid b : List ℕ) (k : ℕ) → take (length (a ++ mid) + k) (a ++ (mid ++ b)) ≡ (a ++ mid) ++ take k b
take-behind a mid b k = ap (take (length (a ++ mid) + k)) (sym (append_assoc a mid b)) ∙ take-append-add (a ++ mid) b k

agrees_behind_at : (a old new b : List ℕ) (right : Bool) (k : ℕ) → k < length b
    → end_of (take (length (a ++ new) + suc k) (a ++ (new ++ b)))
    ≡ moved_place right (end_of a) (extent_of old) (extent_of new) (end_of (take (length (a ++ old) + suc k) (a ++ (old ++ b))))
agrees_behind_at a old new [] right k fits = absurd (omega arith)
agrees_behind_at a old new (c ∷ b) right k fits =
    ap end_of (take-behind a new (c ∷ b) (suc k))
    ∙ agrees_behind a old new right c (take k b)
    ∙ sym (ap (λ (t : List ℕ). moved_place right (end_of a) (extent_of old) (extent_of new) (end_of t)) (take-behind a old (c ∷ b) (suc k)))

agrees_inside_at : (a old new b : List ℕ) (right : Bool) (j : ℕ) → j ≤ length old
    → end_of (take (cond right (length a + length new) (length a)) (a ++ (new ++ b)))
    ≡ moved_place right (end_of a) (extent_of old) (extent_of new) (end_of (take (length a + j) (a ++ (old ++ b))))
agrees_inside_at a old new b right j fits =
    now right
    ∙ agrees_inside a (take j old) (drop j old) new right
    ∙ ap (λ (t : List ℕ). moved_place right (end_of a) (extent_of t) (extent_of new) (end_of (a ++ take j old))) (take-append-drop j old)
    ∙ sym (ap (λ (t : List ℕ). moved_place right (end_of a) (extent_of old) (extent_of new) (end_of t))
    (take-append-add a (old ++ b) j ∙ ap (λ (t : List ℕ). a ++ t) (take-append-le j old b fits)))
  where
    now : (right : Bool) → end_of (take (cond right (length a + length new) (length a)) (a ++ (new ++ b)))
        ≡ cond right (end_of (a ++ new)) (end_of a)
    now true = ap end_of (take-append-add a (new ++ b) (length new) ∙ ap (λ (t : List ℕ). a ++ t) (take_at new b (length new) refl))
    now false = ap end_of (take_at a (new ++ b) (length a) refl)

-- the three together
agrees : (a old new b : List ℕ) (right : Bool) (offset : ℕ) → offset ≤ length (a ++ (old ++ b))
    → end_of (take (moved_offset right (length a) (length a + length old) (length new) offset) (a ++ (new ++ b)))
    ≡ moved_place right (end_of a) (extent_of old) (extent_of new) (end_of (take offset (a ++ (old ++ b))))
agrees a old new b right offset fits = elim (cases_lt offset (length a)) [
  | inl before ↦
      let test : ltb offset (length a) ≡ true = grind (arith, nat_tests) in
      rw test (agrees_before a old new b right offset before)
  | inr from ↦ elim (cases_lt (length a + length old) offset) [
    | inl behind ↦ in_rest (offset - suc (length a + length old)) (omega (arith, length-append a old)) (omega (arith, length-append a (old ++ b), length-append old b)) from behind
    | inr within ↦ in_old (offset - length a) (omega arith) (omega arith) from within
  ]
]
  where
    in_rest : (k : ℕ) → offset ≡ length (a ++ old) + suc k → k < length b → length a ≤ offset → length a + length old < offset
        → end_of (take (moved_offset right (length a) (length a + length old) (length new) offset) (a ++ (new ++ b)))
        ≡ moved_place right (end_of a) (extent_of old) (extent_of new) (end_of (take offset (a ++ (old ++ b))))
    in_rest k is in_b from behind =
        let goes : moved_offset right (length a) (length a + length old) (length new) offset ≡ length (a ++ new) + suc k =
        grind (arith, nat_tests, length-append a new, length-append a old) in
        ap (λ (n : ℕ). end_of (take n (a ++ (new ++ b)))) goes
        ∙ agrees_behind_at a old new b right k in_b
        ∙ sym (ap (λ (n : ℕ). moved_place right (end_of a) (extent_of old) (extent_of new) (end_of (take n (a ++ (old ++ b))))) is)

    in_old : (j : ℕ) → offset ≡ length a + j → j ≤ length old → length a ≤ offset → offset ≤ length a + length old
        → end_of (take (moved_offset right (length a) (length a + length old) (length new) offset) (a ++ (new ++ b)))
        ≡ moved_place right (end_of a) (extent_of old) (extent_of new) (end_of (take offset (a ++ (old ++ b))))
    in_old j is within_old from within =
        let goes : moved_offset right (length a) (length a + length old) (length new) offset ≡ cond right (length a + length new) (length a) =
        grind (arith, nat_tests) in
        ap (λ (n : ℕ). end_of (take n (a ++ (new ++ b)))) goes
        ∙ agrees_inside_at a old new b right j within_old
        ∙ sym (ap (λ (n : ℕ). moved_place right (end_of a) (extent_of old) (extent_of new) (end_of (take n (a ++ (old ++ b))))) is)

pub moves-agree : (text new : List ℕ) (s e offset : ℕ) (right : Bool) → s ≤ e → e ≤ length text → offset ≤ length text
    → place_of (splice text s e new) (moved_offset right s e (length new) offset)
    ≡ moved_place right (place_of text s) (extent_of (take (e - s) (drop s text))) (extent_of new) (place_of text offset)
moves-agree text new s e offset right in_order in_text fits =
    let len_a : length (take s text) ≡ s = length-take-le s text (omega arith) in
    let rest : length (drop s text) ≡ length text - s = length-drop s text in
    let len_old : length (take (e - s) (drop s text)) ≡ e - s = length-take-le (e - s) (drop s text) (omega arith) in
    let up_to_e : s + (e - s) ≡ e = omega arith in
    let cut : drop (e - s) (drop s text) ≡ drop e text = drop-drop (e - s) s text ∙ ap (λ (n : ℕ). drop n text) up_to_e in
    let parts : take s text ++ (take (e - s) (drop s text) ++ drop e text) ≡ text =
    ap (λ (t : List ℕ). take s text ++ (take (e - s) (drop s text) ++ t)) (sym cut)
    ∙ ap (λ (t : List ℕ). take s text ++ t) (take-append-drop (e - s) (drop s text))
    ∙ take-append-drop s text in
    let in_parts : offset ≤ length (take s text ++ (take (e - s) (drop s text) ++ drop e text)) =
    subst (λ (t : List ℕ). offset ≤ length t) (sym parts) fits in
    let until : length (take s text) + length (take (e - s) (drop s text)) ≡ e = omega arith in
    ap (λ (n : ℕ). end_of (take (moved_offset right n e (length new) offset) (take s text ++ (new ++ drop e text)))) (sym len_a)
    ∙ ap (λ (n : ℕ). end_of (take (moved_offset right (length (take s text)) n (length new) offset) (take s text ++ (new ++ drop e text)))) (sym until)
    ∙ agrees (take s text) (take (e - s) (drop s text)) new (drop e text) right offset in_parts
    ∙ ap (λ (t : List ℕ). moved_place right (place_of text s) (extent_of (take (e - s) (drop s text))) (extent_of new) (end_of (take offset t))) parts

pub places_keep_order : (text : List ℕ) (m n : ℕ) → m ≤ length text → n ≤ length text
    → is_before (place_of text m) (place_of text n) ≡ ltb m n
places_keep_order text m n m_fits n_fits = elim (cases_lt m n) [
  | inl less ↦
      let test : ltb m n ≡ true = grind (arith, nat_tests) in
      let len : length (take n text) ≡ n = length-take-le n text n_fits in
      subst (λ (t : List ℕ). is_before (end_of t) (place_of text n) ≡ true) (take-take m n text (omega arith))
      (front_before m (take n text) (omega arith))
      ∙ sym test
  | inr not_less ↦
      let test : ltb m n ≡ false = grind (arith, nat_tests) in
      let parts : take n text ++ drop n (take m text) ≡ take m text =
      ap (λ (t : List ℕ). t ++ drop n (take m text)) (sym (take-take n m text not_less)) ∙ take-append-drop n (take m text) in
      subst (λ (t : List ℕ). is_before (end_of t) (place_of text n) ≡ false) parts (whole_not_before (take n text) (drop n (take m text)))
      ∙ sym test
]

-- a moved offset is within the text after the splice
moved_fits : (right : Bool) (s e n offset whole : ℕ) → s ≤ e → e ≤ whole → offset ≤ whole
    → moved_offset right s e n offset ≤ s + (n + (whole - e))
moved_fits true s e n offset whole in_order in_text fits = grind (arith, nat_tests)
moved_fits false s e n offset whole in_order in_text fits = grind (arith, nat_tests)

pub moves_stay : (lines after : List (List ℕ)) (new : List ℕ) (s e : ℕ) (right : Bool) (p : Pos) → All IsLine lines → All IsLine after
    → s ≤ e → e ≤ length (flat lines) → flat after ≡ splice (flat lines) s e new → IsPlaceIn lines p
    → IsPlaceIn after
    (moved_place right (place_of (flat lines) s) (extent_of (take (e - s) (drop s (flat lines)))) (extent_of new) p)
moves_stay lines after new s e right p are after_are in_order in_text is stands =
    let at = place-offset lines p are stands in
    let offset : ℕ = offset_of lines p in
    let moved : ℕ = moved_offset right s e (length new) (offset_of lines p) in
    let len_a : length (take s (flat lines)) ≡ s = length-take-le s (flat lines) (omega arith) in
    let len : length (splice (flat lines) s e new) ≡ s + (length new + (length (flat lines) - e)) =
    grind (arith, length-append (take s (flat lines)) (new ++ drop e (flat lines)), length-append new (drop e (flat lines)), length-drop e (flat lines)) in
    let within : moved ≤ length (flat after) = rw (is, len) (moved_fits right s e (length new) (offset_of lines p) (length (flat lines)) in_order in_text at.0) in
    let to : place_of (flat after) moved
    ≡ moved_place right (place_of (flat lines) s) (extent_of (take (e - s) (drop s (flat lines)))) (extent_of new) p =
    ap (λ (t : List ℕ). place_of t moved) is
    ∙ moves-agree (flat lines) new s e (offset_of lines p) right in_order in_text at.0
    ∙ ap (λ (q : Pos). moved_place right (place_of (flat lines) s) (extent_of (take (e - s) (drop s (flat lines)))) (extent_of new) q) at.1 in
    subst (λ (q : Pos). IsPlaceIn after q) to (offset-place after moved after_are within).0
