-- What a splice does to marks is the same by offsets and by places.
use Rattle.std.proofs.Common.{◌≡◌, ℕ, ◌+◌, ◌-◌, ◌≤◌, List, [], ◌∷◌, ◌++◌, length, take, drop, fold, refl, ap, sym, ◌∙◌, length-append, arith, Bool, true, false, cond, not, nat_le, nat_lt, ◌&&◌, ◌||◌, is_some, Option, Some, None, unwrap_or}
use Rattle.std.specs.Prelude.{IfSome, option_map, option_and_then}
use Rattle.std.proofs.lemmas.Bool.Decides.{nat_tests}
use Rattle.std.proofs.lemmas.List.{length-take, length-drop}
use Rattle.nv_places.specs.Places.{is_before, place_of, extent_of}
use Rattle.nv_places.specs.Moves.{moved_offset, moved_place}
use Rattle.nv_places.specs.declared.place.Pos.{Pos}
use Rattle.nv_places.proofs.MoveLemmas.{moves-agree, places_keep_order}
use Rattle.nv_marks.specs.Keeping.{is_kept, is_struck, kept_of, place_within, stop_place, stop_within, stops_within}
use Rattle.nv_marks.specs.Moves.{moved_far, moved_mark}
use Rattle.nv_marks.specs.Order.{is_within}
use Rattle.nv_marks.specs.declared.extmark.Far.{Far}
use Rattle.nv_marks.specs.declared.extmark.Mark.{Mark}
use Rattle.nv_marks.specs.declared.keeping.Kept.{Kept}
use Rattle.nv_model.specs.Buffers.{Splice, SetMark, MarkState, KeptState, text_after, inverse_splice, moved_by, keys_of, reach_of, offset_within, kept_state, is_removed, state_moved, far_of, mark_in}
use Rattle.nv_model.specs.Standing.{IsWithin, AreWithin, kept_mark_of}
use Rattle.nv_model.specs.Keeping.{MarksStepAlike}
use Rattle.nv_model.proofs.Telling.{fold-append}

-- ---- one more splice
pub text-more : (first : List ℕ) (ss : List Splice) (s : Splice) → fold text_after first (ss ++ s ∷ []) ≡ text_after (fold text_after first ss) s
text-more first ss s = fold-append text_after first ss (s ∷ [])

pub length-applied : (text : List ℕ) (s : Splice) → IsWithin text s → length (text_after text s) ≡ s.from + (length s.bytes + (length text - s.until))
length-applied text s is =
    omega (
      arith,
      is.order,
      is.within,
      length-append (take s.from text) (s.bytes ++ drop s.until text),
      length-append s.bytes (drop s.until text),
      length-take s.from text,
      length-drop s.until text,
    )

-- an offset in the text moves to one in the text after
pub moved-within : (text : List ℕ) (s : Splice) (right : Bool) (offset : ℕ) → IsWithin text s → offset ≤ length text
    → moved_by right offset s ≤ length (text_after text s)
moved-within text s right offset is low =
    bounded s.from s.until (length s.bytes) (length text) (length (text_after text s)) offset right is.order is.within low (length-applied text s is)
  where
    bounded : (from until put count later offset : ℕ) (right : Bool) → from ≤ until → until ≤ count → offset ≤ count
        → later ≡ from + (put + (count - until)) → moved_offset right from until put offset ≤ later
    bounded from until put count later offset right order within low is = grind (arith, nat_tests)

-- how a splice of a text moves marks
abbrev pub move : List ℕ → Splice → Mark → Mark
move text s = moved_mark (place_of text s.from) (extent_of (inverse_splice text s).bytes) (extent_of s.bytes)

-- ---- a splice by offsets and by places
module _ (text : List ℕ) (s : Splice) (is : IsWithin text s) where
  abbrev from : Pos
  from = place_of text s.from

  abbrev to : Pos
  to = place_of text s.until

  until_in : s.until ≤ length text
  until_in = is.within

  from_in : s.from ≤ length text
  from_in = omega (arith, is.order, is.within)

  not_less : (a b : ℕ) → not (nat_lt a b) ≡ nat_le b a
  not_less a b = grind (arith, nat_tests)

  from_on : (p : ℕ) → p ≤ length text → not (is_before (place_of text p) from) ≡ nat_le s.from p
  from_on p low = ap not (places_keep_order text p s.from low from_in) ∙ not_less p s.from

  up_to : (p : ℕ) → p ≤ length text → not (is_before to (place_of text p)) ≡ nat_le p s.until
  up_to p low = ap not (places_keep_order text s.until p until_in low) ∙ not_less s.until p

  -- a place lies where its offset does
  lies : (p : ℕ) → p ≤ length text → is_within from to (place_of text p) ≡ is_some (offset_within (reach_of s) p)
  lies p low = (λ i. from_on p low i && up_to p low i) ∙ by_case (nat_le s.from p && nat_le p s.until)
    where
      by_case : (b : Bool) → b ≡ is_some (cond b (Some p) None)
      by_case true = refl
      by_case false = refl

  starts : (p : ℕ) → p ≤ length text → option_map (place_of text) (offset_within (reach_of s) p) ≡ place_within from to (place_of text p)
  starts p low =
      by_case (nat_le s.from p && nat_le p s.until)
      ∙ (λ i. cond (sym (from_on p low) i && sym (up_to p low) i) (Some (place_of text p)) None)
    where
      by_case : (b : Bool) → option_map (place_of text) (cond b (Some p) None) ≡ cond b (Some (place_of text p)) None
      by_case true = refl
      by_case false = refl

  stops : (k : SetMark) (o : Option ℕ) → IfSome o (λ p. p ≤ length text)
      → option_map (place_of text) (option_and_then (offset_within (reach_of s)) o) ≡ stop_within from to (option_map (far_of text k) o)
  stops k None low = refl
  stops k (Some p) low = starts p low

  stop_lies : (k : SetMark) (o : Option ℕ) → IfSome o (λ p. p ≤ length text)
      → is_some (option_and_then (offset_within (reach_of s)) o) ≡ stops_within from to (option_map (far_of text k) o)
  stop_lies k None low = refl
  stop_lies k (Some p) low = sym (lies p low)

  ends : (k : SetMark) (x : MarkState) → stop_place (place_of text x.start) (option_map (far_of text k) x.stop) ≡ place_of text (unwrap_or x.stop x.start)
  ends k x = by_stop x.stop
    where
      by_stop : (o : Option ℕ) → stop_place (place_of text x.start) (option_map (far_of text k) o) ≡ place_of text (unwrap_or o x.start)
      by_stop None = refl
      by_stop (Some p) = refl

  end_in : (x : MarkState) → x.start ≤ length text → IfSome x.stop (λ p. p ≤ length text) → unwrap_or x.stop x.start ≤ length text
  end_in x low stop = by_stop x.stop stop
    where
      by_stop : (o : Option ℕ) → IfSome o (λ p. p ≤ length text) → unwrap_or o x.start ≤ length text
      by_stop None here = low
      by_stop (Some p) here = here

  abbrev told : SetMark → MarkState → Option Pos → Option Pos → Kept
  told k x start stop = record { ns = k.ns; id = k.id; set = k.set; start = start; stop = stop; hidden = x.hidden }

  kept_alike : (k : SetMark) (x : MarkState) → x.start ≤ length text → IfSome x.stop (λ p. p ≤ length text)
      → option_map (kept_mark_of text k) (kept_state (keys_of k) x (reach_of s))
      ≡ cond (is_kept from to (mark_in text k x)) (Some (kept_of from to (mark_in text k x))) None
  kept_alike k x low stop =
      by_case (k.restore && (is_some (offset_within (reach_of s) x.start) || is_some (option_and_then (offset_within (reach_of s)) x.stop)))
      (record {
        start = offset_within (reach_of s) x.start;
        stop = option_and_then (offset_within (reach_of s)) x.stop;
        hidden = x.hidden;
      })
      ∙ (λ i. cond (k.restore && (sym (lies x.start low) i || stop_lies k x.stop stop i)) (Some (told k x (starts x.start low i) (stops k x.stop stop i))) None)
    where
      by_case : (b : Bool) (here : KeptState) → option_map (kept_mark_of text k) (cond b (Some here) None) ≡ cond b (Some (kept_mark_of text k here)) None
      by_case true here = refl
      by_case false here = refl

  struck_alike : (k : SetMark) (x : MarkState) → x.start ≤ length text → IfSome x.stop (λ p. p ≤ length text)
      → is_struck from to (mark_in text k x) ≡ (k.invalidate && is_removed x (reach_of s))
  struck_alike k x low stop =
      let last : not (is_before to (stop_place (place_of text x.start) (option_map (far_of text k) x.stop))) ≡ nat_le (unwrap_or x.stop x.start) s.until =
      ap (λ (p : Pos). not (is_before to p)) (ends k x) ∙ up_to (unwrap_or x.stop x.start) (end_in x low stop) in
      let first : is_before (place_of text x.start) to ≡ nat_lt x.start s.until = places_keep_order text x.start s.until low until_in in
      (λ i. k.invalidate && (from_on x.start low i && (first i && last i)))
      ∙ ap (λ (b : Bool). k.invalidate && (nat_le s.from x.start && b)) (either_way (nat_lt x.start s.until) (nat_le (unwrap_or x.stop x.start) s.until))
    where
      either_way : (a b : Bool) → (a && b) ≡ (b && a)
      either_way true true = refl
      either_way true false = refl
      either_way false true = refl
      either_way false false = refl

  place_moved : (right : Bool) (p : ℕ) → p ≤ length text
      → place_of (text_after text s) (moved_offset right s.from s.until (length s.bytes) p)
      ≡ moved_place right from (extent_of (inverse_splice text s).bytes) (extent_of s.bytes) (place_of text p)
  place_moved right p low = moves-agree text s.bytes s.from s.until p right is.order is.within low

  stop_moved : (k : SetMark) (o : Option ℕ) → IfSome o (λ p. p ≤ length text)
      → option_map (far_of (text_after text s) k) (option_map (moved_offset (keys_of k).stops_right s.from s.until (length s.bytes)) o)
      ≡ option_map (moved_far from (extent_of (inverse_splice text s).bytes) (extent_of s.bytes)) (option_map (far_of text k) o)
  stop_moved k None low = refl
  stop_moved k (Some p) low =
      ap (λ (q : Pos). Some (let far : Far = record { pos = q; right = (keys_of k).stops_right } in far)) (place_moved (keys_of k).stops_right p low)

  moved_alike : (k : SetMark) (x : MarkState) → x.start ≤ length text → IfSome x.stop (λ p. p ≤ length text)
      → mark_in (text_after text s) k (state_moved (keys_of k) x (reach_of s)) ≡ move text s (mark_in text k x)
  moved_alike k x low stop =
      let start = place_moved k.right x.start low in
      let end = stop_moved k x.stop stop in
      λ i. record (mark_in text k x) { start = start i; stop = end i }

pub marks_step_alike : MarksStepAlike
marks_step_alike text s k x is low stop = record {
  kept = kept_alike text s is k x low stop;
  struck = struck_alike text s is k x low stop;
  moved = moved_alike text s is k x low stop;
}

-- splices that lie in their texts, and one more
pub within-more : (text : List ℕ) (ss : List Splice) (s : Splice) → AreWithin text ss → IsWithin (fold text_after text ss) s
    → AreWithin text (ss ++ s ∷ [])
within-more text [] s are is = (is, tt)
within-more text (t ∷ ss) s are is = (are.0, within-more (text_after text t) ss s are.1 is)
