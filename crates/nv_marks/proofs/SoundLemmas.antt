-- Sets of marks stay sound.
use Rattle.std.proofs.Common.{◌≡◌, ◌≤◌, ◌<◌, List, [], ◌∷◌, ℕ, refl, ap, ◌∙◌, map, arith, All, Bool, true, false, not, cond, eqb, max, Some, None}
use Rattle.std.specs.Prelude.{filter, option_map}
use Rattle.std.specs.List.{IsDistinct}
use Rattle.std.specs.Ordering.{is_lt}
use Rattle.std.proofs.lemmas.Bool.Decides.{nat_tests}
use Rattle.std.proofs.lemmas.List.Elements.{All-nil, All-cons, All-weaker, All-filter, All-map}
use Rattle.std.proofs.lemmas.List.Sorted.{All-permutation}
use Rattle.std.proofs.lemmas.List.Kept.{IsSortedBy-filter}
use Rattle.std.proofs.lemmas.Map.Keys.{IsDistinct-from_apart, IsDistinct-IsPermutation}
use Rattle.nv_places.specs.declared.place.Pos.{Pos}
use Rattle.nv_places.specs.declared.place.Extent.{Extent}
use Rattle.nv_marks.specs.Marks.{is_named, mark_at, without, greatest_id}
use Rattle.nv_marks.specs.Order.{mark_order, IsInOrder}
use Rattle.nv_marks.specs.Moves.{moved_mark}
use Rattle.nv_marks.specs.Sound.{same_name, IsSound}
use Rattle.nv_marks.specs.declared.extmark.Mark.{Mark}
use Rattle.nv_marks.proofs.OrderLemmas.{mark_order_ranks}
use Rattle.nv_marks.proofs.NameLemmas.{find-none, named_once, same_name-flips, find-permutation, find-map, IsDistinct-without, IsDistinct-map, IsDistinct-with, mark_at-with}

pub sound_none : (greatest : List (ℕ × ℕ)) → IsSound [] greatest
sound_none greatest = record {
  in_order = λ k d low within. absurd (omega arith);
  distinct = IsDistinct-from_apart same_name [] (λ i j d before within. absurd (omega arith));
  counted = All-nil (λ m. m.id ≤ greatest_id greatest m.ns);
}

pub sound_without : (p : Mark → Bool) (marks : List Mark) (greatest : List (ℕ × ℕ)) → IsSound marks greatest → IsSound (filter p marks) greatest
sound_without p marks greatest sound = record {
  in_order = IsSortedBy-filter (λ m k. is_lt (mark_order m k)) mark_order_ranks p marks sound.in_order;
  distinct = IsDistinct-without p marks sound.distinct;
  counted = All-filter p (λ m. m.id ≤ greatest_id greatest m.ns) marks sound.counted;
}

-- marks told apart by their names are sound once they are in order
pub sound_in_order : (marks sorted : List Mark) (greatest : List (ℕ × ℕ)) → IsDistinct same_name marks
    → All (λ m. m.id ≤ greatest_id greatest m.ns) marks → IsInOrder marks sorted → IsSound sorted greatest
sound_in_order marks sorted greatest apart counted ordered = record {
  in_order = ordered.in_order;
  distinct = IsDistinct-IsPermutation same_name same_name-flips marks sorted ordered.same_marks apart;
  counted = All-permutation (λ m. m.id ≤ greatest_id greatest m.ns) marks sorted ordered.same_marks counted;
}

pub sound_moved : (start : Pos) (old new : Extent) (marks sorted : List Mark) (greatest : List (ℕ × ℕ)) → IsSound marks greatest
    → IsInOrder (map (moved_mark start old new) marks) sorted → IsSound sorted greatest
sound_moved start old new marks sorted greatest sound ordered =
    sound_in_order (map (moved_mark start old new) marks) sorted greatest
    (IsDistinct-map (moved_mark start old new) (λ m k. refl) marks sound.distinct)
    (All-map (λ m. m.id ≤ greatest_id greatest m.ns) (moved_mark start old new) marks sound.counted)
    ordered

pub sound_with : (mark : Mark) (marks sorted : List Mark) (old new : List (ℕ × ℕ)) → IsSound marks old
    → ((ns : ℕ) → greatest_id new ns ≡ cond (eqb ns mark.ns) (max (greatest_id old ns) mark.id) (greatest_id old ns))
    → IsInOrder (mark ∷ without mark.ns mark.id marks) sorted → IsSound sorted new
sound_with mark marks sorted old new sound counts ordered =
    sound_in_order (mark ∷ without mark.ns mark.id marks) sorted new (IsDistinct-with mark marks sound.distinct)
    (All-cons (λ m. m.id ≤ greatest_id new m.ns) mark (without mark.ns mark.id marks) this
    (All-weaker (λ m. m.id ≤ greatest_id old m.ns) (λ m. m.id ≤ greatest_id new m.ns) (λ m few. grows m few) (without mark.ns mark.id marks)
    (All-filter (λ m. not (is_named mark.ns mark.id m)) (λ m. m.id ≤ greatest_id old m.ns) marks sound.counted)))
    ordered
  where
    this : mark.id ≤ greatest_id new mark.ns
    this = let is = counts mark.ns in grind (arith, nat_tests)

    grows : (m : Mark) → m.id ≤ greatest_id old m.ns → m.id ≤ greatest_id new m.ns
    grows m few = let is = counts m.ns in grind (arith, nat_tests)

-- ---- look-ups
pub mark_at-in_order : (marks sorted : List Mark) → IsDistinct same_name marks → IsInOrder marks sorted → (ns id : ℕ)
    → mark_at sorted ns id ≡ mark_at marks ns id
mark_at-in_order marks sorted apart ordered ns id =
    find-permutation same_name (is_named ns id) (named_once ns id) marks sorted ordered.same_marks apart

pub mark_at-moved : (start : Pos) (old new : Extent) (marks sorted : List Mark) → IsDistinct same_name marks
    → IsInOrder (map (moved_mark start old new) marks) sorted → (ns id : ℕ)
    → mark_at sorted ns id ≡ option_map (moved_mark start old new) (mark_at marks ns id)
mark_at-moved start old new marks sorted apart ordered ns id =
    mark_at-in_order (map (moved_mark start old new) marks) sorted
    (IsDistinct-map (moved_mark start old new) (λ m k. refl) marks apart) ordered ns id
    ∙ find-map (is_named ns id) (moved_mark start old new) (λ m. refl) marks

pub mark_at-set : (mark : Mark) (marks sorted : List Mark) → IsDistinct same_name marks
    → IsInOrder (mark ∷ without mark.ns mark.id marks) sorted → (ns id : ℕ)
    → mark_at sorted ns id ≡ cond (is_named ns id mark) (Some mark) (mark_at marks ns id)
mark_at-set mark marks sorted apart ordered ns id =
    mark_at-in_order (mark ∷ without mark.ns mark.id marks) sorted (IsDistinct-with mark marks apart) ordered ns id
    ∙ mark_at-with mark marks ns id

-- no mark has an id above the greatest of its namespace
pub none_counted : (greatest : List (ℕ × ℕ)) (marks : List Mark) (ns id : ℕ) → greatest_id greatest ns < id
    → All (λ m. m.id ≤ greatest_id greatest m.ns) marks → mark_at marks ns id ≡ None
none_counted greatest marks ns id above counted =
    find-none (is_named ns id) marks
    (All-weaker (λ m. m.id ≤ greatest_id greatest m.ns) (λ m. is_named ns id m ≡ false) (λ m few. other m few (is_named ns id m) refl) marks counted)
  where
    other : (m : Mark) → m.id ≤ greatest_id greatest m.ns → (b : Bool) → is_named ns id m ≡ b → is_named ns id m ≡ false
    other m few true is =
        let ns_is : m.ns ≡ ns = grind (arith, nat_tests) in
        let id_is : m.id ≡ id = grind (arith, nat_tests) in
        let most_is = ap (greatest_id greatest) ns_is in
        absurd (omega arith)
    other m few false is = is
