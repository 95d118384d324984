-- Marks put in order one by one are in order, and names stay apart.
use Rattle.std.proofs.Common.{◌≡◌, ℕ, ◌<◌, List, [], ◌∷◌, length, map, get_or, arith, Bool, false, not, filter}
use Rattle.std.specs.List.{IsDistinct}
use Rattle.std.proofs.lemmas.List.{get_or-map, length-map}
use Rattle.std.proofs.lemmas.Map.Keys.{IsDistinct-from_apart, apart_from_distinct}
use Rattle.std.proofs.lemmas.List.Kept.{AllPairs-filter}
use Rattle.nv_marks.specs.Sound.{same_name}
use Rattle.nv_marks.specs.declared.extmark.Mark.{Mark}
use Rattle.nv_buffer.proofs.MarkOrders.{in_order_is}
use Rattle.nv_model.specs.Buffers.{SetMark, ModelBuffer, state_now, mark_of, marks_there, marks_of}
use Rattle.nv_model.specs.Standing.{same_set}
use Rattle.nv_model.specs.Keeping.{MarksAreInOrder}

pub marks_are_in_order : MarksAreInOrder
unfolding marks_of
marks_are_in_order m = in_order_is (map (mark_of m) (marks_there m))

-- marks of different names, told of as they are now
pub names_apart : (m : ModelBuffer) (marks : List SetMark) → IsDistinct same_set marks → IsDistinct same_name (map (mark_of m) marks)
names_apart m marks apart =
    IsDistinct-from_apart same_name (map (mark_of m) marks)
    (λ i j d before within. names i j d before (omega (arith, length-map marks (mark_of m))))
  where
    first : (ms : List SetMark) → 0 < length ms → SetMark
    first [] some = absurd (omega arith)
    first (k ∷ ms) some = k

    names : (i j : ℕ) (d : Mark) → i < j → j < length marks
        → same_name (get_or (map (mark_of m) marks) i d) (get_or (map (mark_of m) marks) j d) ≡ false
    names i j d before within =
        let e : SetMark = first marks (omega arith) in
        let at_i : get_or (map (mark_of m) marks) i d ≡ mark_of m (get_or marks i e) = get_or-map (mark_of m) marks i e d (omega arith) in
        let at_j : get_or (map (mark_of m) marks) j d ≡ mark_of m (get_or marks j e) = get_or-map (mark_of m) marks j e d (omega arith) in
        rw (at_i, at_j) (apart_from_distinct same_set marks i j e apart before within)

-- so are those of them that are there
pub set_apart : (p : SetMark → Bool) (ks : List SetMark) → IsDistinct same_set ks → IsDistinct same_set (filter p ks)
set_apart p ks apart =
    IsDistinct-from_apart same_set (filter p ks)
    (AllPairs-filter (λ x y. same_set x y ≡ false) p ks (λ i j d before within. apart_from_distinct same_set ks i j d apart before within))

pub there_apart : (m : ModelBuffer) → IsDistinct same_set m.marks → IsDistinct same_name (map (mark_of m) (marks_there m))
there_apart m apart = names_apart m (marks_there m) (set_apart (λ k. not (state_now m k).gone) m.marks apart)
