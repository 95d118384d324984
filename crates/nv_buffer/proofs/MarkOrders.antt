-- Marks put in order one by one are in order, and in the one order that there is.
use Rattle.std.proofs.Common.{◌≡◌, ℕ, zero, suc, ◌+◌, ◌<◌, List, [], ◌∷◌, length, map, filter, get_or, refl, ap, ◌∙◌, arith, Bool, true, false, cond, not, ◌&&◌, eqb, Option, All, option_map, unwrap_or, sym, subst}
use Rattle.std.specs.Prelude.{IsSorted, IsPermutation}
use Rattle.std.specs.List.{IsDistinct}
use Rattle.std.specs.Ordering.{is_lt}
use Rattle.std.proofs.lemmas.List.Elements.{All-filter, All-map, All-weaker}
use Rattle.std.proofs.lemmas.List.Sorted.{All-permutation, IsPermutation-refl, IsPermutation-sym, IsPermutation-cons, IsPermutation-map, IsPermutation-middle, IsPermutation-trans}
use Rattle.nv_places.specs.declared.place.Pos.{Pos}
use Rattle.nv_places.specs.declared.place.Extent.{Extent}
use Rattle.nv_places.specs.Places.{further}
use Rattle.nv_marks.specs.Keeping.{far_put_back, is_gone, is_of_kept, is_struck, marks_struck, put_back_by, put_back_mark, struck_mark}
use Rattle.nv_marks.specs.Marks.{Marks}
use Rattle.nv_marks.specs.declared.keeping.Kept.{Kept}
use Rattle.nv_marks.specs.Moves.{moved_mark}
use Rattle.nv_marks.specs.Order.{mark_order, IsInOrder}
use Rattle.nv_marks.specs.Sound.{same_name}
use Rattle.nv_marks.specs.declared.extmark.Mark.{Mark}
use Rattle.nv_marks.specs.declared.extmark.Paint.{Paint}
use Rattle.nv_marks.proofs.NameLemmas.{IsDistinct-map, IsDistinct-without}
use Rattle.nv_marks.proofs.OrderLemmas.{mark_order_ranks}
use Rattle.nv_marks.proofs.UniqueLemmas.{order_is_unique}
use Rattle.nv_buffer.specs.Marks.{with_in_order, mark_after, marks_in_order, marks_after}
use Rattle.nv_buffer.specs.declared.edit.Edit.{Edit}

-- a mark that may stand in front of others
abbrev pub MayLead : Mark → List Mark → Type 0
MayLead x [] = Unit {0}
MayLead x (y ∷ ys) = is_lt (mark_order y x) ≡ false

sorted-cons : (x : Mark) (xs : List Mark) → MayLead x xs → IsSorted mark_order xs → IsSorted mark_order (x ∷ xs)
sorted-cons x [] lead up k d low within = absurd (omega arith)
sorted-cons x (y ∷ ys) lead up zero d low within = lead
sorted-cons x (y ∷ ys) lead up (suc k) d low within =
    let next : suc (k + 1) ≡ suc k + 1 = omega arith in
    subst (λ (n : ℕ). is_lt (mark_order (get_or (x ∷ y ∷ ys) n d) (get_or (y ∷ ys) k d)) ≡ false) next (up k d (omega arith) (omega arith))

pub sorted-tail : (x : Mark) (xs : List Mark) → IsSorted mark_order (x ∷ xs) → IsSorted mark_order xs
sorted-tail x xs up k d low within =
    let next : suc k + 1 ≡ suc (k + 1) = omega arith in
    subst (λ (n : ℕ). is_lt (mark_order (get_or (x ∷ xs) n d) (get_or xs k d)) ≡ false) next (up (suc k) d (omega arith) (omega arith))

sorted-lead : (x : Mark) (xs : List Mark) → IsSorted mark_order (x ∷ xs) → MayLead x xs
sorted-lead x [] up = tt
sorted-lead x (y ∷ ys) up = up 0 y (omega arith) (omega arith)

lead_put : (x k : Mark) (ms : List Mark) → is_lt (mark_order k x) ≡ false → MayLead x ms → MayLead x (with_in_order k ms)
lead_put x k [] behind lead = behind
lead_put x k (m ∷ ms) behind lead = by_case (is_lt (mark_order m k))
  where
    by_case : (b : Bool) → MayLead x (cond b (m ∷ with_in_order k ms) (k ∷ m ∷ ms))
    by_case true = lead
    by_case false = behind

put_sorted : (k : Mark) (ms : List Mark) → IsSorted mark_order ms → IsSorted mark_order (with_in_order k ms)
put_sorted k [] up = sorted-cons k [] tt up
put_sorted k (m ∷ ms) up = by_case (put_sorted k ms (sorted-tail m ms up)) (is_lt (mark_order m k)) refl
  where
    by_case : IsSorted mark_order (with_in_order k ms) → (b : Bool) → is_lt (mark_order m k) ≡ b
        → IsSorted mark_order (cond b (m ∷ with_in_order k ms) (k ∷ m ∷ ms))
    by_case rest true before =
        sorted-cons m (with_in_order k ms) (lead_put m k ms (mark_order_ranks.one_way m k before) (sorted-lead m ms up)) rest
    by_case rest false behind = sorted-cons k (m ∷ ms) behind up

put_permutes : (k : Mark) (ms : List Mark) → IsPermutation (k ∷ ms) (with_in_order k ms)
put_permutes k [] = IsPermutation-refl (k ∷ [])
put_permutes k (m ∷ ms) = by_case (put_permutes k ms) (is_lt (mark_order m k))
  where
    by_case : IsPermutation (k ∷ ms) (with_in_order k ms) → (b : Bool)
        → IsPermutation (k ∷ m ∷ ms) (cond b (m ∷ with_in_order k ms) (k ∷ m ∷ ms))
    by_case rest true =
        IsPermutation-trans (k ∷ m ∷ ms) (m ∷ k ∷ ms) (m ∷ with_in_order k ms)
        (IsPermutation-sym (m ∷ k ∷ ms) (k ∷ m ∷ ms) (IsPermutation-middle (m ∷ []) k ms))
        (IsPermutation-cons m (k ∷ ms) (with_in_order k ms) rest)
    by_case rest false = IsPermutation-refl (k ∷ m ∷ ms)

none_sorted : IsSorted mark_order []
none_sorted k d low within = absurd (omega arith)

pub in_order_is : (ms : List Mark) → IsInOrder ms (marks_in_order ms)
in_order_is [] = record { same_marks = IsPermutation-refl []; in_order = none_sorted }
in_order_is (m ∷ ms) =
    let rest = in_order_is ms in record {
      same_marks =
          IsPermutation-trans (m ∷ ms) (m ∷ marks_in_order ms) (with_in_order m (marks_in_order ms))
          (IsPermutation-cons m ms (marks_in_order ms) rest.same_marks) (put_permutes m (marks_in_order ms));
      in_order = put_sorted m (marks_in_order ms) rest.in_order;
    }

-- marks keep their names where they are struck, moved and put back
put_back_named : (kept : List Kept) (m : Mark) → ((put_back_mark kept m).ns ≡ m.ns) × ((put_back_mark kept m).id ≡ m.id)
put_back_named [] m = (refl, refl)
put_back_named (k ∷ ks) m =
    let rest = put_back_named ks (put_back_by k m) in
    let here = by_case (is_of_kept k m) in (rest.0 ∙ here.0, rest.1 ∙ here.1)
  where
    by_case : (b : Bool)
        → ((cond b (record m { start = unwrap_or k.start m.start; stop = option_map (far_put_back k) m.stop; hidden = k.hidden }) m).ns ≡ m.ns)
        × ((cond b (record m { start = unwrap_or k.start m.start; stop = option_map (far_put_back k) m.stop; hidden = k.hidden }) m).id ≡ m.id)
    by_case true = (refl, refl)
    by_case false = (refl, refl)

after_names : (kept : List Kept) (edit : Edit) (m k : Mark) → same_name (mark_after kept edit m) (mark_after kept edit k) ≡ same_name m k
after_names kept edit m k =
    let a = put_back_named kept (moved_mark edit.start edit.removed edit.put m) in
    let b = put_back_named kept (moved_mark edit.start edit.removed edit.put k) in
    λ i. eqb (a.0 i) (b.0 i) && eqb (a.1 i) (b.1 i)

struck_names : (from to : Pos) (m k : Mark) → same_name (struck_mark from to m) (struck_mark from to k) ≡ same_name m k
struck_names from to m k = by_case (is_struck from to m) (is_struck from to k)
  where
    by_case : (a b : Bool) → same_name (cond a (record m { hidden = true }) m) (cond b (record k { hidden = true }) k) ≡ same_name m k
    by_case true true = refl
    by_case true false = refl
    by_case false true = refl
    by_case false false = refl

struck_apart : (start : Pos) (old : Extent) (marks : List Mark) → IsDistinct same_name marks → IsDistinct same_name (marks_struck start old marks)
struck_apart start old marks apart =
    let to : Pos = further start old in
    IsDistinct-map (struck_mark start to) (struck_names start to) (filter (λ m. not (is_gone start to m)) marks)
    (IsDistinct-without (λ m. not (is_gone start to m)) marks apart)

map_both : (f g : Mark → Mark) (ms : List Mark) → map f (map g ms) ≡ map (λ m. f (g m)) ms
map_both f g [] = refl
map_both f g (m ∷ ms) = ap (λ (l : List Mark). f (g m) ∷ l) (map_both f g ms)

-- so marks that were struck and moved, and then put back and are in order, are those after the edit
pub marks_are : (before struck moved later : Marks) (kept : List Kept) (edit : Edit) → IsDistinct same_name before.marks
    → struck.marks ≡ marks_struck edit.start edit.removed before.marks
    → IsInOrder (map (moved_mark edit.start edit.removed edit.put) struck.marks) moved.marks
    → IsInOrder (map (put_back_mark kept) moved.marks) later.marks → later.greatest ≡ before.greatest → later.settings ≡ before.settings
    → later ≡ marks_after kept before edit
marks_are before struck moved later kept edit apart struck_is move back greatest settings =
    let left : List Mark = marks_struck edit.start edit.removed before.marks in
    let moves : List Mark = map (moved_mark edit.start edit.removed edit.put) left in
    let all : List Mark = map (mark_after kept edit) left in
    let here : IsPermutation moves moved.marks =
    subst (λ (l : List Mark). IsPermutation (map (moved_mark edit.start edit.removed edit.put) l) moved.marks) struck_is move.same_marks in
    let put : IsPermutation all (map (put_back_mark kept) moved.marks) =
    subst (λ (l : List Mark). IsPermutation l (map (put_back_mark kept) moved.marks))
    (map_both (put_back_mark kept) (moved_mark edit.start edit.removed edit.put) left)
    (IsPermutation-map (put_back_mark kept) moves moved.marks here) in
    let ordered : IsInOrder all later.marks = record {
      same_marks = IsPermutation-trans all (map (put_back_mark kept) moved.marks) later.marks put back.same_marks;
      in_order = back.in_order;
    } in
    let names : IsDistinct same_name all =
    IsDistinct-map (mark_after kept edit) (after_names kept edit) left (struck_apart edit.start edit.removed before.marks apart) in
    let same : later.marks ≡ marks_in_order all = order_is_unique all later.marks (marks_in_order all) names ordered (in_order_is all) in
    λ i. record { marks = same i; greatest = greatest i; settings = settings i }

-- ---- what holds of what marks show holds of it after an edit
put_back_paint : (kept : List Kept) (m : Mark) → (put_back_mark kept m).paint ≡ m.paint
put_back_paint [] m = refl
put_back_paint (k ∷ ks) m = put_back_paint ks (put_back_by k m) ∙ by_case (is_of_kept k m)
  where
    by_case : (b : Bool)
        → (cond b (record m { start = unwrap_or k.start m.start; stop = option_map (far_put_back k) m.stop; hidden = k.hidden }) m).paint ≡ m.paint
    by_case true = refl
    by_case false = refl

struck_paint : (from to : Pos) (m : Mark) → (struck_mark from to m).paint ≡ m.paint
struck_paint from to m = by_case (is_struck from to m)
  where
    by_case : (b : Bool) → (cond b (record m { hidden = true }) m).paint ≡ m.paint
    by_case true = refl
    by_case false = refl

pub paint_after : (P : Option Paint → Type 0) (kept : List Kept) (marks : Marks) (edit : Edit) → All (λ (m : Mark). P m.paint) marks.marks
    → All (λ (m : Mark). P m.paint) (marks_after kept marks edit).marks
paint_after P kept marks edit are =
    let to : Pos = further edit.start edit.removed in
    let left : List Mark = filter (λ m. not (is_gone edit.start to m)) marks.marks in
    let struck : List Mark = marks_struck edit.start edit.removed marks.marks in
    let moves : List Mark = map (mark_after kept edit) struck in
    let of_left : All (λ (m : Mark). P m.paint) left = All-filter (λ m. not (is_gone edit.start to m)) (λ (m : Mark). P m.paint) marks.marks are in
    let of_struck : All (λ (m : Mark). P m.paint) struck =
    All-map (λ (m : Mark). P m.paint) (struck_mark edit.start to) left
    (All-weaker (λ (m : Mark). P m.paint) (λ (m : Mark). P (struck_mark edit.start to m).paint) (λ m here. subst P (sym (struck_paint edit.start to m)) here) left of_left) in
    let of_moves : All (λ (m : Mark). P m.paint) moves =
    All-map (λ (m : Mark). P m.paint) (mark_after kept edit) struck
    (All-weaker (λ (m : Mark). P m.paint) (λ (m : Mark). P (mark_after kept edit m).paint)
    (λ m here. subst P (sym (put_back_paint kept (moved_mark edit.start edit.removed edit.put m))) here) struck of_struck) in
    All-permutation (λ (m : Mark). P m.paint) moves (marks_in_order moves) (in_order_is moves).same_marks of_moves

-- where there are no marks an edit moves none
none_after : (kept : List Kept) (edit : Edit) (ms : List Mark) → length ms ≡ 0
    → ms ≡ marks_in_order (map (mark_after kept edit) (marks_struck edit.start edit.removed ms))
none_after kept edit [] none = refl
none_after kept edit (m ∷ ms) none = absurd (omega (arith, none))

pub none_moves : (kept : List Kept) (marks : Marks) (edit : Edit) → length marks.marks ≡ 0 → marks ≡ marks_after kept marks edit
none_moves kept marks edit none = ap (λ (ms : List Mark). record marks { marks = ms }) (none_after kept edit marks.marks none)
