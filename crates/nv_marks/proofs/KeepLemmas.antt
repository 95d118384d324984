-- Which marks are kept by their records.
use Rattle.std.proofs.Common.{◌≡◌, List, [], ◌∷◌, ◌++◌, ℕ, refl, ap, sym, ◌∙◌, append_assoc, arith, Bool, true, false, cond, not, subst, Some, None, Option}
use Rattle.std.specs.Prelude.{IsPermutation, filter, option_map, option_to_list, ◌&&◌, ◌||◌}
use Rattle.std.specs.List.{IsDistinct}
use Rattle.std.proofs.lemmas.Bool.Decides.{nat_tests}
use Rattle.std.proofs.lemmas.List.{append-nil}
use Rattle.std.proofs.lemmas.List.Concat.{flat_map-append}
use Rattle.std.proofs.lemmas.List.Sorted.{IsPermutation-refl, IsPermutation-trans}
use Rattle.std.proofs.lemmas.List.Elements.{All-from_recursion}
use Rattle.std.proofs.lemmas.Map.Keys.{IsDistinct-head, IsDistinct-tail}
use Rattle.nv_places.specs.declared.place.Pos.{Pos}
use Rattle.nv_marks.specs.Keeping.{is_kept, stops_within}
use Rattle.nv_marks.specs.Marks.{is_named, mark_at}
use Rattle.nv_marks.specs.Order.{IsInOrder, is_within}
use Rattle.nv_marks.specs.Sound.{IsSound, same_name}
use Rattle.nv_marks.specs.declared.extmark.Far.{Far}
use Rattle.nv_marks.specs.declared.extmark.Mark.{Mark}
use Rattle.nv_marks.specs.declared.record.Record.{Record}
use Rattle.nv_marks.specs.inside.Records.{ForEach, end_among, end_record, is_start, mark_among, marks_among, records_of_mark, records_of_marks, start_record}
use Rattle.nv_marks.specs.inside.Restoring.{kept_among, kept_by_end, kept_mark}
use Rattle.nv_marks.proofs.EachLemmas.{Each-always, Each-both, Each-from_all, Each-map, Each-weaker}
use Rattle.nv_marks.proofs.SoundLemmas.{sound_without}
use Rattle.nv_marks.proofs.SwapLemmas.{IsPermutation-flat}
use Rattle.nv_marks.proofs.UniqueLemmas.{order_is_unique}

-- ---- each mark is found by its name
pub each_found : (ms : List Mark) → IsDistinct same_name ms → ForEach (λ m. mark_at ms m.ns m.id ≡ Some m) ms
each_found [] apart = tt
each_found (m ∷ ms) apart = (
  ap (λ (b : Bool). cond b (Some m) (mark_at ms m.ns m.id)) (itself m),
  Each-weaker (λ k. (same_name m k ≡ false) × (mark_at ms k.ns k.id ≡ Some k)) (λ k. mark_at (m ∷ ms) k.ns k.id ≡ Some k)
      (λ k both. ap (λ (b : Bool). cond b (Some m) (mark_at ms k.ns k.id)) both.0 ∙ both.1) ms
      (Each-both (λ k. same_name m k ≡ false) (λ k. mark_at ms k.ns k.id ≡ Some k) ms
      (Each-from_all (λ k. same_name m k ≡ false) ms (All-from_recursion (λ k. same_name m k ≡ false) ms (IsDistinct-head same_name m ms apart)))
      (each_found ms (IsDistinct-tail same_name m ms apart))),
)
  where
    itself : (x : Mark) → is_named x.ns x.id x ≡ true
    itself x = grind (arith, nat_tests)

-- ---- what a record keeps
module _ (rs : List Record) (from to : Pos) where
  abbrev ends_at : Mark → Type 0
  ends_at m = (m.stop ≡ end_among rs m.ns m.id) × (mark_at (marks_among rs) m.ns m.id ≡ Some m)

  by_start : (m : Mark) → m.stop ≡ end_among rs m.ns m.id
      → kept_mark rs from to (start_record m) ≡ cond (is_within from to m.start) (cond m.restore (Some m) None) None
  by_start m is =
      ap (λ (o : Option Far). (let k : Mark = record m { stop = o } in cond (is_within from to m.start) (cond m.restore (Some k) None) None)) (sym is)

  by_end : (m : Mark) (far : Far) → mark_at (marks_among rs) m.ns m.id ≡ Some m
      → kept_mark rs from to (end_record m far) ≡ cond (is_within from to far.pos) (cond (m.restore && not (is_within from to m.start)) (Some m) None) None
  by_end m far found = ap (λ (o : Option Mark). cond (is_within from to far.pos) (kept_by_end from to o) None) found

  of_mark : (m : Mark) → ends_at m → (o : Option Far) → m.stop ≡ o
      → kept_among rs from to (start_record m ∷ option_to_list (option_map (end_record m) o)) ≡ cond (m.restore && (is_within from to m.start || stops_within from to o)) (m ∷ []) []
  of_mark m facts None is =
      ap (λ (k : Option Mark). option_to_list k ++ []) (by_start m facts.0)
      ∙ tests (is_within from to m.start) m.restore
    where
      tests : (w r : Bool) → option_to_list (cond w (cond r (Some m) None) None) ++ [] ≡ cond (r && (w || false)) (m ∷ []) []
      tests true true = refl
      tests true false = refl
      tests false true = refl
      tests false false = refl
  of_mark m facts (Some far) is =
      ap (λ (k : Option Mark). option_to_list k ++ (option_to_list (kept_mark rs from to (end_record m far)) ++ [])) (by_start m facts.0)
      ∙ ap (λ (k : Option Mark). option_to_list (cond (is_within from to m.start) (cond m.restore (Some m) None) None) ++ (option_to_list k ++ [])) (by_end m far facts.1)
      ∙ tests (is_within from to m.start) (is_within from to far.pos) m.restore
    where
      tests : (w v r : Bool)
          → option_to_list (cond w (cond r (Some m) None) None) ++ (option_to_list (cond v (cond (r && not w) (Some m) None) None) ++ [])
          ≡ cond (r && (w || v)) (m ∷ []) []
      tests true true true = refl
      tests true true false = refl
      tests true false true = refl
      tests true false false = refl
      tests false true true = refl
      tests false true false = refl
      tests false false true = refl
      tests false false false = refl

  of_marks : (ms : List Mark) → ForEach ends_at ms → kept_among rs from to (records_of_marks ms) ≡ filter (is_kept from to) ms
  of_marks [] each = refl
  of_marks (m ∷ ms) each =
      flat_map-append (λ r. option_to_list (kept_mark rs from to r)) (records_of_mark m) (records_of_marks ms)
      ∙ ap (λ (l : List Mark). l ++ kept_among rs from to (records_of_marks ms)) (of_mark m each.0 m.stop refl)
      ∙ ap (λ (l : List Mark). cond (is_kept from to m) (m ∷ []) [] ++ l) (of_marks ms each.1)
      ∙ by_case (is_kept from to m)
    where
      by_case : (b : Bool) → cond b (m ∷ []) [] ++ filter (is_kept from to) ms ≡ cond b (m ∷ filter (is_kept from to) ms) (filter (is_kept from to) ms)
      by_case true = refl
      by_case false = refl

  kept_append : (xs ys : List Record) → kept_among rs from to (xs ++ ys) ≡ kept_among rs from to xs ++ kept_among rs from to ys
  kept_append xs ys = flat_map-append (λ r. option_to_list (kept_mark rs from to r)) xs ys

  -- what more records keep
  pub kept_more : (had now next : List Mark) (xs ys both : List Record) → now ≡ had ++ kept_among rs from to xs → next ≡ now ++ kept_among rs from to ys → both ≡ xs ++ ys
      → next ≡ had ++ kept_among rs from to both
  kept_more had now next xs ys both so_far more is =
      more ∙ ap (λ (l : List Mark). l ++ kept_among rs from to ys) so_far
      ∙ append_assoc had (kept_among rs from to xs) (kept_among rs from to ys)
      ∙ sym (ap (λ (l : List Mark). had ++ l) (ap (kept_among rs from to) is ∙ kept_append xs ys))

  pub kept_one : (had now next : List Mark) (xs both : List Record) (r : Record) → now ≡ had ++ kept_among rs from to xs
      → next ≡ now ++ option_to_list (kept_mark rs from to r) → both ≡ xs ++ r ∷ [] → next ≡ had ++ kept_among rs from to both
  kept_one had now next xs both r so_far more is =
      kept_more had now next xs (r ∷ []) both so_far
      (more ∙ ap (λ (l : List Mark). now ++ l) (sym (append-nil (option_to_list (kept_mark rs from to r))))) is

  -- only records in the part keep a mark
  kept_within : (xs : List Record) → kept_among rs from to xs ≡ kept_among rs from to (filter (λ r. is_within from to r.pos) xs)
  kept_within [] = refl
  kept_within (x ∷ xs) = by_case (is_within from to x.pos) refl (kept_within xs)
    where
      by_case : (b : Bool) → is_within from to x.pos ≡ b → kept_among rs from to xs ≡ kept_among rs from to (filter (λ r. is_within from to r.pos) xs)
          → kept_among rs from to (x ∷ xs)
          ≡ kept_among rs from to (cond b (x ∷ filter (λ r. is_within from to r.pos) xs) (filter (λ r. is_within from to r.pos) xs))
      by_case true is rest = ap (λ (l : List Mark). option_to_list (kept_mark rs from to x) ++ l) rest
      by_case false is rest =
          ap (λ (b : Bool). option_to_list (cond b (cond x.info.is_end (kept_by_end from to (mark_at (marks_among rs) x.info.ns x.info.id)) (cond x.info.restore (Some (mark_among rs x)) None)) None) ++ kept_among rs from to xs) is
          ∙ rest

  pub found_all : (xs : List Record) (found : List Mark) → IsPermutation (records_of_marks (marks_among rs)) rs → IsDistinct same_name (marks_among rs)
      → filter (λ r. is_within from to r.pos) xs ≡ filter (λ r. is_within from to r.pos) rs → found ≡ kept_among rs from to xs
      → IsPermutation (filter (is_kept from to) (marks_among rs)) found
  found_all xs found all apart same is =
      subst (λ (l : List Mark). IsPermutation (filter (is_kept from to) (marks_among rs)) l)
      (sym (is ∙ kept_within xs ∙ ap (kept_among rs from to) same ∙ sym (kept_within rs)))
      (subst (λ (l : List Mark). IsPermutation l (kept_among rs from to rs))
      (of_marks (marks_among rs) (Each-both (λ m. m.stop ≡ end_among rs m.ns m.id) (λ m. mark_at (marks_among rs) m.ns m.id ≡ Some m) (marks_among rs)
      (Each-map (λ m. m.stop ≡ end_among rs m.ns m.id) (mark_among rs) (filter is_start rs)
      (Each-always (λ r. end_among rs r.info.ns r.info.id ≡ end_among rs r.info.ns r.info.id) (λ r. refl) (filter is_start rs)))
      (each_found (marks_among rs) apart)))
      (IsPermutation-flat (λ r. option_to_list (kept_mark rs from to r)) (records_of_marks (marks_among rs)) rs all))

-- in order they are those of the marks that are kept
pub found_in_order : (p : Mark → Bool) (ms found sorted : List Mark) (greatest : List (ℕ × ℕ)) → IsSound ms greatest → IsPermutation (filter p ms) found
    → IsInOrder found sorted → sorted ≡ filter p ms
found_in_order p ms found sorted greatest sound same ordered =
    let left = sound_without p ms greatest sound in
    order_is_unique (filter p ms) sorted (filter p ms) left.distinct
    (record { same_marks = IsPermutation-trans (filter p ms) found sorted same ordered.same_marks; in_order = ordered.in_order })
    (record { same_marks = IsPermutation-refl (filter p ms); in_order = left.in_order })
