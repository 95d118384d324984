-- Setting and removing a mark keeps what stands for a buffer.
use Rattle.std.proofs.Common.{◌≡◌, ℕ, suc, min, ◌<◌, ◌≤◌, List, [], ◌∷◌, length, map, fold, refl, ap, sym, ◌∙◌, arith, All, Bool, true, false, not, cond, eqb, ◌&&◌, max, subst, Option, Some, None}
use Rattle.std.specs.Prelude.{IfSome, IsSorted, filter, option_map, option_to_list, unwrap_or}
use Rattle.std.specs.Option.{option_map_or}
use Rattle.std.specs.List.{AllByRecursion, IsDistinct}
use Rattle.std.specs.Map.{lookup}
use Rattle.std.specs.BTreeMap.{is_at}
use Rattle.std.specs.Ordering.{is_lt, is_eq, nat_cmp}
use Rattle.std.proofs.lemmas.Bool.Decides.{nat_tests}
use Rattle.std.proofs.lemmas.List.Elements.{All-cons, All-head, All-tail, All-weaker, All-filter, All-from_get_or, recursion_from_All, filter_passes}
use Rattle.std.proofs.lemmas.List.Sorted.{sorted_far, IsPermutation-cons, IsPermutation-trans}
use Rattle.std.proofs.lemmas.List.Kept.{AllPairs-filter}
use Rattle.std.proofs.lemmas.Map.Keys.{IsDistinct-cons, IsDistinct-head, IsDistinct-tail, IsDistinct-from_apart, IsDistinct-IsPermutation, apart_from_distinct}
use Rattle.nv_places.specs.Flat.{flat, lines_of, IsLine}
use Rattle.nv_places.specs.Places.{place_of, IsPlaceIn, offset_of}
use Rattle.nv_places.specs.declared.place.Pos.{Pos}
use Rattle.nv_places.proofs.FlatLemmas.{lines_of-flat}
use Rattle.nv_places.proofs.PlaceLemmas.{place-offset}
use Rattle.nv_marks.specs.Marks.{is_named, numbered_mark, without, greatest_id}
use Rattle.nv_marks.specs.Order.{mark_order, IsInOrder}
use Rattle.nv_marks.specs.Queries.{is_cleared}
use Rattle.nv_marks.specs.Sound.{same_name}
use Rattle.nv_marks.specs.declared.extmark.Far.{Far}
use Rattle.nv_marks.specs.declared.extmark.Mark.{Mark}
use Rattle.nv_marks.specs.declared.keeping.Kept.{Kept as KeptMark}
use Rattle.nv_marks.proofs.OrderLemmas.{mark_order_ranks}
use Rattle.nv_buffer.specs.Content.{Content}
use Rattle.nv_buffer.specs.KeptMarks.{kept_at}
use Rattle.nv_buffer.specs.Marks.{with_in_order, marks_in_order}
use Rattle.nv_buffer.specs.declared.edit.ChangePart.{ChangePart}
use Rattle.nv_buffer.proofs.MarkOrders.{MayLead, sorted-tail, in_order_is}
use Rattle.nv_model.specs.Buffers.{SetMark, MarkState, ModelBuffer, text_of, state_set, state_now, last_kept, mark_in, mark_of, marks_there, marks_of, is_set, without_set, without_mark}
use Rattle.nv_model.specs.Operations.{set_now, set_far}
use Rattle.nv_model.specs.Standing.{IsKeptFor, IsSetIn, StandsFor, is_kept_of, kept_mark_of, same_set, text_met}
use Rattle.nv_model.specs.Keeping.{MarkIsKept, UnmarkIsKept, ClearIsKept, most_settings}
use Rattle.nv_model.proofs.Behind.{behind_now}
use Rattle.nv_model.proofs.MarkOrders.{there_apart}
use Rattle.nv_model.proofs.Seeing.{marks_same}

-- ---- a filter of marks in order
put_lead : (k : Mark) (ms : List Mark) → MayLead k ms → with_in_order k ms ≡ k ∷ ms
put_lead k [] lead = refl
put_lead k (m ∷ ms) lead = rw lead refl

all_lead : (k : Mark) (ms : List Mark) → All (λ (x : Mark). is_lt (mark_order x k) ≡ false) ms → MayLead k ms
all_lead k [] all = tt
all_lead k (m ∷ ms) all = All-head (λ (x : Mark). is_lt (mark_order x k) ≡ false) m ms all

none_before : (k m : Mark) (ms : List Mark) → is_lt (mark_order m k) ≡ false → IsSorted mark_order (m ∷ ms)
    → All (λ (x : Mark). is_lt (mark_order x k) ≡ false) (m ∷ ms)
none_before k m ms behind up =
    All-weaker (λ (x : Mark). is_lt (mark_order x m) ≡ false) (λ (x : Mark). is_lt (mark_order x k) ≡ false)
    (λ x follows. mark_order_ranks.chain x m k follows behind) (m ∷ ms)
    (All-from_get_or (λ (x : Mark). is_lt (mark_order x m) ≡ false) (m ∷ ms) m
    (λ i within. sorted_far (λ x y. is_lt (mark_order x y)) mark_order_ranks (m ∷ ms) up 0 i m (omega arith) within))

filter-put : (p : Mark → Bool) (k : Mark) (ms : List Mark) → IsSorted mark_order ms
    → filter p (with_in_order k ms) ≡ cond (p k) (with_in_order k (filter p ms)) (filter p ms)
filter-put p k [] up = refl
filter-put p k (m ∷ ms) up =
    by_case (filter-put p k ms (sorted-tail m ms up)) (is_lt (mark_order m k)) refl (p m) refl (p k) refl
  where
    by_case : filter p (with_in_order k ms) ≡ cond (p k) (with_in_order k (filter p ms)) (filter p ms)
        → (t : Bool) → is_lt (mark_order m k) ≡ t → (a : Bool) → p m ≡ a → (c : Bool) → p k ≡ c
        → filter p (cond t (m ∷ with_in_order k ms) (k ∷ m ∷ ms))
        ≡ cond c (with_in_order k (cond a (m ∷ filter p ms) (filter p ms))) (cond a (m ∷ filter p ms) (filter p ms))
    by_case rest true before true of_m true of_k = rw (of_m, before, rest, of_k) refl
    by_case rest true before true of_m false of_k = rw (of_m, rest, of_k) refl
    by_case rest true before false of_m true of_k = rw (of_m, rest, of_k) refl
    by_case rest true before false of_m false of_k = rw (of_m, rest, of_k) refl
    by_case rest false behind true of_m true of_k = rw (of_k, of_m, behind) refl
    by_case rest false behind true of_m false of_k = rw (of_k, of_m) refl
    by_case rest false behind false of_m true of_k =
        let others = All-filter p (λ (x : Mark). is_lt (mark_order x k) ≡ false) ms
        (All-tail (λ (x : Mark). is_lt (mark_order x k) ≡ false) m ms (none_before k m ms behind up)) in
        rw (of_k, of_m) (sym (put_lead k (filter p ms) (all_lead k (filter p ms) others)))
    by_case rest false behind false of_m false of_k = rw (of_k, of_m) refl

pub filter-in_order : (p : Mark → Bool) (ms : List Mark) → filter p (marks_in_order ms) ≡ marks_in_order (filter p ms)
filter-in_order p [] = refl
filter-in_order p (m ∷ ms) =
    filter-put p m (marks_in_order ms) (in_order_is ms).in_order ∙ by_case (filter-in_order p ms) (p m)
  where
    by_case : filter p (marks_in_order ms) ≡ marks_in_order (filter p ms) → (b : Bool)
        → cond b (with_in_order m (filter p (marks_in_order ms))) (filter p (marks_in_order ms)) ≡ marks_in_order (cond b (m ∷ filter p ms) (filter p ms))
    by_case rest true = ap (with_in_order m) rest
    by_case rest false = rest

-- ---- removing
map-without : (m : ModelBuffer) (ns id : ℕ) (ks : List SetMark) → map (mark_of m) (without_set ns id ks) ≡ without ns id (map (mark_of m) ks)
map-without m ns id [] = refl
map-without m ns id (k ∷ ks) = by_case (map-without m ns id ks) (is_set ns id k)
  where
    by_case : map (mark_of m) (without_set ns id ks) ≡ without ns id (map (mark_of m) ks) → (b : Bool)
        → map (mark_of m) (cond (not b) (k ∷ without_set ns id ks) (without_set ns id ks))
        ≡ cond (not b) (mark_of m k ∷ without ns id (map (mark_of m) ks)) (without ns id (map (mark_of m) ks))
    by_case rest true = rest
    by_case rest false = ap (λ (l : List Mark). mark_of m k ∷ l) rest

-- two filters may change places
filters-swap : (p q : SetMark → Bool) (ks : List SetMark) → filter p (filter q ks) ≡ filter q (filter p ks)
filters-swap p q [] = refl
filters-swap p q (k ∷ ks) = by_case (filters-swap p q ks) (p k) refl (q k) refl
  where
    by_case : filter p (filter q ks) ≡ filter q (filter p ks) → (a : Bool) → p k ≡ a → (b : Bool) → q k ≡ b
        → filter p (cond b (k ∷ filter q ks) (filter q ks)) ≡ filter q (cond a (k ∷ filter p ks) (filter p ks))
    by_case rest true by_p true by_q = rw (by_p, by_q) (ap (λ (l : List SetMark). k ∷ l) rest)
    by_case rest true by_p false by_q = rw by_q rest
    by_case rest false by_p true by_q = rw by_p rest
    by_case rest false by_p false by_q = rest

-- a mark that isn't gone
abbrev is_there : ModelBuffer → SetMark → Bool
is_there m k = not (state_now m k).gone

-- the marks that are there once one is removed
there-without : (m : ModelBuffer) (ns id : ℕ) → filter (is_there m) (without_set ns id m.marks) ≡ without_set ns id (marks_there m)
there-without m ns id = filters-swap (is_there m) (λ (k : SetMark). not (is_set ns id k)) m.marks

-- the marks that are left, in order
left_in_order : (b : Content) (m : ModelBuffer) (ns id : ℕ) → StandsFor b m
    → IsInOrder (map (mark_of m) (filter (is_there m) (without_set ns id m.marks))) (without ns id b.marks.marks)
unfolding marks_of
left_in_order b m ns id is =
    let now : without ns id b.marks.marks ≡ marks_in_order (without ns id (map (mark_of m) (marks_there m))) =
    ap (without ns id) (marks_same b m is) ∙ filter-in_order (λ (k : Mark). not (is_named ns id k)) (map (mark_of m) (marks_there m)) in
    let ordered = in_order_is (without ns id (map (mark_of m) (marks_there m))) in
    let left : map (mark_of m) (filter (is_there m) (without_set ns id m.marks)) ≡ without ns id (map (mark_of m) (marks_there m)) =
    ap (map (mark_of m)) (there-without m ns id) ∙ map-without m ns id (marks_there m) in
    subst (λ (l : List Mark). IsInOrder l (without ns id b.marks.marks)) (sym left)
    (subst (λ (l : List Mark). IsInOrder (without ns id (map (mark_of m) (marks_there m))) l) (sym now) ordered)

-- what is kept of those that are left
left_kept : (b : Content) (m : ModelBuffer) (ns id : ℕ) (part : ChangePart) → StandsFor b m
    → All (IsKeptFor b m part) (filter (is_there m) (without_set ns id m.marks))
left_kept b m ns id part is =
    subst (λ (l : List SetMark). All (IsKeptFor b m part) l) (sym (there-without m ns id))
    (All-filter (λ (k : SetMark). not (is_set ns id k)) (IsKeptFor b m part) (marks_there m) (is.kept part).each)

apart-without : (ns id : ℕ) (ks : List SetMark) → IsDistinct same_set ks → IsDistinct same_set (without_set ns id ks)
apart-without ns id ks apart =
    IsDistinct-from_apart same_set (without_set ns id ks)
    (AllPairs-filter (λ x y. same_set x y ≡ false) (λ (k : SetMark). not (is_set ns id k)) ks
    (λ i j d before within. apart_from_distinct same_set ks i j d apart before within))

pub unmark_is_kept : UnmarkIsKept
unfolding text_of
unmark_is_kept b later ns id m un is = record {
  first = is.first;
  text = is.text;
  lines = is.lines;
  tick = is.tick;
  marks = subst (λ (l : List Mark). IsInOrder (map (mark_of m) (filter (is_there m) (without_set ns id m.marks))) l) (sym un.marks) (left_in_order b m ns id is);
  settings = un.settings ∙ is.settings;
  kept = λ part. record { each = left_kept b m ns id part is; made = (is.kept part).made };
  greatest = λ n. ap (λ (g : List (ℕ × ℕ)). greatest_id g n) un.greatest ∙ is.greatest n;
  tree = is.tree;
  undo = is.undo;
  unsealed = is.unsealed;
  since = is.since;
  edits = is.edits;
  parts = is.parts;
  changes = is.changes;
  numbered = is.numbered;
  name = is.name;
  modifiable = is.modifiable;
  modified = is.modified;
  listed = is.listed;
  tabstop = is.tabstop;
  valid = record {
    splices = is.valid.splices;
    tree = is.valid.tree;
    changes = is.valid.changes;
    since = is.valid.since;
    named = apart-without ns id m.marks is.valid.named;
    marks = All-filter (λ (k : SetMark). not (is_set ns id k)) (IsSetIn (text_of m) m.splices) m.marks is.valid.marks;
    settings = All-filter (λ (k : SetMark). not (is_set ns id k)) (λ (k : SetMark). k.set ≤ m.settings) m.marks is.valid.settings;
    parts = record { known = is.valid.parts.known; changes = is.valid.parts.changes; since = is.valid.parts.since };
  };
}

-- ---- clearing
-- marks without those of some marks' names, one after another
abbrev without_names : List Mark → List Mark → List Mark
without_names ms cs = fold (λ (l : List Mark) (c : Mark). without c.ns c.id l) ms cs

all_other : (m : Mark) (ms : List Mark) → AllByRecursion (λ y. same_name m y ≡ false) ms → without m.ns m.id ms ≡ ms
all_other m [] others = refl
all_other m (y ∷ ms) others =
    let other : is_named m.ns m.id y ≡ false = flipped m.ns m.id y.ns y.id others.0 in
    ap (λ (t : Bool). cond (not t) (y ∷ without m.ns m.id ms) (without m.ns m.id ms)) other
    ∙ ap (λ (l : List Mark). y ∷ l) (all_other m ms others.1)
  where
    flipped : (n i k j : ℕ) → (eqb n k && eqb i j) ≡ false → (eqb k n && eqb j i) ≡ false
    flipped n i k j is = grind (arith, nat_tests)

stays_first : (m : Mark) (ms cs : List Mark) → AllByRecursion (λ c. same_name m c ≡ false) cs → without_names (m ∷ ms) cs ≡ m ∷ without_names ms cs
stays_first m ms [] others = refl
stays_first m ms (c ∷ cs) others =
    ap (λ (t : Bool). without_names (cond (not t) (m ∷ without c.ns c.id ms) (without c.ns c.id ms)) cs) others.0
    ∙ stays_first m (without c.ns c.id ms) cs others.1

some_of : (m : Mark) (p : Mark → Bool) (ms : List Mark) → AllByRecursion (λ y. same_name m y ≡ false) ms
    → AllByRecursion (λ y. same_name m y ≡ false) (filter p ms)
some_of m p [] others = tt
some_of m p (y ∷ ms) others = by_case (p y) (some_of m p ms others.1)
  where
    by_case : (t : Bool) → AllByRecursion (λ z. same_name m z ≡ false) (filter p ms)
        → AllByRecursion (λ z. same_name m z ≡ false) (cond t (y ∷ filter p ms) (filter p ms))
    by_case true rest = (others.0, rest)
    by_case false rest = rest

cleared_one_by_one : (p : Mark → Bool) (ms : List Mark) → IsDistinct same_name ms → without_names ms (filter p ms) ≡ filter (λ m. not (p m)) ms
cleared_one_by_one p [] apart = refl
cleared_one_by_one p (m ∷ ms) apart = by_case (p m) (cleared_one_by_one p ms (IsDistinct-tail same_name m ms apart))
  where
    others : AllByRecursion (λ y. same_name m y ≡ false) ms
    others = IsDistinct-head same_name m ms apart

    itself : is_named m.ns m.id m ≡ true
    itself = grind (arith, nat_tests)

    by_case : (t : Bool) → without_names ms (filter p ms) ≡ filter (λ k. not (p k)) ms
        → without_names (m ∷ ms) (cond t (m ∷ filter p ms) (filter p ms))
        ≡ cond (not t) (m ∷ filter (λ k. not (p k)) ms) (filter (λ k. not (p k)) ms)
    by_case true rest =
        ap (λ (u : Bool). without_names (cond (not u) (m ∷ without m.ns m.id ms) (without m.ns m.id ms)) (filter p ms)) itself
        ∙ ap (λ (l : List Mark). without_names l (filter p ms)) (all_other m ms others)
        ∙ rest
    by_case false rest = stays_first m ms (filter p ms) (some_of m p ms others) ∙ ap (λ (l : List Mark). m ∷ l) rest

abbrev with_marks : Content → List Mark → Content
with_marks b ms = record b { marks = record b.marks { marks = ms } }

removed_all : (b : Content) (cs ms : List Mark) (m : ModelBuffer) → StandsFor (with_marks b ms) m
    → StandsFor (with_marks b (without_names ms cs)) (fold (λ m k. without_mark k.ns k.id m) m cs)
removed_all b [] ms m is = is
removed_all b (c ∷ cs) ms m is =
    removed_all b cs (without c.ns c.id ms) (without_mark c.ns c.id m)
    (unmark_is_kept (with_marks b ms) (record b.marks { marks = without c.ns c.id ms }) c.ns c.id m
    (record { marks = refl; greatest = refl; settings = refl }) is)

pub clear_is_kept : ClearIsKept
clear_is_kept b ns from to m is =
    subst (λ (l : List Mark). StandsFor (with_marks b l) (fold (λ x k. without_mark k.ns k.id x) m (filter (is_cleared ns from to) b.marks.marks)))
    (cleared_one_by_one (is_cleared ns from to) b.marks.marks apart)
    (removed_all b (filter (is_cleared ns from to) b.marks.marks) b.marks.marks m is)
  where
    flips : (x y : Mark) → same_name x y ≡ same_name y x
    flips x y = numbers x.ns x.id y.ns y.id
      where
        numbers : (n i k j : ℕ) → (eqb n k && eqb i j) ≡ (eqb k n && eqb j i)
        numbers n i k j = grind (arith, nat_tests)

    apart : IsDistinct same_name b.marks.marks
    apart =
        IsDistinct-IsPermutation same_name flips (map (mark_of m) (marks_there m)) b.marks.marks is.marks.same_marks
        (there_apart m is.valid.named)

-- ---- setting
apart-with : (k : SetMark) (ks : List SetMark) → IsDistinct same_set ks → IsDistinct same_set (k ∷ without_set k.ns k.id ks)
apart-with k ks apart =
    IsDistinct-cons same_set k (without_set k.ns k.id ks)
    (recursion_from_All (λ (l : SetMark). same_set k l ≡ false) (without_set k.ns k.id ks)
    (All-weaker (λ (l : SetMark). not (is_set k.ns k.id l) ≡ true) (λ (l : SetMark). same_set k l ≡ false) (λ l other. other_name l other)
    (without_set k.ns k.id ks) (filter_passes (λ (l : SetMark). not (is_set k.ns k.id l)) ks)))
    (apart-without k.ns k.id ks apart)
  where
    other_name : (l : SetMark) → not (is_set k.ns k.id l) ≡ true → same_set k l ≡ false
    other_name l other = grind (arith, nat_tests)

-- a place of the lines, and back
place-back : (text : List ℕ) (lines : List (List ℕ)) (p : Pos) → flat lines ≡ text → All IsLine lines → IsPlaceIn lines p
    → place_of text (offset_of (lines_of text) p) ≡ p
place-back text lines p is are there =
    subst (λ (t : List ℕ). place_of t (offset_of (lines_of t) p) ≡ p) is
    (ap (λ (ls : List (List ℕ)). place_of (flat lines) (offset_of ls p)) (lines_of-flat lines are) ∙ (place-offset lines p are there).1)

offset-in : (text : List ℕ) (lines : List (List ℕ)) (p : Pos) → flat lines ≡ text → All IsLine lines → IsPlaceIn lines p
    → offset_of (lines_of text) p ≤ length text
offset-in text lines p is are there =
    subst (λ (t : List ℕ). offset_of (lines_of t) p ≤ length t) is
    (subst (λ (ls : List (List ℕ)). offset_of ls p ≤ length (flat lines)) (sym (lines_of-flat lines are)) (place-offset lines p are there).0)

-- a mark that is set now stands where it was set
set-state : (m : ModelBuffer) (k : Mark) → state_now m (set_now m k) ≡ state_set (set_now m k)
set-state m k = behind_now m.splices (set_now m k)

-- the end of a mark at an offset, with a gravity
abbrev far_at : List ℕ → Bool → ℕ → Far
far_at text right offset = record { pos = place_of text offset; right = right }

stop-now : (text : List ℕ) (lines : List (List ℕ)) (o : Option Far) → flat lines ≡ text → All IsLine lines
    → IfSome o (λ far. IsPlaceIn lines far.pos)
    → option_map (far_at text (option_map_or (λ far. far.right) (option_map (set_far (lines_of text)) o) false))
    (option_map (λ far. far.offset) (option_map (set_far (lines_of text)) o))
    ≡ o
stop-now text lines None is are there = refl
stop-now text lines (Some far) is are there =
    ap (λ (p : Pos). Some (let now : Far = record { pos = p; right = far.right } in now)) (place-back text lines far.pos is are there)

stop-in-now : (text : List ℕ) (lines : List (List ℕ)) (o : Option Far) → flat lines ≡ text → All IsLine lines
    → IfSome o (λ far. IsPlaceIn lines far.pos)
    → IfSome (option_map (λ far. far.offset) (option_map (set_far (lines_of text)) o)) (λ p. p ≤ length text)
stop-in-now text lines None is are there = tt
stop-in-now text lines (Some far) is are there = offset-in text lines far.pos is are there

-- as the mark that was set, under the next number
mark-now : (m : ModelBuffer) (lines : List (List ℕ)) (k : Mark) (settings : ℕ) → flat lines ≡ text_of m → All IsLine lines → IsPlaceIn lines k.start
    → IfSome k.stop (λ far. IsPlaceIn lines far.pos) → k.hidden ≡ false → settings ≡ m.settings → settings < most_settings
    → mark_of m (set_now m k) ≡ numbered_mark settings k
mark-now m lines k settings is are there stops shown same few =
    let start = place-back (text_of m) lines k.start is are there in
    let stop = stop-now (text_of m) lines k.stop is are stops in
    let hidden = sym shown in
    let set : suc m.settings ≡ min (suc settings) 18446744073709551615 = next in
    ap (mark_in (text_of m) (set_now m k)) (set-state m k)
    ∙ (λ i. record {
      ns = k.ns;
      id = k.id;
      start = start i;
      right = k.right;
      stop = stop i;
      paint = k.paint;
      priority = k.priority;
      restore = k.restore;
      invalidate = k.invalidate;
      hidden = hidden i;
      set = set i;
    })
  where
    next : suc m.settings ≡ min (suc settings) 18446744073709551615
    next = grind (arith, nat_tests)

-- of a setting that isn't made yet nothing is kept
none_kept : (k : SetMark) (most : ℕ) (ks : List KeptMark) → All (λ (x : KeptMark). x.set ≤ most) ks → most < k.set → filter (is_kept_of k) ks ≡ []
none_kept k most [] made next = refl
none_kept k most (x ∷ ks) made next =
    let first : x.set ≤ most = All-head (λ (y : KeptMark). y.set ≤ most) x ks made in
    ap (λ (t : Bool). cond t (x ∷ filter (is_kept_of k) ks) (filter (is_kept_of k) ks)) (other first)
    ∙ none_kept k most ks (All-tail (λ (y : KeptMark). y.set ≤ most) x ks made) next
  where
    other : x.set ≤ most → is_kept_of k x ≡ false
    other first = by_name (eqb x.ns k.ns && eqb x.id k.id)
      where
        by_name : (b : Bool) → (b && eqb x.set k.set) ≡ false
        by_name true = grind (arith, nat_tests)
        by_name false = refl

greatest-now : (g : List (ℕ × ℕ)) (key top ns : ℕ) → greatest_id ((key, top) ∷ g) ns ≡ cond (eqb ns key) top (greatest_id g ns)
greatest-now g key top ns =
    let same : is_eq (nat_cmp ns key) ≡ eqb ns key = grind (arith, nat_tests) in
    rw same (by_case (eqb ns key))
  where
    by_case : (b : Bool) → unwrap_or (cond b (Some top) (lookup (is_at (nat_cmp ns)) g)) 0 ≡ cond b top (greatest_id g ns)
    by_case true = refl
    by_case false = refl

-- the greatest id of a namespace, told of the one that is set
greatest-named : (g : List (ℕ × ℕ)) (key id ns : ℕ)
    → cond (eqb ns key) (max (greatest_id g ns) id) (greatest_id g ns) ≡ cond (eqb ns key) (max (greatest_id g key) id) (greatest_id g ns)
greatest-named g key id ns = by_case (eqb ns key) refl
  where
    by_case : (b : Bool) → eqb ns key ≡ b
        → cond b (max (greatest_id g ns) id) (greatest_id g ns) ≡ cond b (max (greatest_id g key) id) (greatest_id g ns)
    by_case true same = let is : ns ≡ key = grind (arith, nat_tests) in ap (λ (n : ℕ). max (greatest_id g n) id) is
    by_case false other = refl

pub mark_is_kept : MarkIsKept
unfolding text_of
mark_is_kept b later k m marked places shown few is = record {
  first = is.first;
  text = is.text;
  lines = is.lines;
  tick = is.tick;
  marks = marks_now;
  settings = marked.settings ∙ next;
  kept = λ part. record {
    each =
        subst (λ (l : List SetMark). All (IsKeptFor b m part) l) (sym there)
        (All-cons (IsKeptFor b m part) (set_now m k) (filter (is_there m) (without_set k.ns k.id m.marks)) (nothing part)
        (left_kept b m k.ns k.id part is));
    made = All-weaker (λ (x : KeptMark). x.set ≤ m.settings) (λ (x : KeptMark). x.set ≤ suc m.settings) (λ x low. omega arith) (kept_at b.kept part) (is.kept part).made;
  };
  greatest = λ ns.
      marked.greatest ns
      ∙ greatest-named b.marks.greatest k.ns k.id ns
      ∙ (λ i. cond (eqb ns k.ns) (max (is.greatest k.ns i) k.id) (is.greatest ns i))
      ∙ sym (greatest-now m.greatest k.ns (max (greatest_id m.greatest k.ns) k.id) ns);
  tree = is.tree;
  undo = is.undo;
  unsealed = is.unsealed;
  since = is.since;
  edits = is.edits;
  parts = is.parts;
  changes = is.changes;
  numbered = is.numbered;
  name = is.name;
  modifiable = is.modifiable;
  modified = is.modified;
  listed = is.listed;
  tabstop = is.tabstop;
  valid = record {
    splices = is.valid.splices;
    tree = is.valid.tree;
    changes = is.valid.changes;
    since = is.valid.since;
    named = apart-with (set_now m k) m.marks is.valid.named;
    marks =
        All-cons (IsSetIn (text_of m) m.splices) (set_now m k) (without_set k.ns k.id m.marks)
        (record {
          since = omega arith;
          start =
              subst (λ (x : MarkState). x.start ≤ length (text_of m)) (sym (set-state m k))
              (offset-in (text_of m) b.text k.start is.text is.lines places.start);
          stop =
              subst (λ (x : MarkState). IfSome x.stop (λ p. p ≤ length (text_of m))) (sym (set-state m k))
              (stop-in-now (text_of m) b.text k.stop is.text is.lines places.stop);
        })
        (All-filter (λ (l : SetMark). not (is_set k.ns k.id l)) (IsSetIn (text_of m) m.splices) m.marks is.valid.marks);
    settings =
        All-cons (λ (l : SetMark). l.set ≤ suc m.settings) (set_now m k) (without_set k.ns k.id m.marks) (omega arith)
        (All-filter (λ (l : SetMark). not (is_set k.ns k.id l)) (λ (l : SetMark). l.set ≤ suc m.settings) m.marks
        (All-weaker (λ (l : SetMark). l.set ≤ m.settings) (λ (l : SetMark). l.set ≤ suc m.settings) (λ l low. omega arith) m.marks is.valid.settings));
    parts = record { known = is.valid.parts.known; changes = is.valid.parts.changes; since = is.valid.parts.since };
  };
}
  where
    next : min (suc b.marks.settings) 18446744073709551615 ≡ suc m.settings
    next = grind (arith, nat_tests, few, is.settings)

    shown_now : is_there m (set_now m k) ≡ true
    shown_now = ap (λ (x : MarkState). not x.gone) (set-state m k)

    there : filter (is_there m) (set_now m k ∷ without_set k.ns k.id m.marks) ≡ set_now m k ∷ filter (is_there m) (without_set k.ns k.id m.marks)
    there = ap (λ (t : Bool). cond t (set_now m k ∷ filter (is_there m) (without_set k.ns k.id m.marks)) (filter (is_there m) (without_set k.ns k.id m.marks))) shown_now

    nothing : (part : ChangePart) → IsKeptFor b m part (set_now m k)
    nothing part =
        subst (λ (x : MarkState). filter (is_kept_of (set_now m k)) (kept_at b.kept part) ≡ option_to_list (option_map (kept_mark_of (text_met part [] m.first m.splices) (set_now m k)) (last_kept part x.kept)))
        (sym (set-state m k))
        (none_kept (set_now m k) m.settings (kept_at b.kept part) (is.kept part).made (omega arith))

    left : IsInOrder (map (mark_of m) (filter (is_there m) (without_set k.ns k.id m.marks))) (without k.ns k.id b.marks.marks)
    left = left_in_order b m k.ns k.id is

    with_k : IsInOrder (numbered_mark b.marks.settings k ∷ map (mark_of m) (filter (is_there m) (without_set k.ns k.id m.marks))) later.marks
    with_k = record {
      same_marks =
          IsPermutation-trans (numbered_mark b.marks.settings k ∷ map (mark_of m) (filter (is_there m) (without_set k.ns k.id m.marks)))
          (numbered_mark b.marks.settings k ∷ without k.ns k.id b.marks.marks) later.marks
          (IsPermutation-cons (numbered_mark b.marks.settings k) (map (mark_of m) (filter (is_there m) (without_set k.ns k.id m.marks))) (without k.ns k.id b.marks.marks) left.same_marks)
          marked.marks.same_marks;
      in_order = marked.marks.in_order;
    }

    marks_now : IsInOrder (map (mark_of m) (filter (is_there m) (set_now m k ∷ without_set k.ns k.id m.marks))) later.marks
    marks_now =
        subst (λ (l : List SetMark). IsInOrder (map (mark_of m) l) later.marks) (sym there)
        (subst (λ (x : Mark). IsInOrder (x ∷ map (mark_of m) (filter (is_there m) (without_set k.ns k.id m.marks))) later.marks)
        (sym (mark-now m b.text k b.marks.settings is.text is.lines places.start places.stop shown is.settings few)) with_k)
