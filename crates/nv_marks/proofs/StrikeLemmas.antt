-- Marks that are taken out by their names, and marks that are struck.
use Rattle.std.proofs.Common.{◌≡◌, ◌≤◌, ◌<◌, ◌+◌, List, [], ◌∷◌, ◌++◌, ℕ, suc, length, take, get_or, refl, ap, sym, ◌∙◌, map, arith, Bool, true, false, cond, not, subst, Some, None, Option}
use Rattle.std.specs.Prelude.{filter, option_map, ◌&&◌, ◌||◌}
use Rattle.std.specs.List.{IsDistinct}
use Rattle.std.specs.Ordering.{is_lt}
use Rattle.std.proofs.lemmas.Bool.Decides.{nat_tests}
use Rattle.std.proofs.lemmas.List.{take_all, take_more}
use Rattle.std.proofs.lemmas.List.Elements.{All-from_recursion}
use Rattle.std.proofs.lemmas.List.Sorted.{IsPermutation-refl}
use Rattle.std.proofs.lemmas.Map.Keys.{IsDistinct-head, IsDistinct-tail}
use Rattle.nv_places.specs.declared.place.Pos.{Pos}
use Rattle.nv_places.specs.declared.place.Extent.{Extent}
use Rattle.nv_places.specs.Places.{IsNarrow, further, is_before}
use Rattle.nv_marks.specs.Keeping.{far_put_back, is_gone, is_of_kept, is_struck, marks_struck, put_back_by, put_back_mark, stop_place, struck_mark}
use Rattle.nv_marks.specs.Marks.{is_named, without}
use Rattle.nv_marks.specs.Order.{IsInOrder, is_within, mark_order}
use Rattle.nv_marks.specs.Queries.{cleared_marks, is_cleared, is_meant, is_selected}
use Rattle.nv_marks.specs.Sound.{IsSound, same_name}
use Rattle.nv_marks.specs.declared.extmark.Far.{Far}
use Rattle.nv_marks.specs.declared.extmark.Mark.{Mark}
use Rattle.nv_marks.specs.declared.keeping.Kept.{Kept}
use Rattle.nv_marks.specs.declared.query.Query.{Query}
use Rattle.nv_marks.specs.inside.Records.{ForEach, Rises}
use Rattle.nv_marks.specs.Striking.{hiding_mark}
use Rattle.nv_marks.specs.inside.Restoring.{other_marks, without_all}
use Rattle.nv_marks.proofs.EachLemmas.{Each-filter, Each-from_all, Each-weaker, Rises-from_sorted, sorted_from_rises}
use Rattle.nv_marks.proofs.NameLemmas.{IsDistinct-map, filter-all, named_once, others_fail}
use Rattle.nv_marks.proofs.OrderLemmas.{mark_order_ranks}
use Rattle.nv_marks.proofs.RestoreLemmas.{other_kept}
use Rattle.nv_marks.proofs.SoundLemmas.{sound_without}
use Rattle.nv_marks.proofs.UniqueLemmas.{order_is_unique}

-- ---- lists
pub filter_alike : {X : Type 0} (p q : X → Bool) → ((x : X) → p x ≡ q x) → (xs : List X) → filter p xs ≡ filter q xs
filter_alike p q same [] = refl
filter_alike p q same (x ∷ xs) =
    ap (λ (b : Bool). cond b (x ∷ filter p xs) (filter p xs)) (same x)
    ∙ ap (λ l. cond (q x) (x ∷ l) l) (filter_alike p q same xs)

filter_both : {X : Type 0} (p q : X → Bool) (xs : List X) → filter q (filter p xs) ≡ filter (λ x. p x && q x) xs
filter_both p q [] = refl
filter_both p q (x ∷ xs) = by_case (p x) (filter_both p q xs)
  where
    by_case : (b : Bool) → filter q (filter p xs) ≡ filter (λ y. p y && q y) xs
        → filter q (cond b (x ∷ filter p xs) (filter p xs)) ≡ cond (b && q x) (x ∷ filter (λ y. p y && q y) xs) (filter (λ y. p y && q y) xs)
    by_case true rest = ap (λ l. cond (q x) (x ∷ l) l) rest
    by_case false rest = rest

map_each : {X Y : Type 0} (f g : X → Y) (xs : List X) → ForEach (λ x. f x ≡ g x) xs → map f xs ≡ map g xs
map_each f g [] each = refl
map_each f g (x ∷ xs) each = ap (λ y. y ∷ map f xs) each.0 ∙ ap (λ l. g x ∷ l) (map_each f g xs each.1)

-- the names of later marks are others
other_names : (x : Mark) (xs : List Mark) → IsDistinct same_name (x ∷ xs) → ForEach (λ m. is_named x.ns x.id m ≡ false) xs
other_names x xs apart =
    Each-weaker (λ m. same_name x m ≡ false) (λ m. is_named x.ns x.id m ≡ false) (λ m other. flips m other) xs
    (Each-from_all (λ m. same_name x m ≡ false) xs (All-from_recursion (λ m. same_name x m ≡ false) xs (IsDistinct-head same_name x xs apart)))
  where
    flips : (m : Mark) → same_name x m ≡ false → is_named x.ns x.id m ≡ false
    flips m other = grind (arith, nat_tests)

not_named : (x : Mark) (xs : List Mark) → IsDistinct same_name (x ∷ xs) → ForEach (λ g. is_named g.ns g.id x ≡ false) xs
not_named x xs apart = Each-from_all (λ m. same_name x m ≡ false) xs (All-from_recursion (λ m. same_name x m ≡ false) xs (IsDistinct-head same_name x xs apart))

itself : (x : Mark) → is_named x.ns x.id x ≡ true
itself x = grind (arith, nat_tests)

-- ---- marks taken out by their names
others_first : (gs : List Mark) (x : Mark) (xs : List Mark) → ForEach (λ g. is_named g.ns g.id x ≡ false) gs → without_all gs (x ∷ xs) ≡ x ∷ without_all gs xs
others_first [] x xs each = refl
others_first (g ∷ gs) x xs each =
    ap (λ (b : Bool). without_all gs (cond (not b) (x ∷ without g.ns g.id xs) (without g.ns g.id xs))) each.0
    ∙ others_first gs x (without g.ns g.id xs) each.1

pub without_those : (p : Mark → Bool) (ms : List Mark) → IsDistinct same_name ms → without_all (filter p ms) ms ≡ filter (λ m. not (p m)) ms
without_those p [] apart = refl
without_those p (x ∷ xs) apart = by_case (p x) (without_those p xs (IsDistinct-tail same_name x xs apart))
  where
    gone : without x.ns x.id (x ∷ xs) ≡ xs
    gone =
        ap (λ (b : Bool). cond (not b) (x ∷ without x.ns x.id xs) (without x.ns x.id xs)) (itself x)
        ∙ filter-all (is_named x.ns x.id) xs (others_fail same_name (is_named x.ns x.id) (named_once x.ns x.id) x xs (itself x) apart)

    by_case : (b : Bool) → without_all (filter p xs) xs ≡ filter (λ m. not (p m)) xs
        → without_all (cond b (x ∷ filter p xs) (filter p xs)) (x ∷ xs) ≡ cond (not b) (x ∷ filter (λ m. not (p m)) xs) (filter (λ m. not (p m)) xs)
    by_case true rest = ap (without_all (filter p xs)) gone ∙ rest
    by_case false rest =
        others_first (filter p xs) x xs (Each-filter (λ g. is_named g.ns g.id x ≡ false) p xs (not_named x xs apart))
        ∙ ap (λ (l : List Mark). x ∷ l) rest

-- one after another
without_more : (gs : List Mark) (g : Mark) (ms left now : List Mark) → left ≡ without_all gs ms → now ≡ without g.ns g.id left → now ≡ without_all (gs ++ g ∷ []) ms
without_more gs g ms left now done is = is ∙ ap (without g.ns g.id) done ∙ sym (behind gs ms)
  where
    behind : (hs ks : List Mark) → without_all (hs ++ g ∷ []) ks ≡ without g.ns g.id (without_all hs ks)
    behind [] ks = refl
    behind (h ∷ hs) ks = behind hs (without h.ns h.id ks)

pub without_next : (gs : List Mark) (i : ℕ) (d : Mark) (ms left now : List Mark) → i < length gs → left ≡ without_all (take i gs) ms
    → now ≡ without (get_or gs i d).ns (get_or gs i d).id left → now ≡ without_all (take (i + 1) gs) ms
without_next gs i d ms left now within done is =
    without_more (take i gs) (get_or gs i d) ms left now done is ∙ ap (λ (l : List Mark). without_all l ms) (sym (take_more gs i d within))

-- ---- what starts between two places
pub starting_is : (ns : Option ℕ) (from to : Pos) (ms : List Mark)
    → filter (is_selected (record { ns = ns; from = from; to = to; reaching = false })) ms ≡ filter (is_cleared ns from to) ms
starting_is ns from to ms =
    filter_alike (is_selected (record { ns = ns; from = from; to = to; reaching = false })) (is_cleared ns from to)
    (λ m. tests (is_meant ns m.ns) (is_before to m.start) (is_before m.start from)) ms
  where
    tests : (a b c : Bool) → (a && (not b && (not c || false))) ≡ (a && (not c && not b))
    tests true true true = refl
    tests true true false = refl
    tests true false true = refl
    tests true false false = refl
    tests false b c = refl

length_filter : {X : Type 0} (p : X → Bool) (xs : List X) → length (filter p xs) ≤ length xs
length_filter p [] = omega arith
length_filter p (x ∷ xs) = by_case (p x) (length_filter p xs)
  where
    by_case : (b : Bool) → length (filter p xs) ≤ length xs → length (cond b (x ∷ filter p xs) (filter p xs)) ≤ suc (length xs)
    by_case true rest = omega arith
    by_case false rest = omega arith

pub starting_all : (ns : Option ℕ) (from to : Pos) (ms : List Mark) (n : ℕ) (had found : List Mark) → n ≡ length ms → had ≡ []
    → found ≡ had ++ take n (filter (is_selected (record { ns = ns; from = from; to = to; reaching = false })) ms) → found ≡ filter (is_cleared ns from to) ms
starting_all ns from to ms n had found is none taken =
    let q : Query = record { ns = ns; from = from; to = to; reaching = false } in
    taken ∙ ap (λ (l : List Mark). l ++ take n (filter (is_selected q) ms)) none
    ∙ take_all n (filter (is_selected q) ms) (omega (arith, is, length_filter (is_selected q) ms)) ∙ starting_is ns from to ms

-- of those the struck ones are all that are struck
pub struck_start : (from to : Pos) (ms : List Mark) → filter (is_struck from to) (filter (is_cleared None from to) ms) ≡ filter (is_struck from to) ms
struck_start from to ms =
    filter_both (is_cleared None from to) (is_struck from to) ms
    ∙ filter_alike (λ m. is_cleared None from to m && is_struck from to m) (is_struck from to) both ms
  where
    both : (m : Mark) → (is_cleared None from to m && is_struck from to m) ≡ is_struck from to m
    both m = by_case (is_struck from to m) refl
      where
        starts : (p : Pos) (i t : Bool) → (i && (not (is_before p from) && (is_before p to && t))) ≡ true → (not (is_before p from) && not (is_before to p)) ≡ true
        starts p i t is = grind (arith, nat_tests)

        none : (a : Bool) → (a && false) ≡ false
        none true = refl
        none false = refl

        by_case : (b : Bool) → is_struck from to m ≡ b → (is_cleared None from to m && b) ≡ b
        by_case true is = ap (λ (a : Bool). a && true) (starts m.start m.invalidate (not (is_before to (stop_place m.start m.stop))) is)
        by_case false is = none (is_cleared None from to m)

-- ---- marks that are hidden
abbrev hide : (Mark → Bool) → Mark → Mark
hide p m = cond (p m) (record m { hidden = true }) m

stays_put : (ks : List Mark) (m : Mark) → ForEach (λ k. is_named k.ns k.id m ≡ false) ks → put_back_mark (map hiding_mark ks) m ≡ m
stays_put [] m each = refl
stays_put (k ∷ ks) m each =
    ap (put_back_mark (map hiding_mark ks)) (other_kept (hiding_mark k) m each.0) ∙ stays_put ks m each.1

hides : (x : Mark) → put_back_by (hiding_mark x) x ≡ record x { hidden = true }
hides x =
    ap (λ (b : Bool). cond b (record x { start = x.start; stop = option_map (far_put_back (hiding_mark x)) x.stop; hidden = true }) x) own
    ∙ by_stop x.stop
  where
    own : is_of_kept (hiding_mark x) x ≡ true
    own = grind (arith, nat_tests)

    by_stop : (o : Option Far)
        → (let q : Mark = record x { stop = option_map (far_put_back (hiding_mark x)) o; hidden = true } in q)
        ≡ (let q : Mark = record x { stop = o; hidden = true } in q)
    by_stop None = refl
    by_stop (Some far) = refl

pub hidden_those : (p : Mark → Bool) (ms : List Mark) → IsDistinct same_name ms → map (put_back_mark (map hiding_mark (filter p ms))) ms ≡ map (hide p) ms
hidden_those p [] apart = refl
hidden_those p (x ∷ xs) apart = by_case (p x) (hidden_those p xs (IsDistinct-tail same_name x xs apart))
  where
    others : ForEach (λ k. is_named k.ns k.id x ≡ false) (filter p xs)
    others = Each-filter (λ k. is_named k.ns k.id x ≡ false) p xs (not_named x xs apart)

    by_case : (b : Bool) → map (put_back_mark (map hiding_mark (filter p xs))) xs ≡ map (hide p) xs
        → map (put_back_mark (map hiding_mark (cond b (x ∷ filter p xs) (filter p xs)))) (x ∷ xs)
        ≡ cond b (record x { hidden = true }) x ∷ map (hide p) xs
    by_case true rest =
        ap (λ (m : Mark). m ∷ map (put_back_mark (hiding_mark x ∷ map hiding_mark (filter p xs))) xs)
        (ap (put_back_mark (map hiding_mark (filter p xs))) (hides x) ∙ stays_put (filter p xs) (record x { hidden = true }) others)
        ∙ ap (λ (l : List Mark). (record x { hidden = true }) ∷ l)
        (map_each (put_back_mark (hiding_mark x ∷ map hiding_mark (filter p xs))) (put_back_mark (map hiding_mark (filter p xs))) xs
        (Each-weaker (λ m. is_named x.ns x.id m ≡ false)
        (λ m. put_back_mark (hiding_mark x ∷ map hiding_mark (filter p xs)) m ≡ put_back_mark (map hiding_mark (filter p xs)) m)
        (λ m other. ap (put_back_mark (map hiding_mark (filter p xs))) (other_kept (hiding_mark x) m other)) xs (other_names x xs apart))
        ∙ rest)
    by_case false rest =
        ap (λ (m : Mark). m ∷ map (put_back_mark (map hiding_mark (filter p xs))) xs) (stays_put (filter p xs) x others)
        ∙ ap (λ (l : List Mark). x ∷ l) rest

-- hidden marks keep their places in the order
abbrev before : Mark → Mark → Bool
before m k = is_lt (mark_order m k)

hide_order : (p : Mark → Bool) (m k : Mark) → before (hide p m) (hide p k) ≡ before m k
hide_order p m k = by_case (p m) (p k)
  where
    by_case : (a b : Bool) → before (cond a (record m { hidden = true }) m) (cond b (record k { hidden = true }) k) ≡ before m k
    by_case true true = refl
    by_case true false = refl
    by_case false true = refl
    by_case false false = refl

hide_names : (p : Mark → Bool) (m k : Mark) → same_name (hide p m) (hide p k) ≡ same_name m k
hide_names p m k = by_case (p m) (p k)
  where
    by_case : (a b : Bool) → same_name (cond a (record m { hidden = true }) m) (cond b (record k { hidden = true }) k) ≡ same_name m k
    by_case true true = refl
    by_case true false = refl
    by_case false true = refl
    by_case false false = refl

hide_rises : (p : Mark → Bool) (ms : List Mark) → Rises before ms → Rises before (map (hide p) ms)
hide_rises p [] up = tt
hide_rises p (m ∷ ms) up = (others ms up.0, hide_rises p ms up.1)
  where
    others : (ks : List Mark) → ForEach (λ k. before k m ≡ false) ks → ForEach (λ k. before k (hide p m) ≡ false) (map (hide p) ks)
    others [] each = tt
    others (k ∷ ks) each = (hide_order p k m ∙ each.0, others ks each.1)

-- ---- a strike: those that go are taken out, then those that stay are hidden
module _ (start : Pos) (old : Extent) (to : Pos) (ms left new : List Mark) (greatest : List (ℕ × ℕ)) (sound : IsSound ms greatest) where
  abbrev struck : Mark → Bool
  struck = is_struck start to

  abbrev gone : Mark → Bool
  gone = is_gone start to

  gone_those : filter (λ m. not m.restore) (filter struck ms) ≡ filter gone ms
  gone_those = filter_both struck (λ m. not m.restore) ms

  hidden_same : filter (λ m. m.restore) (filter struck ms) ≡ filter struck (filter (λ m. not (gone m)) ms)
  hidden_same =
      filter_both struck (λ m. m.restore) ms
      ∙ filter_alike (λ m. struck m && m.restore) (λ m. not (gone m) && struck m) (λ m. tests (struck m) m.restore) ms
      ∙ sym (filter_both (λ m. not (gone m)) struck ms)
    where
      tests : (a b : Bool) → (a && b) ≡ (not (a && not b) && a)
      tests true true = refl
      tests true false = refl
      tests false b = refl

  pub all_struck : (found removed : List Mark) (hidden : List Kept) → to ≡ further start old → found ≡ filter struck ms → hidden ≡ map hiding_mark (filter (λ m. m.restore) found)
      → removed ≡ filter (λ m. not m.restore) found → left ≡ without_all removed ms → IsInOrder (map (put_back_mark hidden) left) new
      → new ≡ marks_struck start old ms
  all_struck found removed hidden to_is found_is hidden_is removed_is left_is ordered =
      let rest : left ≡ filter (λ m. not (gone m)) ms =
      left_is
      ∙ ap (λ (l : List Mark). without_all l ms) (removed_is ∙ ap (filter (λ m. not m.restore)) found_is ∙ gone_those)
      ∙ without_those gone ms sound.distinct in
      let kept : hidden ≡ map hiding_mark (filter struck (filter (λ m. not (gone m)) ms)) =
      hidden_is ∙ ap (map hiding_mark) (ap (filter (λ m. m.restore)) found_is ∙ hidden_same) in
      let sound_left : IsSound (filter (λ m. not (gone m)) ms) greatest = sound_without (λ m. not (gone m)) ms greatest sound in
      let last : List Mark = map (hide struck) (filter (λ m. not (gone m)) ms) in
      let now : IsInOrder last new =
      subst (λ (l : List Mark). IsInOrder l new) (hidden_those struck (filter (λ m. not (gone m)) ms) sound_left.distinct)
      (subst (λ (l : List Mark). IsInOrder (map (put_back_mark (map hiding_mark (filter struck (filter (λ m. not (gone m)) ms)))) l) new) rest
      (subst (λ (k : List Kept). IsInOrder (map (put_back_mark k) left) new) kept ordered)) in
      order_is_unique last new last (IsDistinct-map (hide struck) (hide_names struck) (filter (λ m. not (gone m)) ms) sound_left.distinct) now
      (record {
        same_marks = IsPermutation-refl last;
        in_order = sorted_from_rises before last (hide_rises struck (filter (λ m. not (gone m)) ms)
            (Rises-from_sorted before mark_order_ranks (filter (λ m. not (gone m)) ms) sound_left.in_order));
      })
      ∙ ap (λ (p : Pos). map (struck_mark start p) (filter (λ m. not (is_gone start p m)) ms)) to_is

-- ---- what was cleared
pub cleared_is : (ns : Option ℕ) (from to : Pos) (ms now found : List Mark) (greatest : List (ℕ × ℕ)) → IsSound ms greatest → found ≡ filter (is_cleared ns from to) ms
    → now ≡ without_all found ms → now ≡ filter (λ m. not (is_cleared ns from to m)) ms
cleared_is ns from to ms now found greatest sound is gone =
    gone ∙ ap (λ (l : List Mark). without_all l ms) is ∙ without_those (is_cleared ns from to) ms sound.distinct

-- where all places lie in the part, only the namespace tells
pub cleared_whole : (ns : Option ℕ) (from to : Pos) (ms : List Mark) → ((p : Pos) → IsNarrow p → is_within from to p ≡ true) → ForEach (λ (m : Mark). IsNarrow m.start) ms
    → other_marks ns ms ≡ filter (λ m. not (is_cleared ns from to m)) ms
cleared_whole ns from to [] whole narrow = refl
cleared_whole ns from to (m ∷ ms) whole narrow =
    ap (λ (l : List Mark). cond (not (is_meant ns m.ns)) (m ∷ l) l) (cleared_whole ns from to ms whole narrow.1)
    ∙ ap (λ (b : Bool). cond (not b) (m ∷ cleared_marks ns from to ms) (cleared_marks ns from to ms))
    (sym (ap (λ (b : Bool). is_meant ns m.ns && b) (whole m.start narrow.0) ∙ and_true (is_meant ns m.ns)))
  where
    and_true : (b : Bool) → (b && true) ≡ b
    and_true true = refl
    and_true false = refl
