-- What one splice does to the marks of a buffer is what the model's splice does to them.
use Rattle.std.proofs.Common.{◌≡◌, ℕ, ◌+◌, ◌-◌, ◌≤◌, List, [], ◌∷◌, ◌++◌, length, take, drop, map, fold, refl, ap, sym, ◌∙◌, length-append, arith, All, Bool, true, false, cond, not, eqb, ◌&&◌, filter, subst, Option, Some, None, unwrap_or}
use Rattle.std.specs.Prelude.{IfSome, IsPermutation, option_map, option_to_list}
use Rattle.std.specs.List.{IsDistinct}
use Rattle.std.proofs.Math.Seq.{take-add}
use Rattle.std.proofs.lemmas.Bool.Decides.{nat_tests}
use Rattle.std.proofs.lemmas.List.Elements.{All-cons, All-head, All-tail, All-nil, All-weaker, All-filter, All-map, All-from_recursion}
use Rattle.std.proofs.lemmas.List.Sorted.{All-permutation, IsPermutation-map, IsPermutation-sym, IsPermutation-trans}
use Rattle.std.proofs.lemmas.Map.Keys.{IsDistinct-head, IsDistinct-tail, IsDistinct-IsPermutation}
use Rattle.nv_places.specs.Flat.{flat, IsLine}
use Rattle.nv_places.specs.Places.{end_of, place_of, extent_of, further}
use Rattle.nv_places.specs.Moves.{moved_offset}
use Rattle.nv_places.specs.declared.place.Pos.{Pos}
use Rattle.nv_places.proofs.PlaceLemmas.{end_of-append}
use Rattle.nv_marks.specs.Keeping.{is_gone, is_kept, is_struck, kept_marks, kept_of, put_back_mark, struck_mark}
use Rattle.nv_marks.specs.Marks.{mark_at}
use Rattle.nv_marks.specs.Moves.{moved_mark}
use Rattle.nv_marks.specs.Order.{IsInOrder}
use Rattle.nv_marks.specs.Sound.{same_name}
use Rattle.nv_marks.specs.declared.extmark.Mark.{Mark}
use Rattle.nv_marks.specs.declared.keeping.Kept.{Kept as KeptMark}
use Rattle.nv_marks.proofs.UniqueLemmas.{order_is_unique}
use Rattle.nv_buffer.specs.Changes.{lines_after}
use Rattle.nv_buffer.specs.Content.{Content, after_edit, kept_put_back}
use Rattle.nv_buffer.specs.KeptMarks.{is_kept_in, kept_at}
use Rattle.nv_buffer.specs.Marks.{mark_after, marks_in_order}
use Rattle.nv_buffer.specs.declared.edit.ChangePart.{ChangePart}
use Rattle.nv_buffer.specs.declared.edit.Edit.{Edit}
use Rattle.nv_buffer.proofs.MarkOrders.{in_order_is}
use Rattle.nv_model.specs.Buffers.{Splice, SetMark, KeptState, MarkState, ModelBuffer, text_after, inverse_splice, text_of, is_same_part, is_removed, keys_of, kept_state, kept_with, last_kept, reach_of, state_after, state_moved, state_now, state_put_back, state_struck, mark_in, mark_of, marks_there, with_splice_back}
use Rattle.nv_model.specs.Standing.{IsKeptBy, IsKeptFor, IsSetIn, IsWithin, AreWithin, StandsFor, is_kept_of, kept_mark_of, same_set, text_met}
use Rattle.nv_model.specs.Keeping.{StepsAlike}
use Rattle.nv_model.proofs.Behind.{behind_grown}
use Rattle.nv_model.proofs.KeptPlaces.{lies_met, met-more}
use Rattle.nv_model.proofs.MarkOrders.{there_apart}
use Rattle.nv_model.proofs.Marking.{filter-in_order}
use Rattle.nv_model.proofs.Moving.{marks_step_alike, moved-within, text-more, within-more}
use Rattle.nv_model.proofs.OfMark.{IsOf, LiesIn, kept_one, kept_passes, none_put_back, one_put_back, put_back_alike}
use Rattle.nv_model.proofs.PartsKept.{kept_elsewhere, kept_here, state_kept_elsewhere, state_kept_here}

-- the marks of a buffer as it is kept stand for those of the model
pub record MarksAlike (b : Content) (m : ModelBuffer) : Type 0 where
  pub text : flat b.text ≡ text_of m
  pub lines : All IsLine b.text
  pub marks : IsInOrder (map (mark_of m) (marks_there m)) b.marks.marks
  pub kept : (part : ChangePart) → IsKeptBy b m part
  pub splices : AreWithin m.first m.splices
  pub named : IsDistinct same_set m.marks
  pub set : All (IsSetIn (text_of m) m.splices) m.marks
  pub settings : All (λ (k : SetMark). k.set ≤ m.settings) m.marks

pub standing_marks : (b : Content) (m : ModelBuffer) → StandsFor b m → MarksAlike b m
standing_marks b m is = record {
  text = is.text;
  lines = is.lines;
  marks = is.marks;
  kept = is.kept;
  splices = is.valid.splices;
  named = is.valid.named;
  set = is.valid.marks;
  settings = is.valid.settings;
}

-- an edit of such a buffer is a splice of the model's; where the splice before of its part kept
-- something of a mark, that was in the text to which this one leads
pub record IsStep (b : Content) (m : ModelBuffer) (s : Splice) (edit : Edit) : Type 0 where
  pub within : IsWithin (text_of m) s
  pub start : edit.start ≡ place_of (text_of m) s.from
  pub removed : edit.removed ≡ extent_of (inverse_splice (text_of m) s).bytes
  pub put : edit.put ≡ extent_of s.bytes
  pub part : edit.part ≡ s.part
  pub text : flat (lines_after b.text edit) ≡ text_after (text_of m) s
  pub lines : All IsLine (lines_after b.text edit)
  pub met :
      (k : SetMark) (x : KeptState) → last_kept s.part (state_now m k).kept ≡ Some x
      → text_met s.part [] m.first m.splices ≡ text_after (text_of m) s

-- ---- lists
both_all : {X : Type 0} (P Q : X → Type 0) (xs : List X) → All P xs → All Q xs → All (λ x. P x × Q x) xs
both_all P Q xs a b = λ i d low. (a i d low, b i d low)

all_where : {X : Type 0} (p : X → Bool) (P : X → Type 0) (xs : List X) → All (λ x. p x ≡ true → P x) xs → All P (filter p xs)
all_where p P [] are = All-nil P
all_where p P (x ∷ xs) are = by_case (p x) refl (all_where p P xs (All-tail (λ y. p y ≡ true → P y) x xs are))
  where
    by_case : (b : Bool) → p x ≡ b → All P (filter p xs) → All P (cond b (x ∷ filter p xs) (filter p xs))
    by_case true is rest = All-cons P x (filter p xs) (All-head (λ y. p y ≡ true → P y) x xs are is) rest
    by_case false is rest = rest

all_of_there : {X : Type 0} (p : X → Bool) (P : X → Type 0) (xs : List X) → All P (filter p xs) → All (λ x. p x ≡ true → P x) xs
all_of_there p P [] are = All-nil (λ x. p x ≡ true → P x)
all_of_there p P (x ∷ xs) are = by_case (p x) refl (all_of_there p P xs) are
  where
    by_case : (b : Bool) → p x ≡ b → (All P (filter p xs) → All (λ y. p y ≡ true → P y) xs) → All P (cond b (x ∷ filter p xs) (filter p xs)) → All (λ y. p y ≡ true → P y) (x ∷ xs)
    by_case true is rest here =
        All-cons (λ y. p y ≡ true → P y) x xs (λ holds. All-head P x (filter p xs) here)
        (rest (All-tail P x (filter p xs) here))
    by_case false is rest here =
        All-cons (λ y. p y ≡ true → P y) x xs (λ holds. absurd (let no : true ≡ false = sym holds ∙ is in cc)) (rest here)

all_unmapped : {X Y : Type 0} (P : Y → Type 0) (f : X → Y) (xs : List X) → All P (map f xs) → All (λ x. P (f x)) xs
all_unmapped P f [] are = All-nil (λ x. P (f x))
all_unmapped P f (x ∷ xs) are =
    All-cons (λ y. P (f y)) x xs (All-head P (f x) (map f xs) are) (all_unmapped P f xs (All-tail P (f x) (map f xs) are))

map_twice : (f g : Mark → Mark) (ms : List Mark) → map (λ m. f (g m)) ms ≡ map f (map g ms)
map_twice f g [] = refl
map_twice f g (m ∷ ms) = ap (λ (l : List Mark). f (g m) ∷ l) (map_twice f g ms)

filters-swap : (p q : KeptMark → Bool) (ks : List KeptMark) → filter p (filter q ks) ≡ filter q (filter p ks)
filters-swap p q [] = refl
filters-swap p q (k ∷ ks) = by_case (filters-swap p q ks) (p k) refl (q k) refl
  where
    by_case : filter p (filter q ks) ≡ filter q (filter p ks) → (a : Bool) → p k ≡ a → (b : Bool) → q k ≡ b
        → filter p (cond b (k ∷ filter q ks) (filter q ks)) ≡ filter q (cond a (k ∷ filter p ks) (filter p ks))
    by_case rest true by_p true by_q = rw (by_p, by_q) (ap (λ (l : List KeptMark). k ∷ l) rest)
    by_case rest true by_p false by_q = rw by_q rest
    by_case rest false by_p true by_q = rw by_p rest
    by_case rest false by_p false by_q = rest

found_each : (ms : List Mark) → IsDistinct same_name ms → All (λ (x : Mark). mark_at ms x.ns x.id ≡ Some x) ms
found_each [] apart = All-nil (λ (x : Mark). mark_at [] x.ns x.id ≡ Some x)
found_each (m ∷ ms) apart =
    All-cons (λ (x : Mark). mark_at (m ∷ ms) x.ns x.id ≡ Some x) m ms
    (ap (λ (b : Bool). cond b (Some m) (mark_at ms m.ns m.id)) (itself m.ns m.id))
    (All-weaker (λ (x : Mark). (same_name m x ≡ false) × (mark_at ms x.ns x.id ≡ Some x)) (λ (x : Mark). mark_at (m ∷ ms) x.ns x.id ≡ Some x)
    (λ x both. ap (λ (b : Bool). cond b (Some m) (mark_at ms x.ns x.id)) both.0 ∙ both.1) ms
    (both_all (λ (x : Mark). same_name m x ≡ false) (λ (x : Mark). mark_at ms x.ns x.id ≡ Some x) ms
    (All-from_recursion (λ (x : Mark). same_name m x ≡ false) ms (IsDistinct-head same_name m ms apart))
    (found_each ms (IsDistinct-tail same_name m ms apart))))
  where
    itself : (n i : ℕ) → (eqb n n && eqb i i) ≡ true
    itself n i = grind (arith, nat_tests)

-- ---- a state that is struck
struck_start : (k : SetMark) (x : MarkState) (s : Splice) → (state_struck (keys_of k) x (reach_of s)).start ≡ x.start
struck_start k x s = by_case (k.invalidate && is_removed x (reach_of s)) k.restore
  where
    by_case : (a b : Bool) → (cond a (cond b (record x { hidden = true }) (record x { gone = true })) x).start ≡ x.start
    by_case true true = refl
    by_case true false = refl
    by_case false true = refl
    by_case false false = refl

struck_stop : (k : SetMark) (x : MarkState) (s : Splice) → (state_struck (keys_of k) x (reach_of s)).stop ≡ x.stop
struck_stop k x s = by_case (k.invalidate && is_removed x (reach_of s)) k.restore
  where
    by_case : (a b : Bool) → (cond a (cond b (record x { hidden = true }) (record x { gone = true })) x).stop ≡ x.stop
    by_case true true = refl
    by_case true false = refl
    by_case false true = refl
    by_case false false = refl

-- whether it is gone then
struck_gone : (k : SetMark) (x : MarkState) (s : Splice) → x.gone ≡ false
    → not (state_struck (keys_of k) x (reach_of s)).gone ≡ not ((k.invalidate && is_removed x (reach_of s)) && not k.restore)
struck_gone k x s there = by_case (k.invalidate && is_removed x (reach_of s)) k.restore
  where
    by_case : (a b : Bool) → not (cond a (cond b (record x { hidden = true }) (record x { gone = true })) x).gone ≡ not (a && not b)
    by_case true true = ap not there
    by_case true false = refl
    by_case false true = ap not there
    by_case false false = ap not there

stays_gone : (k : SetMark) (x : MarkState) (s : Splice) → x.gone ≡ true → (state_struck (keys_of k) x (reach_of s)).gone ≡ true
stays_gone k x s gone = by_case (k.invalidate && is_removed x (reach_of s)) k.restore
  where
    by_case : (a b : Bool) → (cond a (cond b (record x { hidden = true }) (record x { gone = true })) x).gone ≡ true
    by_case true true = gone
    by_case true false = refl
    by_case false true = gone
    by_case false false = gone

gone_back : (o : Option KeptState) (x : MarkState) → (state_put_back o x).gone ≡ x.gone
gone_back None x = refl
gone_back (Some y) x = refl

gone_after : (k : SetMark) (x : MarkState) (s : Splice) → (state_after (keys_of k) x (reach_of s)).gone ≡ (state_struck (keys_of k) x (reach_of s)).gone
gone_after k x s = gone_back (last_kept s.part x.kept) (state_moved (keys_of k) (state_struck (keys_of k) x (reach_of s)) (reach_of s))

-- a mark that isn't gone then is struck as a mark is
struck_mark_in : (text : List ℕ) (k : SetMark) (x : MarkState) (s : Splice) (struck : Bool) → struck ≡ (k.invalidate && is_removed x (reach_of s))
    → (struck && not k.restore) ≡ false
    → mark_in text k (state_struck (keys_of k) x (reach_of s)) ≡ cond struck (record (mark_in text k x) { hidden = true }) (mark_in text k x)
struck_mark_in text k x s struck is left =
    ap (λ (b : Bool). mark_in text k (cond b (cond k.restore (record x { hidden = true }) (record x { gone = true })) x)) (sym is)
    ∙ by_case struck k.restore left
  where
    by_case : (a b : Bool) → (a && not b) ≡ false
        → mark_in text k (cond a (cond b (record x { hidden = true }) (record x { gone = true })) x)
        ≡ cond a (record (mark_in text k x) { hidden = true }) (mark_in text k x)
    by_case true true h = refl
    by_case true false h = cc
    by_case false true h = refl
    by_case false false h = refl

-- ---- one splice
module _ (b : Content) (m : ModelBuffer) (s : Splice) (edit : Edit) (is : MarksAlike b m) (step : IsStep b m s edit) where
  abbrev next : ModelBuffer
  next = with_splice_back s m

  abbrev later : Content
  later = after_edit b edit

  abbrev after : List ℕ
  after = text_after (text_of m) s

  abbrev from : Pos
  from = place_of (text_of m) s.from

  abbrev to : Pos
  to = place_of (text_of m) s.until

  abbrev there : SetMark → Bool
  there k = not (state_now m k).gone

  abbrev there_next : SetMark → Bool
  there_next k = not (state_now next k).gone

  abbrev set_in : SetMark → Type 0
  set_in k = IsSetIn (text_of m) m.splices k

  abbrev put_back : List KeptMark
  put_back = kept_put_back b edit

  text_next : text_of next ≡ after
  unfolding text_of
  text_next = text-more m.first m.splices s

  to_is : further edit.start edit.removed ≡ to
  to_is =
      let count : s.from + (s.until - s.from) ≡ s.until = omega (arith, step.within.order) in
      (λ i. further (step.start i) (step.removed i))
      ∙ sym (end_of-append (take s.from (text_of m)) (take (s.until - s.from) (drop s.from (text_of m))))
      ∙ ap end_of (sym (take-add s.from (s.until - s.from) (text_of m)))
      ∙ ap (λ (n : ℕ). end_of (take n (text_of m))) count

  state_next : (k : SetMark) → set_in k → state_now next k ≡ state_after (keys_of k) (state_now m k) (reach_of s)
  state_next k here = behind_grown m.splices (s ∷ []) k here.since

  alike : (k : SetMark) → set_in k → StepsAlike (text_of m) s k (state_now m k)
  alike k here = marks_step_alike (text_of m) s k (state_now m k) step.within here.start here.stop

  -- ---- which are there
  there_after : (k : SetMark) → set_in k → there k ≡ true → there_next k ≡ not (is_gone from to (mark_of m k))
  there_after k here is_there =
      let stays : (state_now m k).gone ≡ false = lowered (state_now m k).gone is_there in
      ap (λ (x : MarkState). not x.gone) (state_next k here)
      ∙ ap not (gone_after k (state_now m k) s)
      ∙ struck_gone k (state_now m k) s stays
      ∙ ap (λ (t : Bool). not (t && not k.restore)) (sym (alike k here).struck)
    where
      lowered : (t : Bool) → not t ≡ true → t ≡ false
      lowered true fails = cc
      lowered false holds = refl

  gone_then : (k : SetMark) → set_in k → there k ≡ false → there_next k ≡ false
  gone_then k here fails =
      let gone : (state_now m k).gone ≡ true = raised (state_now m k).gone fails in
      ap (λ (x : MarkState). not x.gone) (state_next k here)
      ∙ ap not (gone_after k (state_now m k) s)
      ∙ ap not (stays_gone k (state_now m k) s gone)
    where
      raised : (t : Bool) → not t ≡ false → t ≡ true
      raised true holds = refl
      raised false fails = cc

  -- ---- what is put back
  of_back : (k : SetMark) (o : Option KeptState) → last_kept s.part (state_now m k).kept ≡ o → IsKeptFor b m s.part k
      → filter (is_kept_of k) put_back ≡ option_to_list (option_map (kept_mark_of after k) o)
  of_back k o is_o for =
      let found : filter (is_kept_of k) (kept_at b.kept s.part) ≡ option_to_list (option_map (kept_mark_of (text_met s.part [] m.first m.splices) k) o) =
      for ∙ ap (λ (p : Option KeptState). option_to_list (option_map (kept_mark_of (text_met s.part [] m.first m.splices) k) p)) is_o in
      filters-swap (is_kept_of k) (is_kept_in (lines_after b.text edit)) (kept_at b.kept edit.part)
      ∙ ap (λ (p : ChangePart). filter (is_kept_in (lines_after b.text edit)) (filter (is_kept_of k) (kept_at b.kept p))) step.part
      ∙ ap (filter (is_kept_in (lines_after b.text edit))) found
      ∙ by_kept o is_o
    where
      by_kept : (o : Option KeptState) → last_kept s.part (state_now m k).kept ≡ o
          → filter (is_kept_in (lines_after b.text edit)) (option_to_list (option_map (kept_mark_of (text_met s.part [] m.first m.splices) k) o))
          ≡ option_to_list (option_map (kept_mark_of after k) o)
      by_kept None here = refl
      by_kept (Some x) here =
          let met : text_met s.part [] m.first m.splices ≡ after = step.met k x here in
          let lies : LiesIn after x = subst (λ (t : List ℕ). LiesIn t x) met (lies_met m.first m.splices k is.splices s.part x here) in
          ap (λ (t : List ℕ). filter (is_kept_in (lines_after b.text edit)) (kept_mark_of t k x ∷ [])) met
          ∙ ap (λ (t : Bool). cond t (kept_mark_of after k x ∷ []) []) (kept_passes (lines_after b.text edit) after k x step.lines step.text lies)

  back_alike : (k : SetMark) (z : MarkState) → IsKeptFor b m s.part k
      → put_back_mark put_back (mark_in after k z) ≡ mark_in after k (state_put_back (last_kept s.part (state_now m k).kept) z)
  back_alike k z for = by_kept (last_kept s.part (state_now m k).kept) refl
    where
      named : IsOf k (mark_in after k z)
      named = record { ns = refl; id = refl; set = refl }

      by_kept : (o : Option KeptState) → last_kept s.part (state_now m k).kept ≡ o
          → put_back_mark put_back (mark_in after k z) ≡ mark_in after k (state_put_back o z)
      by_kept None here = none_put_back k (mark_in after k z) put_back named (of_back k None here for)
      by_kept (Some x) here =
          one_put_back k (mark_in after k z) put_back (kept_mark_of after k x) named (of_back k (Some x) here for)
          ∙ put_back_alike after k x z

  -- ---- one mark
  -- what the edit does to a mark that is left
  abbrev changed : Mark → Mark
  changed mark = mark_after put_back edit (struck_mark edit.start (further edit.start edit.removed) mark)

  abbrev left : Mark → Bool
  left mark = not (is_gone edit.start (further edit.start edit.removed) mark)

  left_is : (mark : Mark) → left mark ≡ not (is_gone from to mark)
  left_is mark = λ i. not (is_gone (step.start i) (to_is i) mark)

  mark_next : (k : SetMark) → set_in k → is_gone from to (mark_of m k) ≡ false → IsKeptFor b m s.part k → changed (mark_of m k) ≡ mark_of next k
  mark_next k here stays for =
      let x : MarkState = state_now m k in
      let y : MarkState = state_struck (keys_of k) x (reach_of s) in
      let struck = (alike k here).struck in
      let struck_one : mark_in (text_of m) k y ≡ struck_mark from to (mark_of m k) =
      struck_mark_in (text_of m) k x s (is_struck from to (mark_of m k)) struck stays in
      let low : y.start ≤ length (text_of m) = subst (λ (n : ℕ). n ≤ length (text_of m)) (sym (struck_start k x s)) here.start in
      let stop : IfSome y.stop (λ p. p ≤ length (text_of m)) =
      subst (λ (o : Option ℕ). IfSome o (λ p. p ≤ length (text_of m))) (sym (struck_stop k x s)) here.stop in
      let moved : mark_in after k (state_moved (keys_of k) y (reach_of s))
      ≡ moved_mark from (extent_of (inverse_splice (text_of m) s).bytes) (extent_of s.bytes) (mark_in (text_of m) k y) =
      (marks_step_alike (text_of m) s k y step.within low stop).moved in
      (λ i. put_back_mark put_back (moved_mark (step.start i) (step.removed i) (step.put i) (struck_mark (step.start i) (to_is i) (mark_of m k))))
      ∙ ap (λ (mark : Mark). put_back_mark put_back (moved_mark from (extent_of (inverse_splice (text_of m) s).bytes) (extent_of s.bytes) mark)) (sym struck_one)
      ∙ ap (put_back_mark put_back) (sym moved)
      ∙ back_alike k (state_moved (keys_of k) y (reach_of s)) for
      ∙ (λ i. mark_in (sym text_next i) k (sym (state_next k here) i))

  -- ---- all marks
  abbrev known : SetMark → Type 0
  known k = set_in k × (there k ≡ true → IsKeptFor b m s.part k)

  all_known : All known m.marks
  all_known =
      both_all set_in (λ k. there k ≡ true → IsKeptFor b m s.part k) m.marks is.set
      (all_of_there there (IsKeptFor b m s.part) m.marks (is.kept s.part).each)

  abbrev others : List SetMark → List Mark
  others ks = map (mark_of m) (filter there ks)

  all_next : (ks : List SetMark) → All known ks
      → map (mark_of next) (filter there_next ks) ≡ map changed (filter left (map (mark_of m) (filter there ks)))
  all_next [] are = refl
  all_next (k ∷ ks) are = by_there (there k) refl (all_next ks (All-tail known k ks are))
    where
      first : known k
      first = All-head known k ks are

      by_gone : (c : Bool) → there k ≡ true → is_gone from to (mark_of m k) ≡ c
          → map (mark_of next) (filter there_next ks) ≡ map changed (filter left (others ks))
          → map (mark_of next) (cond (not c) (k ∷ filter there_next ks) (filter there_next ks))
          ≡ map changed (cond (not c) (mark_of m k ∷ filter left (others ks)) (filter left (others ks)))
      by_gone true holds gone rest = rest
      by_gone false holds stays rest = λ i. sym (mark_next k first.0 stays (first.1 holds)) i ∷ rest i

      by_there : (t : Bool) → there k ≡ t
          → map (mark_of next) (filter there_next ks) ≡ map changed (filter left (others ks))
          → map (mark_of next) (filter there_next (k ∷ ks)) ≡ map changed (filter left (map (mark_of m) (cond t (k ∷ filter there ks) (filter there ks))))
      by_there true holds rest =
          ap (λ (t : Bool). map (mark_of next) (cond t (k ∷ filter there_next ks) (filter there_next ks))) (there_after k first.0 holds)
          ∙ by_gone (is_gone from to (mark_of m k)) holds refl rest
          ∙ ap (λ (t : Bool). map changed (cond t (mark_of m k ∷ filter left (others ks)) (filter left (others ks)))) (sym (left_is (mark_of m k)))
      by_there false fails rest =
          ap (λ (t : Bool). map (mark_of next) (cond t (k ∷ filter there_next ks) (filter there_next ks))) (gone_then k first.0 fails)
          ∙ rest

  -- the marks of the buffer, in the order that there is
  abbrev told : List Mark
  told = map (mark_of m) (marks_there m)

  marks_are : b.marks.marks ≡ marks_in_order told
  marks_are = order_is_unique told b.marks.marks (marks_in_order told) (there_apart m is.named) is.marks (in_order_is told)

  left_permuted : IsPermutation (filter left told) (filter left b.marks.marks)
  left_permuted =
      subst (λ (l : List Mark). IsPermutation (filter left told) l)
      (sym (ap (filter left) marks_are ∙ filter-in_order left told))
      (in_order_is (filter left told)).same_marks

  pub marks_next : IsInOrder (map (mark_of next) (marks_there next)) later.marks.marks
  marks_next =
      let struck : List Mark = map (struck_mark edit.start (further edit.start edit.removed)) (filter left b.marks.marks) in
      let all : List Mark = map (mark_after put_back edit) struck in
      let same : map changed (filter left b.marks.marks) ≡ all =
      map_twice (mark_after put_back edit) (struck_mark edit.start (further edit.start edit.removed)) (filter left b.marks.marks) in
      let permuted : IsPermutation (map (mark_of next) (marks_there next)) all =
      subst (λ (l : List Mark). IsPermutation l all) (sym (all_next m.marks all_known))
      (subst (λ (l : List Mark). IsPermutation (map changed (filter left told)) l) same
      (IsPermutation-map changed (filter left told) (filter left b.marks.marks) left_permuted)) in
      record {
        same_marks =
            IsPermutation-trans (map (mark_of next) (marks_there next)) all (marks_in_order all) permuted (in_order_is all).same_marks;
        in_order = (in_order_is all).in_order;
      }

  -- ---- what is kept
  flips : (x y : Mark) → same_name x y ≡ same_name y x
  flips x y = numbers x.ns x.id y.ns y.id
    where
      numbers : (n i k j : ℕ) → (eqb n k && eqb i j) ≡ (eqb k n && eqb j i)
      numbers n i k j = grind (arith, nat_tests)

  apart : IsDistinct same_name b.marks.marks
  apart = IsDistinct-IsPermutation same_name flips told b.marks.marks is.marks.same_marks (there_apart m is.named)

  abbrev found : SetMark → Type 0
  found k = mark_at b.marks.marks k.ns k.id ≡ Some (mark_of m k)

  all_found : All found (marks_there m)
  all_found =
      all_unmapped (λ (x : Mark). mark_at b.marks.marks x.ns x.id ≡ Some x) (mark_of m) (marks_there m)
      (All-permutation (λ (x : Mark). mark_at b.marks.marks x.ns x.id ≡ Some x) b.marks.marks told
      (IsPermutation-sym told b.marks.marks is.marks.same_marks) (found_each b.marks.marks apart))

  abbrev kept_now : List KeptMark
  kept_now = kept_marks edit.start edit.removed b.marks.marks

  kept_now_is : kept_now ≡ map (kept_of from to) (filter (is_kept from to) b.marks.marks)
  kept_now_is = λ i. map (kept_of (step.start i) (to_is i)) (filter (is_kept (step.start i) (to_is i)) b.marks.marks)

  met_is : (part : ChangePart) → text_met part [] m.first (m.splices ++ s ∷ [])
      ≡ cond (is_same_part part s.part) (text_of m) (text_met part [] m.first m.splices)
  unfolding text_of
  met_is part = met-more part [] m.first m.splices s

  kept_next : (k : SetMark) → set_in k → found k → (part : ChangePart) → IsKeptFor b m part k → IsKeptFor later next part k
  kept_next k here is_found part for = by_part (is_same_part part s.part) refl
    where
      told_as : (t : List ℕ) (o : Option KeptState) → text_met part [] m.first (m.splices ++ s ∷ []) ≡ t
          → last_kept part (kept_with s.part (kept_state (keys_of k) (state_now m k) (reach_of s)) (state_now m k).kept) ≡ o
          → option_to_list (option_map (kept_mark_of t k) o)
          ≡ option_to_list (option_map (kept_mark_of (text_met part [] m.first (m.splices ++ s ∷ [])) k) (last_kept part (state_now next k).kept))
      told_as t o met last =
          (λ i. option_to_list (option_map (kept_mark_of (sym met i) k) (sym last i)))
          ∙ ap (λ (y : MarkState). option_to_list (option_map (kept_mark_of (text_met part [] m.first (m.splices ++ s ∷ [])) k) (last_kept part y.kept)))
          (sym (state_next k here))

      one_of : (c : Bool) (y : KeptMark) → cond c (y ∷ []) [] ≡ option_to_list (cond c (Some y) None)
      one_of true y = refl
      one_of false y = refl

      same_parts : is_same_part part s.part ≡ true → is_same_part part edit.part ≡ true
      same_parts same = ap (is_same_part part) step.part ∙ same

      by_part : (c : Bool) → is_same_part part s.part ≡ c → IsKeptFor later next part k
      by_part true same =
          ap (filter (is_kept_of k)) (kept_here part edit.part kept_now b.kept (same_parts same) ∙ kept_now_is)
          ∙ kept_one k from to b.marks.marks (mark_of m k) apart is_found refl
          ∙ one_of (is_kept from to (mark_of m k)) (kept_of from to (mark_of m k))
          ∙ ap option_to_list (sym (alike k here).kept)
          ∙ told_as (text_of m) (kept_state (keys_of k) (state_now m k) (reach_of s))
          (met_is part ∙ ap (λ (c : Bool). cond c (text_of m) (text_met part [] m.first m.splices)) same)
          (state_kept_here part s.part (kept_state (keys_of k) (state_now m k) (reach_of s)) (state_now m k).kept same)
      by_part false other =
          ap (filter (is_kept_of k)) (kept_elsewhere part edit.part kept_now b.kept (ap (is_same_part part) step.part ∙ other))
          ∙ for
          ∙ told_as (text_met part [] m.first m.splices) (last_kept part (state_now m k).kept)
          (met_is part ∙ ap (λ (c : Bool). cond c (text_of m) (text_met part [] m.first m.splices)) other)
          (state_kept_elsewhere part s.part (kept_state (keys_of k) (state_now m k) (reach_of s)) (state_now m k).kept other)

  set_low : All (λ (x : KeptMark). x.set ≤ m.settings) kept_now
  set_low =
      let of_told : All (λ (x : Mark). x.set ≤ m.settings) told =
      All-map (λ (x : Mark). x.set ≤ m.settings) (mark_of m) (marks_there m)
      (All-filter there (λ (k : SetMark). k.set ≤ m.settings) m.marks is.settings) in
      let of_marks : All (λ (x : Mark). x.set ≤ m.settings) b.marks.marks =
      All-permutation (λ (x : Mark). x.set ≤ m.settings) told b.marks.marks is.marks.same_marks of_told in
      let start : Pos = edit.start in
      let stop : Pos = further edit.start edit.removed in
      All-map (λ (x : KeptMark). x.set ≤ m.settings) (kept_of start stop) (filter (is_kept start stop) b.marks.marks)
      (All-filter (is_kept start stop) (λ (x : Mark). x.set ≤ m.settings) b.marks.marks of_marks)

  made_next : (part : ChangePart) → All (λ (x : KeptMark). x.set ≤ m.settings) (kept_at later.kept part)
  made_next part = by_part (is_same_part part edit.part) refl
    where
      by_part : (c : Bool) → is_same_part part edit.part ≡ c → All (λ (x : KeptMark). x.set ≤ m.settings) (kept_at later.kept part)
      by_part true same =
          subst (λ (l : List KeptMark). All (λ (x : KeptMark). x.set ≤ m.settings) l) (sym (kept_here part edit.part kept_now b.kept same)) set_low
      by_part false other =
          subst (λ (l : List KeptMark). All (λ (x : KeptMark). x.set ≤ m.settings) l) (sym (kept_elsewhere part edit.part kept_now b.kept other)) (is.kept part).made

  abbrev all_three : ChangePart → SetMark → Type 0
  all_three part k = set_in k × ((there k ≡ true → found k) × (there k ≡ true → IsKeptFor b m part k))

  pub kept_stands : (part : ChangePart) → IsKeptBy later next part
  kept_stands part = record {
    each =
        all_where there_next (IsKeptFor later next part) m.marks
        (All-weaker (all_three part) (λ k. there_next k ≡ true → IsKeptFor later next part k)
        (λ k three holds. let was = was_there k three.0 holds in kept_next k three.0 (three.1.0 was) part (three.1.1 was)) m.marks
        (both_all set_in (λ k. (there k ≡ true → found k) × (there k ≡ true → IsKeptFor b m part k)) m.marks is.set
        (both_all (λ k. there k ≡ true → found k) (λ k. there k ≡ true → IsKeptFor b m part k) m.marks
        (all_of_there there found m.marks all_found)
        (all_of_there there (IsKeptFor b m part) m.marks (is.kept part).each))));
    made = made_next part;
  }
    where
      was_there : (k : SetMark) → set_in k → there_next k ≡ true → there k ≡ true
      was_there k here holds = by_case (there k) refl
        where
          by_case : (t : Bool) → there k ≡ t → there k ≡ true
          by_case true is_true = is_true
          by_case false is_false = absurd (let no : true ≡ false = sym holds ∙ gone_then k here is_false in cc)

  -- ---- where marks stand
  offset_back : (text : List ℕ) (o : Option ℕ) (p : ℕ) → IfSome o (λ q. q ≤ length text) → p ≤ length text → unwrap_or o p ≤ length text
  offset_back text None p lies low = low
  offset_back text (Some q) p lies low = lies

  stop_back : (text : List ℕ) (o p : Option ℕ) → IfSome o (λ q. q ≤ length text) → IfSome p (λ q. q ≤ length text)
      → IfSome (option_map (λ q. unwrap_or o q) p) (λ q. q ≤ length text)
  stop_back text o None lies low = tt
  stop_back text o (Some q) lies low = offset_back text o q lies low

  stop_moved_in : (right : Bool) (o : Option ℕ) → IfSome o (λ q. q ≤ length (text_of m))
      → IfSome (option_map (moved_offset right s.from s.until (length s.bytes)) o) (λ q. q ≤ length after)
  stop_moved_in right None low = tt
  stop_moved_in right (Some q) low = moved-within (text_of m) s right q step.within low

  set_next : (k : SetMark) → set_in k → IsSetIn after (m.splices ++ s ∷ []) k
  set_next k here =
      let x : MarkState = state_now m k in
      let y : MarkState = state_struck (keys_of k) x (reach_of s) in
      let moved : MarkState = state_moved (keys_of k) y (reach_of s) in
      let low : moved.start ≤ length after =
      moved-within (text_of m) s k.right y.start step.within (subst (λ (n : ℕ). n ≤ length (text_of m)) (sym (struck_start k x s)) here.start) in
      let stop : IfSome moved.stop (λ q. q ≤ length after) =
      stop_moved_in (keys_of k).stops_right y.stop (subst (λ (o : Option ℕ). IfSome o (λ q. q ≤ length (text_of m))) (sym (struck_stop k x s)) here.stop) in
      let stands = by_kept moved low stop (last_kept s.part x.kept) refl in
      record {
        since = omega (arith, here.since, length-append m.splices (s ∷ []));
        start = subst (λ (z : MarkState). z.start ≤ length after) (sym (state_next k here)) stands.0;
        stop = subst (λ (z : MarkState). IfSome z.stop (λ q. q ≤ length after)) (sym (state_next k here)) stands.1;
      }
    where
      by_kept : (z : MarkState) → z.start ≤ length after → IfSome z.stop (λ q. q ≤ length after) → (o : Option KeptState)
          → last_kept s.part (state_now m k).kept ≡ o
          → ((state_put_back o z).start ≤ length after) × IfSome (state_put_back o z).stop (λ q. q ≤ length after)
      by_kept z low stop None last = (low, stop)
      by_kept z low stop (Some kept) last =
          let lies : LiesIn after kept =
          subst (λ (t : List ℕ). LiesIn t kept) (step.met k kept last) (lies_met m.first m.splices k is.splices s.part kept last) in
          (offset_back after kept.start z.start lies.start low, stop_back after kept.stop z.stop lies.stop stop)

  -- and so the marks stand for the model's after it
  pub marks_stand : MarksAlike later next
  marks_stand = record {
    text = step.text ∙ sym text_next;
    lines = step.lines;
    marks = marks_next;
    kept = kept_stands;
    splices = within-more m.first m.splices s is.splices in_all;
    named = is.named;
    set =
        subst (λ (t : List ℕ). All (IsSetIn t (m.splices ++ s ∷ [])) m.marks) (sym text_next)
        (All-weaker set_in (IsSetIn after (m.splices ++ s ∷ [])) set_next m.marks is.set);
    settings = is.settings;
  }
    where
      in_all : IsWithin (fold text_after m.first m.splices) s
      in_all = unfold text_of in step.within
