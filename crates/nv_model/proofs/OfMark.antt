-- What is kept of one mark among what is kept of all, and what of it all is put back to one mark.
use Rattle.std.proofs.Common.{◌≡◌, ℕ, List, [], ◌∷◌, map, refl, ap, sym, ◌∙◌, arith, Bool, true, false, cond, eqb, nat_le, ◌&&◌, ◌≤◌, length, All, filter, subst, Option, Some, None, unwrap_or}
use Rattle.std.specs.Prelude.{IfSome, option_map}
use Rattle.std.specs.List.{AllByRecursion, IsDistinct}
use Rattle.std.specs.Option.{option_map_or}
use Rattle.std.proofs.lemmas.Bool.Decides.{nat_tests}
use Rattle.std.proofs.lemmas.Map.Keys.{IsDistinct-head, IsDistinct-tail}
use Rattle.std.proofs.lemmas.Option.{same_Some}
use Rattle.nv_places.specs.Flat.{flat, IsLine, line_at}
use Rattle.nv_places.specs.Places.{place_of, IsPlaceIn}
use Rattle.nv_places.specs.declared.place.Pos.{Pos}
use Rattle.nv_places.proofs.PlaceLemmas.{offset-place}
use Rattle.nv_marks.specs.Keeping.{far_put_back, is_kept, is_of_kept, kept_of, put_back_by, put_back_mark}
use Rattle.nv_marks.specs.Marks.{is_named, mark_at}
use Rattle.nv_marks.specs.Sound.{same_name}
use Rattle.nv_marks.specs.declared.extmark.Mark.{Mark}
use Rattle.nv_marks.specs.declared.keeping.Kept.{Kept}
use Rattle.nv_buffer.specs.KeptMarks.{is_kept_in, is_place_in}
use Rattle.nv_model.specs.Buffers.{SetMark, KeptState, MarkState, state_put_back, far_of, mark_in}
use Rattle.nv_model.specs.Standing.{is_kept_of, kept_mark_of}

-- ---- what is kept of one mark
module _ (k : SetMark) (from to : Pos) where
  abbrev kept_all : List Mark → List Kept
  kept_all ms = map (kept_of from to) (filter (is_kept from to) ms)

  other_name : (m : Mark) → is_named k.ns k.id m ≡ false → is_kept_of k (kept_of from to m) ≡ false
  other_name m other = ap (λ (b : Bool). b && eqb m.set k.set) other

  none_of : (ms : List Mark) → AllByRecursion (λ m. is_named k.ns k.id m ≡ false) ms → filter (is_kept_of k) (kept_all ms) ≡ []
  none_of [] others = refl
  none_of (m ∷ ms) others = by_case (is_kept from to m) (none_of ms others.1)
    where
      by_case : (b : Bool) → filter (is_kept_of k) (kept_all ms) ≡ []
          → filter (is_kept_of k) (map (kept_of from to) (cond b (m ∷ filter (is_kept from to) ms) (filter (is_kept from to) ms))) ≡ []
      by_case true rest =
          ap (λ (c : Bool). cond c (kept_of from to m ∷ filter (is_kept_of k) (kept_all ms)) (filter (is_kept_of k) (kept_all ms))) (other_name m others.0)
          ∙ rest
      by_case false rest = rest

  names_other : (m : Mark) (ms : List Mark) → is_named k.ns k.id m ≡ true → AllByRecursion (λ x. same_name m x ≡ false) ms
      → AllByRecursion (λ x. is_named k.ns k.id x ≡ false) ms
  names_other m [] is others = tt
  names_other m (x ∷ ms) is others = (numbers m.ns m.id x.ns x.id k.ns k.id is others.0, names_other m ms is others.1)
    where
      numbers : (a i b j c l : ℕ) → (eqb a c && eqb i l) ≡ true → (eqb a b && eqb i j) ≡ false → (eqb b c && eqb j l) ≡ false
      numbers a i b j c l is other = grind (arith, nat_tests)

  -- of marks of different names, of which this one has the name, that is kept which is kept of it
  pub kept_one : (ms : List Mark) (x : Mark) → IsDistinct same_name ms → mark_at ms k.ns k.id ≡ Some x → x.set ≡ k.set
      → filter (is_kept_of k) (kept_all ms) ≡ cond (is_kept from to x) (kept_of from to x ∷ []) []
  kept_one [] x apart found set = cc
  kept_one (m ∷ ms) x apart found set =
      by_name (is_named k.ns k.id m) refl (λ later. kept_one ms x (IsDistinct-tail same_name m ms apart) later set) found
    where
      by_kept : (b : Bool) → is_named k.ns k.id m ≡ true → m.set ≡ k.set
          → filter (is_kept_of k) (map (kept_of from to) (cond b (m ∷ filter (is_kept from to) ms) (filter (is_kept from to) ms)))
          ≡ cond b (kept_of from to m ∷ []) []
      by_kept true is same =
          let rest : filter (is_kept_of k) (kept_all ms) ≡ [] = none_of ms (names_other m ms is (IsDistinct-head same_name m ms apart)) in
          let here : is_kept_of k (kept_of from to m) ≡ true = both (is_named k.ns k.id m) m.set k.set is same in
          ap (λ (c : Bool). cond c (kept_of from to m ∷ filter (is_kept_of k) (kept_all ms)) (filter (is_kept_of k) (kept_all ms))) here
          ∙ ap (λ (l : List Kept). kept_of from to m ∷ l) rest
        where
          both : (b : Bool) (i j : ℕ) → b ≡ true → i ≡ j → (b && eqb i j) ≡ true
          both b i j is same = grind (arith, nat_tests)
      by_kept false is same = none_of ms (names_other m ms is (IsDistinct-head same_name m ms apart))

      by_other : (b : Bool) → is_named k.ns k.id m ≡ false
          → filter (is_kept_of k) (map (kept_of from to) (cond b (m ∷ filter (is_kept from to) ms) (filter (is_kept from to) ms)))
          ≡ filter (is_kept_of k) (kept_all ms)
      by_other true other =
          ap (λ (c : Bool). cond c (kept_of from to m ∷ filter (is_kept_of k) (kept_all ms)) (filter (is_kept_of k) (kept_all ms))) (other_name m other)
      by_other false other = refl

      by_name : (b : Bool) → is_named k.ns k.id m ≡ b
          → (mark_at ms k.ns k.id ≡ Some x → filter (is_kept_of k) (kept_all ms) ≡ cond (is_kept from to x) (kept_of from to x ∷ []) [])
          → cond b (Some m) (mark_at ms k.ns k.id) ≡ Some x
          → filter (is_kept_of k) (kept_all (m ∷ ms)) ≡ cond (is_kept from to x) (kept_of from to x ∷ []) []
      by_name true is later here =
          let same : m ≡ x = same_Some m x here in
          by_kept (is_kept from to m) is (ap (λ (y : Mark). y.set) same ∙ set)
          ∙ ap (λ (y : Mark). cond (is_kept from to y) (kept_of from to y ∷ []) []) same
      by_name false is later here = by_other (is_kept from to m) is ∙ later here

-- ---- what is put back to one mark
-- a mark of a setting
pub record IsOf (k : SetMark) (m : Mark) : Type 0 where
  pub ns : m.ns ≡ k.ns
  pub id : m.id ≡ k.id
  pub set : m.set ≡ k.set

same_tests : (k : SetMark) (m : Mark) (x : Kept) → IsOf k m → is_of_kept x m ≡ is_kept_of k x
same_tests k m x is =
    (λ i. (eqb (is.ns i) x.ns && eqb (is.id i) x.id) && eqb (is.set i) x.set)
    ∙ flipped k.ns x.ns k.id x.id k.set x.set
  where
    flipped : (a b i j s t : ℕ) → ((eqb a b && eqb i j) && eqb s t) ≡ ((eqb b a && eqb j i) && eqb t s)
    flipped a b i j s t = grind (arith, nat_tests)

stays_of : (k : SetMark) (m : Mark) (x : Kept) → IsOf k m → IsOf k (put_back_by x m)
stays_of k m x is = by_case (is_of_kept x m)
  where
    by_case : (b : Bool)
        → IsOf k (cond b (record m { start = unwrap_or x.start m.start; stop = option_map (far_put_back x) m.stop; hidden = x.hidden }) m)
    by_case true = record { ns = is.ns; id = is.id; set = is.set }
    by_case false = is

-- nothing is put back where nothing is of it
pub none_put_back : (k : SetMark) (m : Mark) (ks : List Kept) → IsOf k m → filter (is_kept_of k) ks ≡ [] → put_back_mark ks m ≡ m
none_put_back k m [] is none = refl
none_put_back k m (x ∷ ks) is none = by_case (is_kept_of k x) refl (none_put_back k m ks is) none
  where
    by_case : (b : Bool) → is_kept_of k x ≡ b → (filter (is_kept_of k) ks ≡ [] → put_back_mark ks m ≡ m)
        → cond b (x ∷ filter (is_kept_of k) ks) (filter (is_kept_of k) ks) ≡ []
        → put_back_mark ks (put_back_by x m) ≡ m
    by_case true of later here = cc
    by_case false of later here =
        ap (λ (b : Bool). put_back_mark ks (cond b (record m { start = unwrap_or x.start m.start; stop = option_map (far_put_back x) m.stop; hidden = x.hidden }) m))
        (same_tests k m x is ∙ of)
        ∙ later here

-- and what alone is of it
pub one_put_back : (k : SetMark) (m : Mark) (ks : List Kept) (y : Kept) → IsOf k m → filter (is_kept_of k) ks ≡ y ∷ [] → put_back_mark ks m ≡ put_back_by y m
one_put_back k m [] y is one = cc
one_put_back k m (x ∷ ks) y is one = by_case (is_kept_of k x) refl (one_put_back k m ks y is) one
  where
    by_case : (b : Bool) → is_kept_of k x ≡ b → (filter (is_kept_of k) ks ≡ y ∷ [] → put_back_mark ks m ≡ put_back_by y m)
        → cond b (x ∷ filter (is_kept_of k) ks) (filter (is_kept_of k) ks) ≡ y ∷ []
        → put_back_mark ks (put_back_by x m) ≡ put_back_by y m
    by_case true of later here =
        let first : x ≡ y = heads x y (filter (is_kept_of k) ks) [] here in
        let rest : filter (is_kept_of k) ks ≡ [] = tails x y (filter (is_kept_of k) ks) [] here in
        none_put_back k (put_back_by x m) ks (stays_of k m x is) rest ∙ ap (λ (z : Kept). put_back_by z m) first
      where
        heads : (a c : Kept) (l r : List Kept) → a ∷ l ≡ c ∷ r → a ≡ c
        heads a c l r e = cc

        tails : (a c : Kept) (l r : List Kept) → a ∷ l ≡ c ∷ r → l ≡ r
        tails a c l r e = cc
    by_case false of later here =
        ap (λ (b : Bool). put_back_mark ks (cond b (record m { start = unwrap_or x.start m.start; stop = option_map (far_put_back x) m.stop; hidden = x.hidden }) m))
        (same_tests k m x is ∙ of)
        ∙ later here

-- ---- places that were kept
-- what was kept of a mark lies in a text
pub record LiesIn (text : List ℕ) (x : KeptState) : Type 0 where
  pub start : IfSome x.start (λ p. p ≤ length text)
  pub stop : IfSome x.stop (λ p. p ≤ length text)

place_tests : (lines : List (List ℕ)) (p : Pos) → IsPlaceIn lines p → is_place_in lines p ≡ true
place_tests lines p there = numbers p.row (length lines) p.col (length (line_at lines p.row)) there.row there.col
  where
    numbers : (r n c l : ℕ) → r ≤ n → c ≤ l → (nat_le r n && nat_le c l) ≡ true
    numbers r n c l row col = grind (arith, nat_tests)

place_passes : (lines : List (List ℕ)) (text : List ℕ) (o : Option ℕ) → All IsLine lines → flat lines ≡ text → IfSome o (λ p. p ≤ length text)
    → option_map_or (is_place_in lines) (option_map (place_of text) o) true ≡ true
place_passes lines text None are is low = refl
place_passes lines text (Some p) are is low =
    ap (λ (t : List ℕ). is_place_in lines (place_of t p)) (sym is)
    ∙ place_tests lines (place_of (flat lines) p)
    (offset-place lines p are (subst (λ (t : List ℕ). p ≤ length t) (sym is) low)).0

pub kept_passes : (lines : List (List ℕ)) (text : List ℕ) (k : SetMark) (x : KeptState) → All IsLine lines → flat lines ≡ text → LiesIn text x
    → is_kept_in lines (kept_mark_of text k x) ≡ true
kept_passes lines text k x are is lies =
    λ i. place_passes lines text x.start are is lies.start i && place_passes lines text x.stop are is lies.stop i

-- what was kept of a mark, put back to it
pub put_back_alike : (text : List ℕ) (k : SetMark) (x : KeptState) (y : MarkState)
    → put_back_by (kept_mark_of text k x) (mark_in text k y) ≡ mark_in text k (state_put_back (Some x) y)
put_back_alike text k x y =
    ap (λ (b : Bool). cond b (record (mark_in text k y) {
      start = unwrap_or (option_map (place_of text) x.start) (place_of text y.start);
      stop = option_map (far_put_back (kept_mark_of text k x)) (option_map (far_of text k) y.stop);
      hidden = x.hidden;
    }) (mark_in text k y)) (itself k.ns k.id k.set)
    ∙ (λ i. record (mark_in text k y) { start = starts x.start i; stop = stops y.stop i; hidden = x.hidden })
  where
    itself : (n i s : ℕ) → ((eqb n n && eqb i i) && eqb s s) ≡ true
    itself n i s = grind (arith, nat_tests)

    starts : (o : Option ℕ) → unwrap_or (option_map (place_of text) o) (place_of text y.start) ≡ place_of text (unwrap_or o y.start)
    starts None = refl
    starts (Some p) = refl

    pos_back : (o : Option ℕ) (p : ℕ) → unwrap_or (option_map (place_of text) o) (place_of text p) ≡ place_of text (unwrap_or o p)
    pos_back None p = refl
    pos_back (Some q) p = refl

    stops : (o : Option ℕ)
        → option_map (far_put_back (kept_mark_of text k x)) (option_map (far_of text k) o)
        ≡ option_map (far_of text k) (option_map (λ p. unwrap_or x.stop p) o)
    stops None = refl
    stops (Some p) = λ i. Some (record (far_of text k p) { pos = pos_back x.stop p i })
