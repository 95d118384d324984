-- Marks that go, many at once: the records that are left are those of the names that are left, and so
-- are the names in an index.
use Rattle.std.proofs.Common.{◌≡◌, List, [], ◌∷◌, ◌++◌, ℕ, refl, ap, sym, ◌∙◌, map, arith, Bool, true, false, cond, not, ◌&&◌, subst, Some, None, Option}
use Rattle.std.specs.Prelude.{IsPermutation, filter, is_some, option_map}
use Rattle.std.specs.List.{IsDistinct}
use Rattle.std.proofs.lemmas.Bool.Decides.{nat_tests}
use Rattle.std.specs.declared.cmp.Reverse.{Reverse}
use Rattle.nv_marks.specs.Marks.{is_named, mark_at}
use Rattle.nv_marks.specs.Sound.{IsSound}
use Rattle.nv_marks.specs.declared.extmark.Far.{Far}
use Rattle.nv_marks.specs.declared.extmark.Mark.{Mark}
use Rattle.nv_marks.specs.declared.record.Record.{Record}
use Rattle.nv_marks.specs.inside.Records.{far_in, has_key, is_start, mark_among, marks_among, records_of_mark, records_of_marks, same_key}
use Rattle.nv_marks.specs.inside.Names.{IsIndexOf, is_indexed}
use Rattle.nv_marks.specs.inside.Chunks.{Piece, IsLaid, spread_records}
use Rattle.nv_marks.specs.inside.Stored.{HoldsMarks}
use Rattle.nv_marks.proofs.PartsLemmas.{distinct_filter, find-kept}
use Rattle.nv_marks.proofs.SoundLemmas.{sound_without}
use Rattle.nv_marks.proofs.SwapLemmas.{IsPermutation-filter}

module _ (p : ℕ → ℕ → Bool) where
  abbrev pub left : Record → Bool
  left r = p r.info.ns r.info.id

  abbrev pub left_mark : Mark → Bool
  left_mark m = p m.ns m.id

  same_left : (r x : Record) → p r.info.ns r.info.id ≡ true → has_key r.info.ns r.info.id true x ≡ true → p x.info.ns x.info.id ≡ true
  same_left r x is key =
      let ns_is : r.info.ns ≡ x.info.ns = grind (arith, nat_tests) in
      let id_is : r.info.id ≡ x.info.id = grind (arith, nat_tests) in
      subst (λ (n : ℕ). p n x.info.id ≡ true) ns_is (subst (λ (i : ℕ). p r.info.ns i ≡ true) id_is is)

  marks_left_of : (rs xs : List Record)
      → map (mark_among (filter left rs)) (filter is_start (filter left xs)) ≡ filter left_mark (map (mark_among rs) (filter is_start xs))
  marks_left_of rs [] = refl
  marks_left_of rs (x ∷ xs) = by_case (marks_left_of rs xs) x.info.is_end refl (p x.info.ns x.info.id) refl
    where
      by_case : map (mark_among (filter left rs)) (filter is_start (filter left xs)) ≡ filter left_mark (map (mark_among rs) (filter is_start xs))
          → (b : Bool) → x.info.is_end ≡ b → (c : Bool) → p x.info.ns x.info.id ≡ c
          → map (mark_among (filter left rs)) (filter is_start (cond c (x ∷ filter left xs) (filter left xs)))
          ≡ filter left_mark (map (mark_among rs) (cond (not b) (x ∷ filter is_start xs) (filter is_start xs)))
      by_case rest true is_b true is_c = rw is_b rest
      by_case rest true is_b false is_c = rest
      by_case rest false is_b true is_c =
          rw (is_b, is_c)
          (ap (λ (o : Option Far). (let m : Mark = record (mark_among rs x) { stop = o } in m) ∷ map (mark_among (filter left rs)) (filter is_start (filter left xs)))
          (ap (option_map far_in) (find-kept left (has_key x.info.ns x.info.id true) (λ y key. same_left x y is_c key) rs))
          ∙ ap (λ (l : List Mark). mark_among rs x ∷ l) rest)
      by_case rest false is_b false is_c = rw is_c rest

  pub left_among : (rs : List Record) → marks_among (filter left rs) ≡ filter left_mark (marks_among rs)
  left_among rs = marks_left_of rs rs

  records_left : (ms : List Mark) → records_of_marks (filter left_mark ms) ≡ filter left (records_of_marks ms)
  records_left [] = refl
  records_left (m ∷ ms) = by_case (p m.ns m.id) refl m.stop (records_left ms)
    where
      by_case : (b : Bool) → p m.ns m.id ≡ b → (o : Option Far)
          → records_of_marks (filter left_mark ms) ≡ filter left (records_of_marks ms)
          → records_of_marks (cond b (record m { stop = o } ∷ filter left_mark ms) (filter left_mark ms))
          ≡ filter left (records_of_mark (record m { stop = o }) ++ records_of_marks ms)
      by_case true is None rest = rw is (ap (λ (l : List Record). records_of_mark (record m { stop = None }) ++ l) rest)
      by_case true is (Some far) rest = rw is (ap (λ (l : List Record). records_of_mark (record m { stop = Some far }) ++ l) rest)
      by_case false is None rest = rw is rest
      by_case false is (Some far) rest = rw is rest

  -- ---- the index of those that are left
  same_name_left : (n i : ℕ) (m : Mark) → is_named n i m ≡ true → p n i ≡ p m.ns m.id
  same_name_left n i m named =
      let ns_is : m.ns ≡ n = grind (arith, nat_tests) in
      let id_is : m.id ≡ i = grind (arith, nat_tests) in
      sym (ap (λ (k : ℕ). p k m.id) ns_is ∙ ap (λ (k : ℕ). p n k) id_is)

  mark_left : (ms : List Mark) (n i : ℕ) → is_some (mark_at (filter left_mark ms) n i) ≡ (p n i && is_some (mark_at ms n i))
  mark_left [] n i = none (p n i)
    where
      none : (b : Bool) → false ≡ (b && false)
      none true = refl
      none false = refl
  mark_left (m ∷ ms) n i = by_case (mark_left ms n i) (p m.ns m.id) refl (is_named n i m) refl
    where
      by_case : is_some (mark_at (filter left_mark ms) n i) ≡ (p n i && is_some (mark_at ms n i)) → (b : Bool) → p m.ns m.id ≡ b → (c : Bool) → is_named n i m ≡ c
          → is_some (mark_at (cond b (m ∷ filter left_mark ms) (filter left_mark ms)) n i) ≡ (p n i && is_some (cond c (Some m) (mark_at ms n i)))
      by_case rest true is_b true is_c =
          ap (λ (x : Bool). is_some (cond x (Some m) (mark_at (filter left_mark ms) n i))) is_c ∙ sym (ap (λ (x : Bool). x && true) (same_name_left n i m is_c ∙ is_b))
      by_case rest true is_b false is_c = ap (λ (x : Bool). is_some (cond x (Some m) (mark_at (filter left_mark ms) n i))) is_c ∙ rest
      by_case rest false is_b true is_c =
          rest ∙ ap (λ (x : Bool). x && is_some (mark_at ms n i)) (same_name_left n i m is_c ∙ is_b) ∙ sym (ap (λ (x : Bool). x && true) (same_name_left n i m is_c ∙ is_b))
      by_case rest false is_b false is_c = rest

  pub index_left : (names more : List (ℕ × Reverse ℕ)) (ms now : List Mark) → ((n i : ℕ) → is_indexed more n i ≡ (p n i && is_indexed names n i))
      → now ≡ filter left_mark ms → IsIndexOf names ms → IsIndexOf more now
  index_left names more ms now forgot is index n i =
      forgot n i ∙ ap (λ (b : Bool). p n i && b) (index n i) ∙ sym (mark_left ms n i) ∙ ap (λ (l : List Mark). is_some (mark_at l n i)) (sym is)

  module _ (ps qs : List Piece) (greatest : List (ℕ × ℕ)) (stored : HoldsMarks ps greatest) (laid : IsLaid qs)
      (rest : spread_records qs ≡ filter left (spread_records ps)) where
    pub marks_are_left : marks_among (spread_records qs) ≡ filter left_mark (marks_among (spread_records ps))
    marks_are_left = ap marks_among rest ∙ left_among (spread_records ps)

    pub stored_left : HoldsMarks qs greatest
    stored_left = record {
      laid = laid;
      once = subst (λ (l : List Record). IsDistinct same_key l) (sym rest) (distinct_filter left (spread_records ps) stored.once);
      all = subst (λ (l : List Record). IsPermutation (records_of_marks (marks_among l)) l) (sym rest)
          (subst (λ (l : List Mark). IsPermutation (records_of_marks l) (filter left (spread_records ps))) (sym (left_among (spread_records ps)))
          (subst (λ (l : List Record). IsPermutation l (filter left (spread_records ps))) (sym (records_left (marks_among (spread_records ps))))
          (IsPermutation-filter left (records_of_marks (marks_among (spread_records ps))) (spread_records ps) stored.all)));
      sound = subst (λ (l : List Mark). IsSound l greatest) (sym marks_are_left)
          (sound_without left_mark (marks_among (spread_records ps)) greatest stored.sound);
    }
