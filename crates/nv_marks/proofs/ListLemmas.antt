-- A listing that begins at a place before which no mark that is asked for starts.
use Rattle.std.proofs.Common.{◌≡◌, List, [], ◌∷◌, refl, ap, sym, ◌∙◌, map, Bool, true, false, not, ◌&&◌, ◌||◌, cond}
use Rattle.std.specs.Prelude.{filter}
use Rattle.std.proofs.lemmas.Bool.{both_ways}
use Rattle.nv_places.specs.declared.place.Pos.{Pos}
use Rattle.nv_places.specs.Places.{is_before}
use Rattle.nv_marks.specs.Order.{is_within}
use Rattle.nv_marks.specs.Queries.{is_meant, is_selected, stops_from}
use Rattle.nv_marks.specs.declared.extmark.Mark.{Mark}
use Rattle.nv_marks.specs.declared.query.Query.{Query}
use Rattle.nv_marks.specs.declared.record.Record.{Record}
use Rattle.nv_marks.specs.inside.Records.{ForEach, end_among, is_start, mark_among}
use Rattle.nv_marks.specs.inside.Stored.{first_start, listed_marks}
use Rattle.nv_marks.proofs.PartsLemmas.{list_all}

module _ (rs : List Record) (q : Query) (first : Pos) where
  tests : (a t b c : Bool) → (not b && not t) ≡ false → (b ≡ true → (a && (not t && c)) ≡ false) → (a && (not t && c)) ≡ false
  tests a t true c is early = early refl
  tests true true false c is early = refl
  tests false true false c is early = refl
  tests a false false c is early = absurd (both_ways true is refl)

  outside : (x : Record) → (is_before x.pos first ≡ true → is_selected q (mark_among rs x) ≡ false) → is_within first q.to x.pos ≡ false
      → is_selected q (mark_among rs x) ≡ false
  outside x early is =
      tests (is_meant q.ns x.info.ns) (is_before q.to x.pos) (is_before x.pos first)
      (not (is_before x.pos q.from) || (q.reaching && stops_from q.from (end_among rs x.info.ns x.info.id))) is early

  skips_outside : (xs : List Record) → ForEach (λ (x : Record). x.info.is_end ≡ false → is_before x.pos first ≡ true → is_selected q (mark_among rs x) ≡ false) xs
      → filter (is_selected q) (map (mark_among rs) (filter is_start xs))
      ≡ filter (is_selected q) (map (mark_among rs) (filter is_start (filter (λ r. is_within first q.to r.pos) xs)))
  skips_outside [] each = refl
  skips_outside (x ∷ xs) each = by_case (skips_outside xs each.1) x.info.is_end refl (is_within first q.to x.pos) refl
    where
      by_case : filter (is_selected q) (map (mark_among rs) (filter is_start xs)) ≡ filter (is_selected q) (map (mark_among rs) (filter is_start (filter (λ r. is_within first q.to r.pos) xs)))
          → (b : Bool) → x.info.is_end ≡ b → (c : Bool) → is_within first q.to x.pos ≡ c
          → filter (is_selected q) (map (mark_among rs) (cond (not b) (x ∷ filter is_start xs) (filter is_start xs)))
          ≡ filter (is_selected q) (map (mark_among rs) (filter is_start (cond c (x ∷ filter (λ r. is_within first q.to r.pos) xs) (filter (λ r. is_within first q.to r.pos) xs))))
      by_case rest true is true within = rw is rest
      by_case rest true is false within = rest
      by_case rest false is true within =
          let start : is_start x ≡ true = ap not is in
          rw start (ap (λ (l : List Mark). cond (is_selected q (mark_among rs x)) (mark_among rs x ∷ l) l) rest)
      by_case rest false is false within =
          ap (λ (b : Bool). cond b (mark_among rs x ∷ filter (is_selected q) (map (mark_among rs) (filter is_start xs))) (filter (is_selected q) (map (mark_among rs) (filter is_start xs))))
          (outside x (each.0 is) within) ∙ rest

  pub list_from : (xs ys : List Record)
      → ForEach (λ (x : Record). x.info.is_end ≡ false → is_before x.pos first ≡ true → is_selected q (mark_among rs x) ≡ false) xs
      → ForEach (λ (x : Record). x.info.is_end ≡ false → is_before x.pos first ≡ true → is_selected q (mark_among rs x) ≡ false) ys
      → filter (λ r. is_within first q.to r.pos) xs ≡ filter (λ r. is_within first q.to r.pos) ys
      → listed_marks rs q xs ≡ filter (is_selected q) (map (mark_among rs) (filter is_start ys))
  list_from xs ys each others same =
      list_all rs q (first_start q) xs xs refl refl ∙ skips_outside xs each
      ∙ ap (λ (l : List Record). filter (is_selected q) (map (mark_among rs) (filter is_start l))) same ∙ sym (skips_outside ys others)
