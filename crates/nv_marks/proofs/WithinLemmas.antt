-- The chunks in which records may stand within two places.
use Rattle.std.proofs.Common.{◌≡◌, ◌≤◌, ◌-◌, List, [], ◌∷◌, ◌++◌, ℕ, refl, ap, sym, ◌∙◌, length, take, drop, max, not, ◌&&◌, arith, Bool, true, false, subst}
use Rattle.std.specs.Prelude.{filter}
use Rattle.std.proofs.lemmas.List.{append-nil}
use Rattle.std.proofs.lemmas.List.Elements.{filter-append}
use Rattle.nv_places.specs.declared.place.Pos.{Pos}
use Rattle.nv_places.specs.Places.{is_before}
use Rattle.nv_marks.specs.Order.{is_within}
use Rattle.nv_marks.specs.declared.record.Record.{Record}
use Rattle.nv_marks.specs.inside.Records.{ForEach}
use Rattle.nv_marks.specs.inside.Chunks.{Piece, spread_records, IsLaid}
use Rattle.nv_marks.proofs.EachLemmas.{Each-left, Each-right}
use Rattle.nv_marks.proofs.SpreadLemmas.{behind_all}
use Rattle.nv_marks.proofs.SpliceLemmas.{three_parts, spread_parts, front_before, Each-drop_later}

pub filter_skips : {X : Type 0} (t : X → Bool) (xs : List X) → ForEach (λ x. t x ≡ false) xs → filter t xs ≡ []
filter_skips t [] each = refl
filter_skips t (x ∷ xs) each = rw each.0 (filter_skips t xs each.1)

pub not_from : (from to : Pos) (rs : List Record) → ForEach (λ r. is_before r.pos from ≡ true) rs → ForEach (λ r. is_within from to r.pos ≡ false) rs
not_from from to [] each = tt
not_from from to (r ∷ rs) each = (ap (λ (b : Bool). not b && not (is_before to r.pos)) each.0, not_from from to rs each.1)

and_false : (b : Bool) → b && false ≡ false
and_false true = refl
and_false false = refl

pub not_to : (from to : Pos) (rs : List Record) → ForEach (λ r. is_before to r.pos ≡ true) rs → ForEach (λ r. is_within from to r.pos ≡ false) rs
not_to from to [] each = tt
not_to from to (r ∷ rs) each =
    (ap (λ (b : Bool). not (is_before r.pos from) && not b) each.0 ∙ and_false (not (is_before r.pos from)), not_to from to rs each.1)

module _ (from to : Pos) (ps lent : List Piece) (n m first end : ℕ) (laid : IsLaid ps) (n_fits : n ≤ length ps)
    (before : ForEach (λ p. is_before p.base from ≡ true) (take n ps)) (behind : ForEach (λ p. is_before to p.base ≡ true) (drop m ps))
    (first_is : first ≡ n - 1) (end_is : end ≡ max m first) (same : lent ≡ ps) where
  in_parts : spread_records ps ≡ spread_records (take first ps) ++ (spread_records (take (end - first) (drop first ps)) ++ spread_records (drop end ps))
  in_parts = ap spread_records (three_parts ps first end (omega arith)) ∙ spread_parts (take first ps) (take (end - first) (drop first ps)) (drop end ps)

  pub middle_each : (P : Record → Type 0) → ForEach P (spread_records ps) → ForEach P (spread_records (take (end - first) (drop first lent)))
  middle_each P each =
      subst (λ (l : List Piece). ForEach P (spread_records (take (end - first) (drop first l)))) (sym same)
      (Each-left P (spread_records (take (end - first) (drop first ps))) (spread_records (drop end ps))
      (Each-right P (spread_records (take first ps)) (spread_records (take (end - first) (drop first ps)) ++ spread_records (drop end ps))
      (subst (λ (l : List Record). ForEach P l) in_parts each)))

  front_out : ForEach (λ r. is_within from to r.pos ≡ false) (spread_records (take first ps))
  front_out =
      not_from from to (spread_records (take first ps))
      (subst (λ (k : ℕ). ForEach (λ r. is_before r.pos from ≡ true) (spread_records (take k ps))) (sym first_is) (front_before from ps n n_fits laid before))

  behind_out : ForEach (λ r. is_within from to r.pos ≡ false) (spread_records (drop end ps))
  behind_out =
      not_to from to (spread_records (drop end ps))
      (behind_all to (drop end ps) (Each-drop_later (λ p. is_before to p.base ≡ true) ps m end (omega arith) behind))

  pub middle_within : filter (λ r. is_within from to r.pos) (spread_records (take (end - first) (drop first lent))) ≡ filter (λ r. is_within from to r.pos) (spread_records ps)
  middle_within =
      let t : Record → Bool = λ r. is_within from to r.pos in
      let ms : List Record = spread_records (take (end - first) (drop first ps)) in
      ap (λ (l : List Piece). filter (λ (r : Record). is_within from to r.pos) (spread_records (take (end - first) (drop first l)))) same
      ∙ sym (ap (filter t) in_parts ∙ filter-append t (spread_records (take first ps)) (ms ++ spread_records (drop end ps))
      ∙ ap (λ (l : List Record). l ++ filter t (ms ++ spread_records (drop end ps))) (filter_skips t (spread_records (take first ps)) front_out)
      ∙ filter-append t ms (spread_records (drop end ps))
      ∙ ap (λ (l : List Record). filter t ms ++ l) (filter_skips t (spread_records (drop end ps)) behind_out)
      ∙ append-nil (filter t ms))
