-- What the tables of the code are as values.
use Rattle.std.proofs.Common.{◌≡◌, ℕ, ◌<◌, ◌^◌, Bool, true, false, ◌&&◌, List, [], ◌∷◌, map, refl, ap, arith, length}
use Rattle.std.proofs.lemmas.Bool.Decides.{nat_tests}
use Rattle.std.specs.Prelude.{nat_lt}
use Rattle.nv_value.specs.Content.{Tree, Trees, nil, truth, integer, big, text, bin, list, pairs, ext, opaque, no_more, one, count}
use Rattle.nv_msgpack.specs.Shortest.{HasSpelling, HaveSpellings}
use Rattle.nv_api_buf.specs.Metadata.{ui_events}
use Rattle.nv_api_buf.specs.inside.Shapes.{event_shaped, event_shapes}

pub map_twice : {A B C : Type 0} (f : B → C) (g : A → B) (xs : List A) → map f (map g xs) ≡ map (λ x. f (g x)) xs
map_twice f g [] = refl
map_twice f g (x ∷ xs) = ap (λ l. f (g x) ∷ l) (map_twice f g xs)

pub events_are : map event_shaped event_shapes ≡ ui_events
events_are = refl

-- whether a value of numbers, strings, lists and maps can be spelled
abbrev mutual
  can_be_spelled : Tree → Bool
  can_be_spelled nil = true
  can_be_spelled (truth b) = true
  can_be_spelled (integer z) = true
  can_be_spelled (text bytes) = nat_lt (length bytes) 4294967296
  can_be_spelled (list ts) = nat_lt (count ts) 4294967296 && can_all_be_spelled ts
  can_be_spelled (pairs ts) = nat_lt (count ts) 4294967296 && can_all_be_spelled ts
  can_be_spelled _ = false

  can_all_be_spelled : Trees → Bool
  can_all_be_spelled no_more = true
  can_all_be_spelled (one t ts) = can_be_spelled t && can_all_be_spelled ts

both : (a b : Bool) → (a && b) ≡ true → (a ≡ true) × (b ≡ true)
both true b e = (refl, e)
both false b e = absurd (cc)

below : (n : ℕ) → nat_lt n 4294967296 ≡ true → n < 2 ^ 32
below n e = grind (arith, nat_tests)

mutual
  spelled_by : (t : Tree) → can_be_spelled t ≡ true → HasSpelling t
  spelled_by nil e = tt
  spelled_by (truth b) e = tt
  spelled_by (integer z) e = tt
  spelled_by (big n) e = absurd (cc)
  spelled_by (text bytes) e = below (length bytes) e
  spelled_by (bin bytes) e = absurd (cc)
  spelled_by (list ts) e = let p = both (nat_lt (count ts) 4294967296) (can_all_be_spelled ts) e in (below (count ts) p.0, all_spelled_by ts p.1)
  spelled_by (pairs ts) e =
      let p = both (nat_lt (count ts) 4294967296) (can_all_be_spelled ts) e in
      let few : count ts < 2 ^ 32 = below (count ts) p.0 in
      (omega arith, all_spelled_by ts p.1)
  spelled_by (ext kind bytes) e = absurd (cc)
  spelled_by (opaque bytes) e = absurd (cc)

  all_spelled_by : (ts : Trees) → can_all_be_spelled ts ≡ true → HaveSpellings ts
  all_spelled_by no_more e = tt
  all_spelled_by (one t ts) e = let p = both (can_be_spelled t) (can_all_be_spelled ts) e in (spelled_by t p.0, all_spelled_by ts p.1)
