-- Dicts of values that can be spelled, made one by one.
use Rattle.std.proofs.Common.{◌≡◌, ◌*◌, ◌<◌, ◌^◌, List, [], ◌∷◌, ◌++◌, length, map, refl, ap, arith}
use Rattle.std.proofs.lemmas.List.{length-map}
use Rattle.nv_value.specs.Content.{Tree, count, pairs, in_turn}
use Rattle.nv_msgpack.specs.Shortest.{HasSpelling, HaveSpellings}

-- how many trees a Dict has
pub count-turns : (ps : List (Tree × Tree)) → count (in_turn ps) ≡ 2 * length ps
count-turns [] = refl
count-turns (p ∷ ps) = let e : count (in_turn ps) ≡ 2 * length ps = count-turns ps in omega (arith, e)

-- one more pair
pub turns-more : (ps : List (Tree × Tree)) (p : Tree × Tree) → HaveSpellings (in_turn ps) → HasSpelling p.0 → HasSpelling p.1 → HaveSpellings (in_turn (ps ++ p ∷ []))
turns-more [] p all key value = (key, (value, tt))
turns-more (q ∷ qs) p all key value = (all.0, (all.1.0, turns-more qs p all.1.1 key value))

pub turns-append : (ps qs : List (Tree × Tree)) → HaveSpellings (in_turn ps) → HaveSpellings (in_turn qs) → HaveSpellings (in_turn (ps ++ qs))
turns-append [] qs all more = more
turns-append (p ∷ ps) qs all more = (all.0, (all.1.0, turns-append ps qs all.1.1 more))

-- as many pairs as things
pub dict-spelled : {A : Type 0} (f : A → Tree × Tree) (made : List (Tree × Tree)) (xs : List A) → made ≡ map f xs → length xs < 2 ^ 32 → HaveSpellings (in_turn made)
    → HasSpelling (pairs (in_turn made))
dict-spelled f made xs e few each = (omega (arith, count-turns made, ap length e, length-map xs f), each)
