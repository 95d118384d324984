-- Where a mark stands behind more splices.
use Rattle.std.proofs.Common.{◌≡◌, ◌≤◌, List, [], ◌∷◌, ◌++◌, length, map, fold, drop, refl, ap, ◌∙◌, drop_of_length-le, arith}
use Rattle.std.proofs.lemmas.List.{drop-append-le}
use Rattle.nv_model.specs.Buffers.{Splice, SetMark, Reach, keys_of, reach_of, state_after, state_set, state_behind}
use Rattle.nv_model.proofs.Telling.{fold-append}

reaches-append : (ss more : List Splice) → map reach_of (ss ++ more) ≡ map reach_of ss ++ map reach_of more
reaches-append [] more = refl
reaches-append (s ∷ ss) more = ap (λ (rs : List Reach). reach_of s ∷ rs) (reaches-append ss more)

pub behind_grown : (ss more : List Splice) (k : SetMark) → k.since ≤ length ss
    → state_behind k (drop k.since (ss ++ more)) ≡ fold (state_after (keys_of k)) (state_behind k (drop k.since ss)) (map reach_of more)
unfolding state_behind
behind_grown ss more k low =
    ap (λ (l : List Splice). fold (state_after (keys_of k)) (state_set k) (map reach_of l)) (drop-append-le k.since ss more low)
    ∙ ap (fold (state_after (keys_of k)) (state_set k)) (reaches-append (drop k.since ss) more)
    ∙ fold-append (state_after (keys_of k)) (state_set k) (map reach_of (drop k.since ss)) (map reach_of more)

pub behind_now : (ss : List Splice) (k : SetMark) → state_behind k (drop (length ss) ss) ≡ state_set k
unfolding state_behind
behind_now ss k =
    let low : length ss ≤ length ss = omega arith in
    ap (λ (l : List Splice). fold (state_after (keys_of k)) (state_set k) (map reach_of l)) (drop_of_length-le ss low)
