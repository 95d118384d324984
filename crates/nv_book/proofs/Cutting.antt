-- Pieces of an output.
use Rattle.std.proofs.Common.{◌≡◌, ℕ, zero, suc, ◌+◌, ◌≤◌, List, [], ◌∷◌, ◌++◌, length, take, drop, map, min, refl, sym, ap, ◌∙◌, subst, arith, append_assoc}
use Rattle.std.specs.Prelude.{◌<◌, ◌-◌}
use Rattle.std.proofs.lemmas.List.{length-drop, take_min, drop_min}
use Rattle.nv_value.specs.Content.{Tree}
use Rattle.nv_msgpack.specs.Shortest.{shortest}
use Rattle.nv_book.specs.Books.{most_piece, piece_count, pieces_in, output_pieces, shortest_of_all}

count_step : (n : ℕ) → 0 < n → piece_count n ≡ suc (piece_count (n - 1048576))
count_step n h = omega arith

-- bytes are their first piece and those of the rest
pub next_piece : (bytes : List ℕ) → 0 < length bytes → output_pieces bytes ≡ take most_piece bytes ∷ output_pieces (drop most_piece bytes)
next_piece bytes h =
    ap (λ (n : ℕ). pieces_in n bytes) (count_step (length bytes) h)
    ∙ ap (λ (n : ℕ). take most_piece bytes ∷ pieces_in (piece_count n) (drop most_piece bytes)) (sym (length-drop most_piece bytes))

-- how many there are
pub length_in : (n : ℕ) (bytes : List ℕ) → length (pieces_in n bytes) ≡ n
length_in zero bytes = refl
length_in (suc n) bytes = ap suc (length_in n (drop most_piece bytes))

pub piece_number : (bytes : List ℕ) → length (output_pieces bytes) ≡ piece_count (length bytes)
piece_number bytes = length_in (piece_count (length bytes)) bytes

-- a piece was spelled, and the others are to come
pub piece_on : (P : List ℕ → Tree) (room rest first others : List ℕ) (n : ℕ) → 0 < length rest → n ≡ min (length rest) 1048576 → first ≡ take n rest → others ≡ drop n rest
    → (room ++ shortest (P first)) ++ shortest_of_all (map P (output_pieces others)) ≡ room ++ shortest_of_all (map P (output_pieces rest))
piece_on P room rest first others n h e f o =
    let swap : n ≡ min 1048576 (length rest) = omega (arith, e) in
    let front : first ≡ take 1048576 rest = f ∙ ap (λ (k : ℕ). take k rest) swap ∙ take_min 1048576 rest in
    let back : others ≡ drop 1048576 rest = o ∙ ap (λ (k : ℕ). drop k rest) swap ∙ drop_min 1048576 rest in
    append_assoc room (shortest (P first)) (shortest_of_all (map P (output_pieces others)))
    ∙ ap (λ (x : List ℕ). room ++ (shortest (P x) ++ shortest_of_all (map P (output_pieces others)))) front
    ∙ ap (λ (x : List ℕ). room ++ (shortest (P (take 1048576 rest)) ++ shortest_of_all (map P (output_pieces x)))) back
    ∙ ap (λ (x : List (List ℕ)). room ++ shortest_of_all (map P x)) (sym (next_piece rest h))
