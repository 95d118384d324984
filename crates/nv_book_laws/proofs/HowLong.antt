-- A book is no shorter than its entries are many, and than each of its outputs.
use Rattle.std.proofs.Common.{◌≡◌, ℕ, zero, suc, ◌+◌, ◌*◌, ◌≤◌, List, [], ◌∷◌, ◌++◌, length, take, drop, map, ap, ◌∙◌, arith, length-append}
use Rattle.std.specs.Prelude.{flat_map}
use Rattle.std.proofs.lemmas.Bool.Decides.{nat_tests}
use Rattle.std.proofs.lemmas.List.{length-take, length-drop}
use Rattle.nv_value.specs.Content.{Tree, Trees, bin, list, trees_of, count}
use Rattle.nv_msgpack.specs.Shortest.{bin_head, list_head, shortest, all_shortest}
use Rattle.nv_book.specs.Books.{Recorded, most_piece, piece_count, pieces_in, output_pieces, event_values, recorded_values, book_head, book_end, bytes_of_book, shortest_of_all}
use Rattle.nv_book.proofs.Spelling.{spelled_more}

pub spelled_both : (ts us : List Tree) → length (shortest_of_all (ts ++ us)) ≡ length (shortest_of_all ts) + length (shortest_of_all us)
spelled_both ts us = ap (length {A = ℕ}) (spelled_more ts us) ∙ length-append (shortest_of_all ts) (shortest_of_all us)

-- ---- pieces

piece_least : (bytes : List ℕ) → length bytes ≤ length (shortest (bin bytes))
piece_least bytes = omega (arith, length-append (bin_head (length bytes)) bytes)

pieces_least : (n : ℕ) (bytes : List ℕ) → length bytes ≤ n * 1048576 → length bytes ≤ length (shortest_of_all (map bin (pieces_in n bytes)))
pieces_least zero bytes h = omega (arith, h)
pieces_least (suc n) bytes h =
    let first = take most_piece bytes in
    let others = drop most_piece bytes in
    let rest = pieces_least n others (omega (arith, h, length-drop most_piece bytes)) in
    omega (arith, rest, piece_least first, length-take most_piece bytes, length-drop most_piece bytes, length-append (shortest (bin first)) (shortest_of_all (map bin (pieces_in n others))))

output_least : (bytes : List ℕ) → length bytes ≤ length (shortest_of_all (map bin (output_pieces bytes)))
output_least bytes = pieces_least (piece_count (length bytes)) bytes (omega arith)

-- ---- records

head_some : (n : ℕ) → 1 ≤ length (list_head n)
unfolding list_head
head_some n = grind (arith, nat_tests)

list_some : (ts : Trees) → 1 ≤ length (shortest (list ts))
list_some ts = omega (arith, head_some (count ts), length-append (list_head (count ts)) (all_shortest ts))

record_by : (ts : Trees) (pieces : List Tree) (n : ℕ) → n ≤ length (shortest_of_all pieces) → suc n ≤ length (shortest_of_all (list ts ∷ pieces))
record_by ts pieces n h = omega (arith, h, list_some ts, length-append (shortest (list ts)) (shortest_of_all pieces))

pub record_least : (r : Recorded) → suc (length r.output) ≤ length (shortest_of_all (recorded_values r))
record_least r =
    record_by (trees_of (event_values r.entry.caller (length (output_pieces r.output)) r.entry.event)) (map bin (output_pieces r.output)) (length r.output) (output_least r.output)

pub count_least : (rs : List Recorded) → length rs ≤ length (shortest_of_all (flat_map recorded_values rs))
count_least [] = omega arith
count_least (r ∷ rs) = omega (arith, count_least rs, record_least r, spelled_both (recorded_values r) (flat_map recorded_values rs))

-- ---- all

pub book_least : (outbox : ℕ) (rs : List Recorded) → length (shortest_of_all (flat_map recorded_values rs)) ≤ length (bytes_of_book outbox rs)
book_least outbox rs =
    omega (
      arith,
      length-append (shortest (book_head outbox)) (shortest_of_all (flat_map recorded_values rs ++ book_end (length rs) ∷ [])),
      spelled_both (flat_map recorded_values rs) (book_end (length rs) ∷ []),
    )
