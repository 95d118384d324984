-- Values of a book that begin alike are those of the same records.
use Rattle.std.proofs.Common.{◌≡◌, ℕ, zero, suc, ◌+◌, ◌≤◌, Bool, true, false, List, [], ◌∷◌, ◌++◌, length, take, drop, map, Option, Some, None, refl, sym, ap, ap₂, ◌∙◌, subst, arith, append_assoc, append-nil, length-append}
use Rattle.std.specs.Prelude.{◌<◌, ◌-◌, ◌*◌, ◌==◌, flat_map}
use Rattle.std.specs.List.{AllByRecursion}
use Rattle.std.proofs.lemmas.Bool.{eqb-true, eqb-false}
use Rattle.std.proofs.lemmas.List.{take-append-drop, length-take, length-drop}
use Rattle.std.proofs.lemmas.Option.{same_Some}
use Rattle.nv_value.specs.Content.{Tree, nil, bin}
use Rattle.nv_history.specs.Events.{Event, Entry}
use Rattle.nv_book.specs.Books.{Recorded, entry_head, book_head, book_end, most_piece, piece_count, pieces_in, output_pieces, recorded_values, front_values, book_values, IsFairRecord, AreFair}
use Rattle.nv_book.specs.Headings.{Heading, heading_in, entry_count_in, outbox_in}
use Rattle.nv_book.specs.inside.Pieces.{IsPiece}
use Rattle.nv_book.proofs.Cutting.{piece_number}
use Rattle.nv_book.proofs.Forth.{record_there, entry_no_end, end_no_heading, end_there, outbox_there}

-- ---- pieces

join : List (List ℕ) → List ℕ
join [] = []
join (p ∷ ps) = p ++ join ps

join_in : (n : ℕ) (bytes : List ℕ) → length bytes ≤ n * most_piece → join (pieces_in n bytes) ≡ bytes
unfolding join
join_in zero [] h = refl
join_in zero (x ∷ bytes) h = absurd (omega arith)
join_in (suc n) bytes h =
    ap (λ (l : List ℕ). take most_piece bytes ++ l) (join_in n (drop most_piece bytes) (omega (arith, length-drop most_piece bytes)))
    ∙ take-append-drop most_piece bytes

join_all : (bytes : List ℕ) → join (output_pieces bytes) ≡ bytes
join_all bytes = let h : length bytes ≤ piece_count (length bytes) * most_piece = omega arith in join_in (piece_count (length bytes)) bytes h

pub same_output : (a b : List ℕ) → output_pieces a ≡ output_pieces b → a ≡ b
same_output a b e = sym (join_all a) ∙ ap join e ∙ join_all b

bins_apart : (p q : List (List ℕ)) (a b : List Tree) → length p ≡ length q → map bin p ++ a ≡ map bin q ++ b → (p ≡ q) × (a ≡ b)
bins_apart [] [] a b l e = (refl, e)
bins_apart [] (x ∷ q) a b l e = absurd (omega (arith, l))
bins_apart (x ∷ p) [] a b l e = absurd (omega (arith, l))
bins_apart (x ∷ p) (y ∷ q) a b l e =
    let heads : x ≡ y = cc in
    let tails : map bin p ++ a ≡ map bin q ++ b = cc in
    let r = bins_apart p q a b (omega (arith, l)) tails in
    (ap₂ (λ (u : List ℕ) (v : List (List ℕ)). u ∷ v) heads r.0, r.1)

-- the piece behind some of them
pub record NextPiece (all front : List (List ℕ)) (t : Tree) : Type 0 where
  pub piece : List ℕ
  pub rest : List (List ℕ)
  pub all_are : all ≡ front ++ piece ∷ rest
  pub is : t ≡ bin piece

pub next_bin : (all front : List (List ℕ)) (a b : List Tree) (t : Tree) → length front < length all → map bin all ++ a ≡ map bin front ++ t ∷ b → NextPiece all front t
next_bin [] front a b t l e = absurd (omega arith)
next_bin (p ∷ all) [] a b t l e = let h : t ≡ bin p = cc in record { piece = p; rest = all; all_are = refl; is = h }
next_bin (p ∷ all) (q ∷ front) a b t l e =
    let heads : p ≡ q = cc in
    let tails : map bin all ++ a ≡ map bin front ++ t ∷ b = cc in
    let r = next_bin all front a b t (omega arith) tails in
    record { piece = r.piece; rest = r.rest; all_are = ap₂ (λ (u : List ℕ) (v : List (List ℕ)). u ∷ v) heads r.all_are; is = r.is }

no_rest : (front rest : List (List ℕ)) (piece : List ℕ) → [] ≡ front ++ piece ∷ rest → ⊥
no_rest [] rest piece e = cc
no_rest (p ∷ front) rest piece e = cc

some_pieces : (n : ℕ) (out : List ℕ) (front rest : List (List ℕ)) (piece : List ℕ) → pieces_in n out ≡ front ++ piece ∷ rest → 0 < n
some_pieces zero out front rest piece e = absurd (no_rest front rest piece e)
some_pieces (suc n) out front rest piece e = omega arith

abbrev IsSized : ℕ → ℕ → ℕ → Type 0
IsSized at n size = (at ≡ n → (0 < size) × (size ≤ most_piece)) × ((at ≡ n → ⊥) → size ≡ most_piece)

sized : (n : ℕ) (bytes : List ℕ) (front rest : List (List ℕ)) (piece : List ℕ) → pieces_in (suc n) bytes ≡ front ++ piece ∷ rest → length bytes ≤ suc n * most_piece → n * most_piece < length bytes → IsSized (length front) n (length piece)
sized zero bytes [] rest piece e h l =
    let first : take most_piece bytes ≡ piece = cc in
    let long = ap (length {A = ℕ}) first in
    let taken = length-take most_piece bytes in
    (λ c. (omega (arith, long, taken, l), omega (arith, long, taken)), λ c. absurd (c refl))
sized (suc m) bytes [] rest piece e h l =
    let first : take most_piece bytes ≡ piece = cc in
    let long = ap (length {A = ℕ}) first in
    let taken = length-take most_piece bytes in
    (λ c. absurd (omega (arith, c)), λ c. omega (arith, long, taken, l))
sized zero bytes (p ∷ front) rest piece e h l = let c : [] ≡ front ++ piece ∷ rest = cc in absurd (no_rest front rest piece c)
sized (suc m) bytes (p ∷ front) rest piece e h l =
    let behind : pieces_in (suc m) (drop most_piece bytes) ≡ front ++ piece ∷ rest = cc in
    let r = sized m (drop most_piece bytes) front rest piece behind (omega (arith, h, length-drop most_piece bytes)) (omega (arith, l, length-drop most_piece bytes)) in
    (λ c. r.0 (omega (arith, c)), λ c. r.1 (λ d. c (omega (arith, d))))

piece_by : (b : Bool) (at n size : ℕ) → b ≡ (at + 1 == n + 1) → IsSized at n size → IsPiece b size
piece_by true at n size e s = let h = eqb-true (at + 1) (n + 1) (sym e) in s.0 (omega (arith, h))
piece_by false at n size e s = s.1 (λ d. eqb-false (at + 1) (n + 1) (sym e) (omega (arith, d)))

-- a piece of an output is as long as it is to be
pub piece_there : (out : List ℕ) (count : ℕ) (front rest : List (List ℕ)) (piece : List ℕ) → length (output_pieces out) ≡ count → output_pieces out ≡ front ++ piece ∷ rest → IsPiece (length front + 1 == count) (length piece)
piece_there out count front rest piece l e =
    let number = piece_number out in
    let some : 0 < piece_count (length out) = some_pieces (piece_count (length out)) out front rest piece e in
    let n : piece_count (length out) ≡ suc (piece_count (length out) - 1) = omega (arith, some) in
    piece_by (length front + 1 == count) (length front) (piece_count (length out) - 1) (length piece)
    (ap (λ (k : ℕ). length front + 1 == k) (let c : count ≡ (piece_count (length out) - 1) + 1 = omega (arith, l, number, some) in c))
    (sized (piece_count (length out) - 1) out front rest piece (sym (ap (λ (k : ℕ). pieces_in k out) n) ∙ e) (omega (arith, some)) (omega (arith, some)))

-- ---- records

record Same (r q : Recorded) (a b : List Tree) : Type 0 where
  pub record_is : r ≡ q
  pub rest_is : a ≡ b

same_record : (r q : Recorded) → r.entry ≡ q.entry → r.output ≡ q.output → r ≡ q
same_record r q e o = ap₂ (λ (x : Entry) (y : List ℕ). record { entry = x; output = y }) e o

-- two headings that are told by one value
same_heading : (t u : Tree) (g h : Heading) → t ≡ u → heading_in t ≡ Some g → heading_in u ≡ Some h → g ≡ h
same_heading t u g h e p q = same_Some g h (sym p ∙ ap heading_in e ∙ q)

peel : (r q : Recorded) (a b : List Tree) → IsFairRecord r → IsFairRecord q → recorded_values r ++ a ≡ recorded_values q ++ b → Same r q a b
peel r q a b f k e =
    let heads : entry_head r.entry (length (output_pieces r.output)) ≡ entry_head q.entry (length (output_pieces q.output)) = cc in
    let tails : map bin (output_pieces r.output) ++ a ≡ map bin (output_pieces q.output) ++ b = cc in
    let h = same_heading _ _ _ _ heads (record_there r f) (record_there q k) in
    let p = bins_apart (output_pieces r.output) (output_pieces q.output) a b (ap (λ (x : Heading). x.count) h) tails in
    record { record_is = same_record r q (ap (λ (x : Heading). x.entry) h) (same_output r.output q.output p.0); rest_is = p.1 }

-- the end of a book tells no entry
end_is_no_entry : (n : ℕ) (r : Recorded) → book_end n ≡ entry_head r.entry (length (output_pieces r.output)) → ⊥
end_is_no_entry n r e =
    let c : Some n ≡ None = sym (end_there n) ∙ ap entry_count_in e ∙ entry_no_end r.entry (length (output_pieces r.output)) in cc

-- records that begin with others, and the values behind those
pub record GoesOn (rs all : List Recorded) (total : ℕ) (ws : List Tree) : Type 0 where
  pub more : List Recorded
  pub all_are : all ≡ rs ++ more
  pub rest_is : ws ≡ flat_map recorded_values more ++ book_end total ∷ []
  pub fair : AllByRecursion IsFairRecord more

goes_on : (rs all : List Recorded) (total : ℕ) (ws : List Tree) → AllByRecursion IsFairRecord rs → AllByRecursion IsFairRecord all → flat_map recorded_values all ++ book_end total ∷ [] ≡ flat_map recorded_values rs ++ ws → GoesOn rs all total ws
goes_on [] all total ws f k e = record { more = all; all_are = refl; rest_is = sym e; fair = k }
goes_on (r ∷ rs) [] total ws f k e =
    let heads : book_end total ≡ entry_head r.entry (length (output_pieces r.output)) = cc in absurd (end_is_no_entry total r heads)
goes_on (r ∷ rs) (q ∷ all) total ws f k e =
    let split : recorded_values q ++ (flat_map recorded_values all ++ book_end total ∷ []) ≡ recorded_values r ++ (flat_map recorded_values rs ++ ws) =
    sym (append_assoc (recorded_values q) (flat_map recorded_values all) (book_end total ∷ [])) ∙ e ∙ append_assoc (recorded_values r) (flat_map recorded_values rs) ws in
    let s = peel q r _ _ k.0 f.0 split in
    let g = goes_on rs all total ws f.1 k.1 s.rest_is in
    record { more = g.more; all_are = ap₂ (λ (x : Recorded) (l : List Recorded). x ∷ l) s.record_is g.all_are; rest_is = g.rest_is; fair = g.fair }

pub record BookGoesOn (outbox other : ℕ) (rs all : List Recorded) (ws : List Tree) : Type 0 where
  pub outbox_is : other ≡ outbox
  pub goes : GoesOn rs all (length all) ws

same_outbox : (a b : ℕ) (t u : Tree) → (16 ≤ a) × (a ≤ 1048576) → (16 ≤ b) × (b ≤ 1048576) → book_head a ≡ book_head b → a ≡ b
same_outbox a b t u p q e = same_Some a b (sym (outbox_there a p.0 p.1) ∙ ap outbox_in e ∙ outbox_there b q.0 q.1)

pub book_goes_on : (outbox other : ℕ) (rs all : List Recorded) (ws : List Tree) → AreFair outbox rs → AreFair other all → book_values other all ≡ front_values outbox rs ++ ws → BookGoesOn outbox other rs all ws
book_goes_on outbox other rs all ws f k e =
    let heads : book_head other ≡ book_head outbox = cc in
    let tails : flat_map recorded_values all ++ book_end (length all) ∷ [] ≡ flat_map recorded_values rs ++ ws = cc in
    record { outbox_is = same_outbox other outbox nil nil (k.least, k.most) (f.least, f.most) heads; goes = goes_on rs all (length all) ws f.each k.each tails }
