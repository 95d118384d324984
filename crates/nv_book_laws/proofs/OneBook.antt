-- Bytes are one book at most.
use Rattle.std.proofs.Common.{◌≡◌, ℕ, zero, suc, pos, ◌^◌, ◌*◌, ◌≤◌, List, [], ◌∷◌, ◌++◌, length, take, drop, map, refl, sym, ap, ap₂, ◌∙◌, subst, arith, append_assoc, Bool, true, false}
use Rattle.std.specs.Prelude.{nat_lt, flat_map, if◌then◌else◌}
use Rattle.std.specs.List.{AllByRecursion}
use Rattle.std.proofs.lemmas.List.{length-drop}
use Rattle.nv_value.specs.Content.{Tree, nil, integer, big, bin, list, trees_of}
use Rattle.nv_msgpack.specs.Spelling.{unsigned_number, Each}
use Rattle.nv_msgpack.specs.Reading.{whole, more, value_at}
use Rattle.nv_msgpack.specs.Within.{SpellsWithin}
use Rattle.nv_msgpack.proofs.Exact.{empty_wants, reads}
use Rattle.nv_rpc.specs.Calls.{Call, request, notice}
use Rattle.nv_history.specs.Events.{Event, open_session, request_of, take_of, close_of}
use Rattle.nv_book.specs.Books.{Recorded, most_piece, piece_count, pieces_in, output_pieces, msgid_tree, method_tree, params_tree, event_values, entry_head, recorded_values, book_head, book_end, book_values, most_value, most_nested, IsOutputOf, IsFairRecord}
use Rattle.nv_book_laws.specs.Laws.{BooksAreOne}

-- ---- values by their bytes
read_here : (t : Tree) (bytes x y : List ℕ) → SpellsWithin most_nested most_value t x → bytes ≡ x ++ y → value_at most_nested most_value bytes ≡ whole t (length x)
read_here t bytes x y h e = reads most_nested most_value bytes t x y e h

fronts_once : (x y z w : List ℕ) → length x ≡ length z → x ++ y ≡ z ++ w → y ≡ w
fronts_once [] y [] w many e = e
fronts_once [] y (c ∷ z) w many e = absurd (omega (arith, many))
fronts_once (a ∷ x) y [] w many e = absurd (omega (arith, many))
fronts_once (a ∷ x) y (c ∷ z) w many e =
    let rest : x ++ y ≡ z ++ w = cc in
    fronts_once x y z w (omega (arith, many)) rest

values_once : (ts us : List Tree) (bytes others : List ℕ) → bytes ≡ others → Each (SpellsWithin most_nested most_value) (trees_of ts) bytes → Each (SpellsWithin most_nested most_value) (trees_of us) others → ts ≡ us
values_once [] [] bytes others e is also = refl
values_once [] (u ∷ us) bytes others e is also =
    let none : [] ≡ others = sym is ∙ e in
    let read : value_at most_nested most_value [] ≡ whole u (length also.0) = ap (value_at most_nested most_value) none ∙ read_here u others also.0 also.1 also.2 also.3 in
    let clash : more ≡ whole u (length also.0) = sym (empty_wants most_nested most_value) ∙ read in
    absurd cc
values_once (t ∷ ts) [] bytes others e is also =
    let none : [] ≡ bytes = sym also ∙ sym e in
    let read : value_at most_nested most_value [] ≡ whole t (length is.0) = ap (value_at most_nested most_value) none ∙ read_here t bytes is.0 is.1 is.2 is.3 in
    let clash : more ≡ whole t (length is.0) = sym (empty_wants most_nested most_value) ∙ read in
    absurd cc
values_once (t ∷ ts) (u ∷ us) bytes others e is also =
    let same : whole t (length is.0) ≡ whole u (length also.0) =
    sym (read_here t bytes is.0 is.1 is.2 is.3) ∙ ap (value_at most_nested most_value) e ∙ read_here u others also.0 also.1 also.2 also.3 in
    let first : t ≡ u = cc in
    let many : length is.0 ≡ length also.0 = cc in
    let behind : is.1 ≡ also.1 = fronts_once is.0 is.1 also.0 also.1 many (sym is.3 ∙ e ∙ also.3) in
    let rest = values_once ts us is.1 also.1 behind is.4 also.4 in
    λ i. first i ∷ rest i

-- ---- numbers and calls by their values
number_by : (b c : Bool) (m n : ℕ) → (if b then integer (pos m) else big m) ≡ (if c then integer (pos n) else big n) → m ≡ n
number_by true true m n e = cc
number_by true false m n e = absurd cc
number_by false true m n e = absurd cc
number_by false false m n e = cc

number_once : (m n : ℕ) → unsigned_number m ≡ unsigned_number n → m ≡ n
number_once m n e = number_by (nat_lt m (2 ^ 63)) (nat_lt n (2 ^ 63)) m n e

no_number : (b : Bool) (m : ℕ) → (if b then integer (pos m) else big m) ≡ nil → ⊥
no_number true m e = absurd cc
no_number false m e = absurd cc

call_once : (c d : Call) → msgid_tree c ≡ msgid_tree d → method_tree c ≡ method_tree d → params_tree c ≡ params_tree d → c ≡ d
call_once (request i m p) (request j n q) id method params =
    let number = number_once i j id in
    let name : m ≡ n = cc in
    let given : p ≡ q = cc in
    λ k. request (number k) (name k) (given k)
call_once (request i m p) (notice n q) id method params = absurd (no_number (nat_lt i (2 ^ 63)) i id)
call_once (notice m p) (request j n q) id method params = absurd (no_number (nat_lt j (2 ^ 63)) j (sym id))
call_once (notice m p) (notice n q) id method params =
    let name : m ≡ n = cc in
    let given : p ≡ q = cc in
    λ k. notice (name k) (given k)

-- ---- entries by their values
abbrev IfTake : Event → Type 0 → Type 0
IfTake open_session A = Unit {0}
IfTake (request_of s call) A = Unit {0}
IfTake (take_of s) A = A
IfTake (close_of s) A = Unit {0}

record IsOneHead (c d m n : ℕ) (e f : Event) : Type 0 where
  caller : c ≡ d
  event : e ≡ f
  count : IfTake e (m ≡ n)

head_once : (c d m n : ℕ) (e f : Event) → list (trees_of (event_values c m e)) ≡ list (trees_of (event_values d n f)) → IsOneHead c d m n e f
head_once c d m n open_session open_session h =
    let caller : unsigned_number c ≡ unsigned_number d = cc in record { caller = number_once c d caller; event = refl; count = tt }
head_once c d m n open_session (request_of t call) h = absurd cc
head_once c d m n open_session (take_of t) h = absurd cc
head_once c d m n open_session (close_of t) h = absurd cc
head_once c d m n (request_of s x) open_session h = absurd cc
head_once c d m n (request_of s x) (request_of t y) h =
    let caller : unsigned_number c ≡ unsigned_number d = cc in
    let session : unsigned_number s ≡ unsigned_number t = cc in
    let id : msgid_tree x ≡ msgid_tree y = cc in
    let method : method_tree x ≡ method_tree y = cc in
    let params : params_tree x ≡ params_tree y = cc in
    record { caller = number_once c d caller; event = ap₂ request_of (number_once s t session) (call_once x y id method params); count = tt }
head_once c d m n (request_of s x) (take_of t) h = absurd cc
head_once c d m n (request_of s x) (close_of t) h = absurd cc
head_once c d m n (take_of s) open_session h = absurd cc
head_once c d m n (take_of s) (request_of t y) h = absurd cc
head_once c d m n (take_of s) (take_of t) h =
    let caller : unsigned_number c ≡ unsigned_number d = cc in
    let session : unsigned_number s ≡ unsigned_number t = cc in
    let count : unsigned_number m ≡ unsigned_number n = cc in
    record { caller = number_once c d caller; event = ap take_of (number_once s t session); count = number_once m n count }
head_once c d m n (take_of s) (close_of t) h = absurd cc
head_once c d m n (close_of s) open_session h = absurd cc
head_once c d m n (close_of s) (request_of t y) h = absurd cc
head_once c d m n (close_of s) (take_of t) h = absurd cc
head_once c d m n (close_of s) (close_of t) h =
    let caller : unsigned_number c ≡ unsigned_number d = cc in
    let session : unsigned_number s ≡ unsigned_number t = cc in
    record { caller = number_once c d caller; event = ap close_of (number_once s t session); count = tt }

no_end : (c m n : ℕ) (e : Event) → book_end n ≡ list (trees_of (event_values c m e)) → ⊥
no_end c m n open_session h = absurd cc
no_end c m n (request_of s call) h = absurd cc
no_end c m n (take_of s) h = absurd cc
no_end c m n (close_of s) h = absurd cc

-- ---- outputs by their pieces
abbrev joined : List (List ℕ) → List ℕ
joined [] = []
joined (x ∷ xs) = x ++ joined xs

take_then : (n : ℕ) (xs : List ℕ) → take n xs ++ drop n xs ≡ xs
take_then zero xs = refl
take_then (suc n) [] = refl
take_then (suc n) (x ∷ xs) = ap (λ (l : List ℕ). x ∷ l) (take_then n xs)

joined_in : (n : ℕ) (bytes : List ℕ) → length bytes ≤ n * 1048576 → joined (pieces_in n bytes) ≡ bytes
joined_in zero [] few = refl
joined_in zero (b ∷ bytes) few = absurd (omega (arith, few))
joined_in (suc n) bytes few =
    let rest : length (drop most_piece bytes) ≤ n * 1048576 = omega (arith, few, length-drop most_piece bytes) in
    ap (λ (l : List ℕ). take most_piece bytes ++ l) (joined_in n (drop most_piece bytes) rest) ∙ take_then most_piece bytes

output_is : (bytes : List ℕ) → joined (output_pieces bytes) ≡ bytes
output_is bytes = joined_in (piece_count (length bytes)) bytes (omega arith)

pieces_once : (xs ys : List (List ℕ)) (ts us : List Tree) → length xs ≡ length ys → map bin xs ++ ts ≡ map bin ys ++ us → (xs ≡ ys) × (ts ≡ us)
pieces_once [] [] ts us many e = (refl, e)
pieces_once [] (y ∷ ys) ts us many e = absurd (omega (arith, many))
pieces_once (x ∷ xs) [] ts us many e = absurd (omega (arith, many))
pieces_once (x ∷ xs) (y ∷ ys) ts us many e =
    let first : x ≡ y = cc in
    let behind : map bin xs ++ ts ≡ map bin ys ++ us = cc in
    let rest = pieces_once xs ys ts us (omega (arith, many)) behind in
    let front = rest.0 in
    (λ i. first i ∷ front i, rest.1)

-- how many pieces two outputs of an event have is one number
counts_once : (e : Event) (x y : List ℕ) → IsOutputOf e x → IsOutputOf e y → IfTake e (length (output_pieces x) ≡ length (output_pieces y)) → length (output_pieces x) ≡ length (output_pieces y)
counts_once open_session x y f g h = ap (λ (l : List ℕ). length (output_pieces l)) (f ∙ sym g)
counts_once (request_of s call) x y f g h = ap (λ (l : List ℕ). length (output_pieces l)) (f ∙ sym g)
counts_once (take_of s) x y f g h = h
counts_once (close_of s) x y f g h = ap (λ (l : List ℕ). length (output_pieces l)) (f ∙ sym g)

-- ---- all records
records_once : (rs ps : List Recorded) (m n : ℕ) → AllByRecursion IsFairRecord rs → AllByRecursion IsFairRecord ps
    → flat_map recorded_values rs ++ book_end m ∷ [] ≡ flat_map recorded_values ps ++ book_end n ∷ [] → rs ≡ ps
records_once [] [] m n f g e = refl
records_once [] (p ∷ ps) m n f g e =
    let first : book_end m ≡ entry_head p.entry (length (output_pieces p.output)) = cc in
    absurd (no_end p.entry.caller (length (output_pieces p.output)) m p.entry.event first)
records_once (r ∷ rs) [] m n f g e =
    let first : entry_head r.entry (length (output_pieces r.output)) ≡ book_end n = cc in
    absurd (no_end r.entry.caller (length (output_pieces r.output)) n r.entry.event (sym first))
records_once (r ∷ rs) (p ∷ ps) m n f g e =
    let first : entry_head r.entry (length (output_pieces r.output)) ≡ entry_head p.entry (length (output_pieces p.output)) = cc in
    let behind : (map bin (output_pieces r.output) ++ flat_map recorded_values rs) ++ book_end m ∷ [] ≡ (map bin (output_pieces p.output) ++ flat_map recorded_values ps) ++ book_end n ∷ [] = cc in
    let head = head_once r.entry.caller p.entry.caller (length (output_pieces r.output)) (length (output_pieces p.output)) r.entry.event p.entry.event first in
    let there : IsOutputOf r.entry.event p.output = subst (λ (v : Event). IsOutputOf v p.output) (sym head.event) g.0.output in
    let many = counts_once r.entry.event r.output p.output f.0.output there head.count in
    let parts =
    pieces_once (output_pieces r.output) (output_pieces p.output) (flat_map recorded_values rs ++ book_end m ∷ []) (flat_map recorded_values ps ++ book_end n ∷ []) many
    (sym (append_assoc (map bin (output_pieces r.output)) (flat_map recorded_values rs) (book_end m ∷ [])) ∙ behind
    ∙ append_assoc (map bin (output_pieces p.output)) (flat_map recorded_values ps) (book_end n ∷ [])) in
    let rest = records_once rs ps m n f.1 g.1 parts.1 in
    let output : r.output ≡ p.output = sym (output_is r.output) ∙ ap joined parts.0 ∙ output_is p.output in
    let caller = head.caller in
    let event = head.event in
    λ i. record { entry = record { caller = caller i; event = event i }; output = output i } ∷ rest i

pub books_are_one : BooksAreOne
unfolding BooksAreOne
books_are_one bytes outbox other rs ps is also =
    let values = values_once (book_values outbox rs) (book_values other ps) bytes bytes refl is.spelled also.spelled in
    let first : book_head outbox ≡ book_head other = cc in
    let number : unsigned_number outbox ≡ unsigned_number other = cc in
    let behind : flat_map recorded_values rs ++ book_end (length rs) ∷ [] ≡ flat_map recorded_values ps ++ book_end (length ps) ∷ [] = cc in
    (number_once outbox other number, records_once rs ps (length rs) (length ps) is.fair.each also.fair.each behind)
