-- What is written of a book is that book.
use Rattle.std.proofs.Common.{◌≡◌, ℕ, zero, suc, pos, ◌+◌, ◌^◌, ◌<◌, ◌≤◌, Bool, true, false, cond, List, [], ◌∷◌, ◌++◌, length, take, drop, map, refl, arith, length-append}
use Rattle.std.specs.Prelude.{nat_lt, flat_map}
use Rattle.std.specs.List.{AllByRecursion}
use Rattle.std.proofs.lemmas.Bool.Decides.{nat_tests}
use Rattle.std.proofs.lemmas.List.{length-take}
use Rattle.nv_value.specs.Content.{Tree, integer, big, text, bin, list, trees_of}
use Rattle.nv_msgpack.specs.Spelling.{unsigned_number, Each}
use Rattle.nv_msgpack.specs.Shortest.{unsigned_spelling, text_head, bin_head, list_head, shortest, depth, HasSpelling, IsInRange}
use Rattle.nv_msgpack.specs.Within.{SpellsWithin}
use Rattle.nv_msgpack.proofs.Spelled.{spelled}
use Rattle.nv_history.specs.Events.{Event, open_session, request_of, take_of, close_of}
use Rattle.nv_book.specs.Books.{Recorded, entries_of_records, most_piece, piece_count, pieces_in, output_pieces, letter, event_values, recorded_values, book_name, book_head, book_end, book_values, shortest_of_all, most_value, most_nested, IsFitValue, IsFairRecord}
use Rattle.nv_book.proofs.Cutting.{piece_number}
use Rattle.nv_book.proofs.Depths.{unsigned_depth}
use Rattle.nv_book.proofs.Spelling.{head_spelling, book_head_spelling, book_end_spelling}
use Rattle.nv_book_laws.specs.Laws.{IsSpellable, WrittenIsBook}
use Rattle.nv_book_laws.proofs.HowLong.{spelled_both, record_least, count_least, book_least}
use Rattle.nv_book_laws.proofs.Ranges.{number_range, entry_range}

-- ---- one value

-- the shortest spelling of a value is one within the bounds of a book
abbrev IsGood : Tree → Type 0
IsGood t = SpellsWithin most_nested most_value t (shortest t)

nested : most_nested ≡ 64
unfolding most_nested
nested = refl

by_parts : (t : Tree) → HasSpelling t → IsInRange t → depth t ≤ 64 → length (shortest t) ≤ most_value → IsGood t
by_parts t has ranged deep long = (spelled t ranged has most_nested (omega (arith, deep, nested)), long)

both_long : (a b : List ℕ) (m n : ℕ) → length a ≤ m → length b ≤ n → length (a ++ b) ≤ m + n
both_long a b m n h k = omega (arith, h, k, length-append a b)

unsigned_long : (n : ℕ) → length (unsigned_spelling n) ≤ 9
unfolding unsigned_spelling
unsigned_long n = grind (arith, nat_tests)

text_long : (n : ℕ) → length (text_head n) ≤ 5
unfolding text_head
text_long n = grind (arith, nat_tests)

bin_long : (n : ℕ) → length (bin_head n) ≤ 5
unfolding bin_head
bin_long n = grind (arith, nat_tests)

list_long : (n : ℕ) → length (list_head n) ≤ 5
unfolding list_head
list_long n = grind (arith, nat_tests)

-- numbers
long_by : (b : Bool) (n : ℕ) → length (shortest (cond b (integer (pos n)) (big n))) ≤ 9
long_by true n = unsigned_long n
long_by false n = unsigned_long n

number_long : (n : ℕ) → length (shortest (unsigned_number n)) ≤ 9
number_long n = long_by (nat_lt n (2 ^ 63)) n

number_depth : (n : ℕ) → depth (unsigned_number n) ≡ 0
number_depth n = unsigned_depth (nat_lt n (2 ^ 63)) n n

-- strings
string_long : (bytes : List ℕ) (n : ℕ) → length bytes ≤ n → length (shortest (text bytes)) ≤ 5 + n
string_long bytes n h = both_long (text_head (length bytes)) bytes 5 n (text_long (length bytes)) h

piece_good : (bytes : List ℕ) → length bytes ≤ 1048576 → IsGood (bin bytes)
piece_good bytes h =
    let long : length (bin_head (length bytes) ++ bytes) ≤ 5 + 1048576 = both_long (bin_head (length bytes)) bytes 5 1048576 (bin_long (length bytes)) h in
    by_parts (bin bytes) (omega (arith, h)) tt (omega arith) (omega (arith, long))

-- ---- what tells of an entry

-- its values, one behind another
two_long : (t u : Tree) (ts : List ℕ) (m n k : ℕ) → length (shortest t) ≤ m → length (shortest u) ≤ n → length ts ≤ k → length (shortest t ++ (shortest u ++ ts)) ≤ m + (n + k)
two_long t u ts m n k f g h = both_long (shortest t) (shortest u ++ ts) m (n + k) f (both_long (shortest u) ts n k g h)

take_good : (caller count s : ℕ) → HasSpelling (list (trees_of (event_values caller count (take_of s)))) → IsInRange (unsigned_number caller) → IsInRange (unsigned_number s) → count < 2 ^ 64
    → IsGood (list (trees_of (event_values caller count (take_of s))))
take_good caller count s has c t n =
    let back : length (shortest (unsigned_number s) ++ (shortest (unsigned_number count) ++ [])) ≤ 9 + (9 + 0) =
    two_long (unsigned_number s) (unsigned_number count) [] 9 9 0 (number_long s) (number_long count) (omega arith) in
    let all : length (shortest (letter 116) ++ (shortest (unsigned_number caller) ++ (shortest (unsigned_number s) ++ (shortest (unsigned_number count) ++ [])))) ≤ 6 + (9 + 18) =
    two_long (letter 116) (unsigned_number caller) (shortest (unsigned_number s) ++ (shortest (unsigned_number count) ++ [])) 6 9 18 (string_long (116 ∷ []) 1 (omega arith)) (number_long caller) back in
    let long = both_long (list_head 4) (shortest (letter 116) ++ (shortest (unsigned_number caller) ++ (shortest (unsigned_number s) ++ (shortest (unsigned_number count) ++ [])))) 5 33 (list_long 4) all in
    by_parts (list (trees_of (event_values caller count (take_of s)))) has (tt, (c, (t, (number_range count n, tt))))
    (omega (arith, number_depth caller, number_depth s, number_depth count)) (omega (arith, long))

head_good : (event : Event) (caller count : ℕ) → count < 2 ^ 64 → HasSpelling (list (trees_of (event_values caller count event))) → IsFitValue (list (trees_of (event_values caller 0 event)))
    → IsInRange (list (trees_of (event_values caller 0 event))) → IsGood (list (trees_of (event_values caller count event)))
head_good open_session caller count n has fit ranged = by_parts (list (trees_of (event_values caller 0 open_session))) fit.spelling ranged fit.deep fit.long
head_good (request_of s call) caller count n has fit ranged = by_parts (list (trees_of (event_values caller 0 (request_of s call)))) fit.spelling ranged fit.deep fit.long
head_good (take_of s) caller count n has fit ranged = take_good caller count s has ranged.1.0 ranged.1.1.0 n
head_good (close_of s) caller count n has fit ranged = by_parts (list (trees_of (event_values caller 0 (close_of s)))) fit.spelling ranged fit.deep fit.long

-- ---- values one behind another

values_good : (ts : List Tree) → AllByRecursion IsGood ts → Each (SpellsWithin most_nested most_value) (trees_of ts) (shortest_of_all ts)
values_good [] h = refl
values_good (t ∷ ts) h = (shortest t, shortest_of_all ts, h.0, refl, values_good ts h.1)

and_those : (ts us : List Tree) → AllByRecursion IsGood ts → AllByRecursion IsGood us → AllByRecursion IsGood (ts ++ us)
and_those [] us h k = k
and_those (t ∷ ts) us h k = (h.0, and_those ts us h.1 k)

pieces_good : (n : ℕ) (bytes : List ℕ) → AllByRecursion IsGood (map bin (pieces_in n bytes))
pieces_good zero bytes = tt
pieces_good (suc n) bytes = (piece_good (take most_piece bytes) (omega (arith, length-take most_piece bytes)), pieces_good n (drop most_piece bytes))

few_pieces : (n m : ℕ) → m ≡ piece_count n → n < 2 ^ 64 → m < 2 ^ 64
few_pieces n m e h = omega (arith, e, h)

record_good : (r : Recorded) → IsFairRecord r → IsSpellable r.entry → length r.output < 2 ^ 64 → AllByRecursion IsGood (recorded_values r)
record_good r fair h short = (
  head_good r.entry.event r.entry.caller (length (output_pieces r.output)) (few_pieces (length r.output) (length (output_pieces r.output)) (piece_number r.output) short)
      (head_spelling r.entry (length (output_pieces r.output)) h.fit) h.fit (entry_range r.entry fair.caller fair.call h.typed),
  pieces_good (piece_count (length r.output)) r.output,
)

records_good : (rs : List Recorded) → AllByRecursion IsFairRecord rs → AllByRecursion IsSpellable (entries_of_records rs) → length (shortest_of_all (flat_map recorded_values rs)) < 2 ^ 64
    → AllByRecursion IsGood (flat_map recorded_values rs)
records_good [] fair h short = tt
records_good (r ∷ rs) fair h short =
    let both = spelled_both (recorded_values r) (flat_map recorded_values rs) in
    and_those (recorded_values r) (flat_map recorded_values rs) (record_good r fair.0 h.0 (omega (arith, short, both, record_least r))) (records_good rs fair.1 h.1 (omega (arith, short, both)))

-- ---- the first and the last value, and all

first_good : (outbox : ℕ) → outbox < 2 ^ 64 → IsGood (book_head outbox)
first_good outbox h =
    let back = both_long (shortest (unsigned_number outbox)) [] 9 0 (number_long outbox) (omega arith) in
    let all = two_long (text book_name) (unsigned_number 1) (shortest (unsigned_number outbox) ++ []) 15 9 9 (string_long book_name 10 (omega arith)) (number_long 1) back in
    let long = both_long (list_head 3) (shortest (text book_name) ++ (shortest (unsigned_number 1) ++ (shortest (unsigned_number outbox) ++ []))) 5 33 (list_long 3) all in
    by_parts (book_head outbox) (book_head_spelling outbox) (tt, (number_range 1 (omega arith), (number_range outbox h, tt))) (omega (arith, number_depth 1, number_depth outbox)) (omega (arith, long))

last_good : (count : ℕ) → count < 2 ^ 64 → IsGood (book_end count)
last_good count h =
    let all = two_long (text (101 ∷ 110 ∷ 100 ∷ [])) (unsigned_number count) [] 8 9 0 (string_long (101 ∷ 110 ∷ 100 ∷ []) 3 (omega arith)) (number_long count) (omega arith) in
    let long = both_long (list_head 2) (shortest (text (101 ∷ 110 ∷ 100 ∷ [])) ++ (shortest (unsigned_number count) ++ [])) 5 17 (list_long 2) all in
    by_parts (book_end count) (book_end_spelling count) (tt, (number_range count h, tt)) (omega (arith, number_depth count)) (omega (arith, long))

pub written_is_book : WrittenIsBook
unfolding WrittenIsBook
written_is_book outbox rs fair h few =
    let short = book_least outbox rs in record {
      fair = fair;
      spelled =
          values_good (book_values outbox rs) (
            first_good outbox (omega (arith, fair.most)),
            and_those (flat_map recorded_values rs) (book_end (length rs) ∷ []) (records_good rs fair.each h (omega (arith, few, short))) (last_good (length rs) (omega (arith, few, short, count_least rs)), tt),
          );
    }
