-- What the values of a book tell, from what they are of.
use Rattle.std.proofs.Common.{◌≡◌, ℕ, pos, Bool, true, false, List, [], ◌∷◌, length, Option, Some, None, refl, sym, ap, ap₂, ◌∙◌, subst, arith}
use Rattle.std.specs.Prelude.{◌<◌, ◌≤◌, ◌^◌, ◌&&◌, nat_lt, nat_le, if◌then◌else◌, option_and_then}
use Rattle.std.specs.Option.{option_or}
use Rattle.std.proofs.lemmas.Bool.{lt-ltb, le-leb}
use Rattle.nv_value.specs.Content.{Tree, Trees, integer, big, text, list, trees_of}
use Rattle.nv_msgpack.specs.Spelling.{unsigned_number}
use Rattle.nv_rpc.specs.Calls.{Call, request, notice}
use Rattle.nv_history.specs.Events.{Event, open_session, request_of, take_of, close_of, Entry}
use Rattle.nv_book.specs.Books.{Recorded, msgid_tree, method_tree, params_tree, event_values, entry_head, book_head, book_end, output_pieces, IsOutputOf, HasSmallMsgid, HasSmallCall, IsFairRecord}
use Rattle.nv_book.specs.Headings.{Heading, heading, if_small, unsigned_in, unsigned32_in, call_in_parts, short_in, asked_in, heading_in, entry_count_in, if_fair, if_first_version, outbox_in}

number_by : (b : Bool) (n : ℕ) → nat_lt n (2 ^ 63) ≡ b → unsigned_in (if b then integer (pos n) else big n) ≡ Some n
number_by true n e = ap (λ (c : Bool). if c then Some n else None) e
number_by false n e = ap (λ (c : Bool). if c then None else Some n) e

number : (n : ℕ) → unsigned_in (unsigned_number n) ≡ Some n
number n = number_by (nat_lt n (2 ^ 63)) n refl

small : (n : ℕ) → n < 2 ^ 32 → unsigned32_in (unsigned_number n) ≡ Some n
small n h = ap (λ (o : Option ℕ). option_and_then if_small o) (number n) ∙ ap (λ (c : Bool). if c then Some n else None) (lt-ltb n (2 ^ 32) h)

call_by : (b : Bool) (n : ℕ) (m : List ℕ) (ps : Trees) → call_in_parts (if b then integer (pos n) else big n) m ps
    ≡ option_and_then (λ id. Some (request id m ps)) (unsigned32_in (if b then integer (pos n) else big n))
call_by true n m ps = refl
call_by false n m ps = refl

call_there : (n : ℕ) (m : List ℕ) (ps : Trees) → n < 2 ^ 32 → call_in_parts (unsigned_number n) m ps ≡ Some (request n m ps)
call_there n m ps h = call_by (nat_lt n (2 ^ 63)) n m ps ∙ ap (λ (o : Option ℕ). option_and_then (λ id. Some (request id m ps)) o) (small n h)

-- of how many pieces the output of an event is told to be
abbrev pub count_for : Event → ℕ → ℕ
count_for open_session n = 0
count_for (request_of s call) n = 0
count_for (take_of s) n = n
count_for (close_of s) n = 0

heading_by : (c count : ℕ) (event : Event) → c < 2 ^ 32 → HasSmallCall event → heading_in (list (trees_of (event_values c count event))) ≡ Some (heading c (count_for event count) event)
unfolding short_in asked_in
heading_by c count open_session h k =
    ap (λ (o : Option ℕ). option_or (option_and_then (λ x. Some (heading x 0 open_session)) o) None) (small c h)
heading_by c count (close_of s) h k =
    ap₂ (λ (o p : Option ℕ). option_or (option_and_then (λ x. option_and_then (λ y. Some (heading x 0 (close_of y))) p) o) None) (small c h) (number s)
heading_by c count (take_of s) h k =
    ap₂ (λ (o p : Option ℕ). option_or (option_and_then (λ x. option_and_then (λ y. option_and_then (λ z. Some (heading x z (take_of y))) (unsigned_in (unsigned_number count))) p) o) None) (small c h) (number s)
    ∙ ap (λ (o : Option ℕ). option_or (option_and_then (λ z. Some (heading c z (take_of s))) o) None) (number count)
heading_by c count (request_of s (request n m ps)) h k =
    ap₂ (λ (o p : Option ℕ). option_and_then (λ x. option_and_then (λ y. option_and_then (λ call. Some (heading x 0 (request_of y call))) (call_in_parts (unsigned_number n) m ps)) p) o) (small c h) (number s)
    ∙ ap (λ (o : Option Call). option_and_then (λ call. Some (heading c 0 (request_of s call))) o) (call_there n m ps k)
heading_by c count (request_of s (notice m ps)) h k =
    ap₂ (λ (o p : Option ℕ). option_and_then (λ x. option_and_then (λ y. Some (heading x 0 (request_of y (notice m ps)))) p) o) (small c h) (number s)

pub heading_there : (e : Entry) (count : ℕ) → e.caller < 2 ^ 32 → HasSmallCall e.event → heading_in (entry_head e count) ≡ Some (heading e.caller (count_for e.event count) e.event)
heading_there e count h k = heading_by e.caller count e.event h k

count_same : (event : Event) (out : List ℕ) → IsOutputOf event out → count_for event (length (output_pieces out)) ≡ length (output_pieces out)
count_same open_session out h = ap (λ (l : List ℕ). length (output_pieces l)) (sym h)
count_same (request_of s call) out h = ap (λ (l : List ℕ). length (output_pieces l)) (sym h)
count_same (take_of s) out h = refl
count_same (close_of s) out h = ap (λ (l : List ℕ). length (output_pieces l)) (sym h)

pub record_there : (r : Recorded) → IsFairRecord r → heading_in (entry_head r.entry (length (output_pieces r.output))) ≡ Some (record { entry = r.entry; count = length (output_pieces r.output) })
record_there r f =
    heading_there r.entry (length (output_pieces r.output)) f.caller f.call
    ∙ ap (λ (n : ℕ). Some (heading r.entry.caller n r.entry.event)) (count_same r.entry.event r.output f.output)

-- ---- the first and the last value

no_end_by : (c count : ℕ) (event : Event) → entry_count_in (list (trees_of (event_values c count event))) ≡ None
unfolding entry_count_in
no_end_by c count open_session = refl
no_end_by c count (request_of s call) = refl
no_end_by c count (take_of s) = refl
no_end_by c count (close_of s) = refl

pub entry_no_end : (e : Entry) (count : ℕ) → entry_count_in (entry_head e count) ≡ None
entry_no_end e count = no_end_by e.caller count e.event

pub end_no_heading : (n : ℕ) → heading_in (book_end n) ≡ None
unfolding short_in asked_in
end_no_heading n = refl

pub end_there : (n : ℕ) → entry_count_in (book_end n) ≡ Some n
unfolding entry_count_in
end_there n = number n

fair_there : (b c : Bool) (n : ℕ) → b ≡ true → c ≡ true → (if b && c then Some n else None) ≡ Some n
fair_there true true n e f = refl
fair_there true false n e f = cc
fair_there false c n e f = cc

pub outbox_there : (n : ℕ) → 16 ≤ n → n ≤ 1048576 → outbox_in (book_head n) ≡ Some n
unfolding outbox_in
outbox_there n l m =
    ap (λ (o : Option ℕ). option_and_then (λ x. if_first_version 1 (if_fair x)) o) (number n)
    ∙ fair_there (nat_le 16 n) (nat_le n 1048576) n (le-leb 16 n l) (le-leb n 1048576 m)
