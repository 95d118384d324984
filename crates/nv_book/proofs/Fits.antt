-- The entries of a book that was read can be written in one.
use Rattle.std.proofs.Common.{◌≡◌, ℕ, zero, suc, pos, ◌+◌, ◌<◌, ◌≤◌, Bool, cond, List, [], ◌∷◌, ◌++◌, length, take, drop, map, Option, Some, None, refl, sym, ap, ◌∙◌, subst, arith, append_assoc, length-append}
use Rattle.std.specs.Prelude.{All, flat_map, slice_get, nat_lt, ◌^◌}
use Rattle.std.specs.List.{AllByRecursion}
use Rattle.std.proofs.lemmas.List.Elements.{All-nil, All-cons, All-take, All-drop}
use Rattle.std.proofs.lemmas.Option.{same_Some}
use Rattle.nv_value.specs.Content.{Tree, Trees, bin, list, trees_of}
use Rattle.nv_msgpack.specs.Spelling.{form, unsigned_number, Each, SpellsIn}
use Rattle.nv_msgpack.specs.Shortest.{list_head, shortest, depth, HasSpelling, IsInRange}
use Rattle.nv_msgpack.proofs.Complete.{has_byte-in}
use Rattle.nv_msgpack.proofs.Least.{spelled_has_spelling, shortest_is_least}
use Rattle.nv_msgpack.proofs.Spelled.{spelled}
use Rattle.nv_history.specs.Events.{Event, open_session, request_of, take_of, close_of, Entry}
use Rattle.nv_book.specs.Books.{Recorded, entries_of_records, letter, event_values, entry_head, book_head, book_end, output_pieces, recorded_values, book_values, most_nested, most_value, IsFitEntry, IsBook}
use Rattle.nv_book.specs.Writing.{IsUnfitAt}
use Rattle.nv_book.specs.Reading.{AreWritable}
use Rattle.nv_book.proofs.Standing.{Spelled}
use Rattle.nv_book.proofs.Depths.{unsigned_depth, in_depth}

-- ---- one entry

number_long : (n : ℕ) → HasSpelling (unsigned_number n) → IsInRange (unsigned_number n) → 0 < length (shortest (unsigned_number n))
number_long n h r =
    has_byte-in (depth (unsigned_number n)) (unsigned_number n) (shortest (unsigned_number n)) (spelled (unsigned_number n) r h (depth (unsigned_number n)) (omega arith))

zero_spells : SpellsIn 0 (unsigned_number 0) (0 ∷ [])
unfolding form
zero_spells = (refl, refl)

zero_long : length (shortest (unsigned_number 0)) ≤ 1
zero_long = (shortest_is_least (unsigned_number 0) (0 ∷ []) (All-cons (λ n. n < 256) 0 [] (omega arith) (All-nil (λ (n : ℕ). n < 256))) (0, zero_spells)).1

told_less : (caller count : ℕ) (event : Event) → HasSpelling (list (trees_of (event_values caller count event))) → HasSpelling (list (trees_of (event_values caller 0 event)))
told_less caller count open_session h = h
told_less caller count (request_of s call) h = h
told_less caller count (take_of s) h = (h.0, (h.1.0, (h.1.1.0, (h.1.1.1.0, (tt, tt)))))
told_less caller count (close_of s) h = h

shallow_less : (caller count : ℕ) (event : Event) → depth (list (trees_of (event_values caller 0 event))) ≤ depth (list (trees_of (event_values caller count event)))
shallow_less caller count open_session = omega arith
shallow_less caller count (request_of s call) = omega arith
shallow_less caller count (take_of s) = omega arith
shallow_less caller count (close_of s) = omega arith

short_less : (caller count : ℕ) (event : Event) → HasSpelling (list (trees_of (event_values caller count event))) → IsInRange (list (trees_of (event_values caller count event)))
    → length (shortest (list (trees_of (event_values caller 0 event)))) ≤ length (shortest (list (trees_of (event_values caller count event))))
short_less caller count open_session h r = omega arith
short_less caller count (request_of s call) h r = omega arith
short_less caller count (take_of s) h r =
    let long = number_long count h.1.1.1.1.0 r.1.1.1.0 in
    let one : length (shortest (unsigned_number 0)) ≤ 1 = zero_long in
    omega (
      arith,
      long,
      one,
      length-append (list_head 4) (shortest (letter 116) ++ (shortest (unsigned_number caller) ++ (shortest (unsigned_number s) ++ (shortest (unsigned_number 0) ++ [])))),
      length-append (list_head 4) (shortest (letter 116) ++ (shortest (unsigned_number caller) ++ (shortest (unsigned_number s) ++ (shortest (unsigned_number count) ++ [])))),
      length-append (shortest (letter 116)) (shortest (unsigned_number caller) ++ (shortest (unsigned_number s) ++ (shortest (unsigned_number 0) ++ []))),
      length-append (shortest (letter 116)) (shortest (unsigned_number caller) ++ (shortest (unsigned_number s) ++ (shortest (unsigned_number count) ++ []))),
      length-append (shortest (unsigned_number caller)) (shortest (unsigned_number s) ++ (shortest (unsigned_number 0) ++ [])),
      length-append (shortest (unsigned_number caller)) (shortest (unsigned_number s) ++ (shortest (unsigned_number count) ++ [])),
      length-append (shortest (unsigned_number s)) (shortest (unsigned_number 0) ++ []),
      length-append (shortest (unsigned_number s)) (shortest (unsigned_number count) ++ []),
      length-append (shortest (unsigned_number 0)) [],
      length-append (shortest (unsigned_number count)) [],
    )
short_less caller count (close_of s) h r = omega arith

nested : most_nested ≡ 64
unfolding most_nested
nested = refl

fit_of : (e : Entry) (count : ℕ) (front : List ℕ) → All (λ b. b < 256) front → Spelled (entry_head e count) front → IsFitEntry e
fit_of e count front all s =
    let g = spelled_has_spelling (entry_head e count) front all (most_nested, s.0) in
    let least = (shortest_is_least (entry_head e count) front all (most_nested, s.0)).1 in
    record {
      spelling = told_less e.caller count e.event g.0;
      deep = omega (arith, shallow_less e.caller count e.event, in_depth most_nested (entry_head e count) front s.0, nested);
      long = omega (arith, short_less e.caller count e.event g.0 g.1, least, s.1);
    }

-- ---- all of a book

front_of : (a b : List ℕ) → take (length a) (a ++ b) ≡ a
front_of [] b = refl
front_of (x ∷ a) b = ap (λ (l : List ℕ). x ∷ l) (front_of a b)

back_of : (a b : List ℕ) → drop (length a) (a ++ b) ≡ b
back_of [] b = refl
back_of (x ∷ a) b = back_of a b

all_left : (a b : List ℕ) → All (λ n. n < 256) (a ++ b) → All (λ n. n < 256) a
all_left a b h = subst (λ (l : List ℕ). All (λ n. n < 256) l) (front_of a b) (All-take (λ n. n < 256) (length a) (a ++ b) h)

all_right : (a b : List ℕ) → All (λ n. n < 256) (a ++ b) → All (λ n. n < 256) b
all_right a b h = subst (λ (l : List ℕ). All (λ n. n < 256) l) (back_of a b) (All-drop (λ n. n < 256) (length a) (a ++ b) h)

-- values behind others
record Halves (vs ws : List Tree) (bytes : List ℕ) : Type 0 where
  pub front : List ℕ
  pub back : List ℕ
  pub split : bytes ≡ front ++ back
  pub first : Each Spelled (trees_of vs) front
  pub second : Each Spelled (trees_of ws) back

halves : (vs ws : List Tree) (bytes : List ℕ) → Each Spelled (trees_of (vs ++ ws)) bytes → Halves vs ws bytes
halves [] ws bytes e = record { front = []; back = bytes; split = refl; first = refl; second = e }
halves (v ∷ vs) ws bytes e =
    let r = halves vs ws e.1 e.4 in
    record {
      front = e.0 ++ r.front;
      back = r.back;
      split = e.3 ∙ ap (λ (l : List ℕ). e.0 ++ l) r.split ∙ sym (append_assoc e.0 r.front r.back);
      first = (e.0, r.front, e.2, refl, r.first);
      second = r.second;
    }

records_fit : (rs : List Recorded) (ws : List Tree) (bytes : List ℕ) → All (λ n. n < 256) bytes → Each Spelled (trees_of (flat_map recorded_values rs ++ ws)) bytes → AllByRecursion IsFitEntry (entries_of_records rs)
records_fit [] ws bytes h e = tt
records_fit (r ∷ rs) ws bytes h e =
    let whole = subst (λ (l : List Tree). Each Spelled (trees_of l) bytes) (append_assoc (recorded_values r) (flat_map recorded_values rs) ws) e in
    let x = halves (recorded_values r) (flat_map recorded_values rs ++ ws) bytes whole in
    let all = subst (λ (l : List ℕ). All (λ n. n < 256) l) x.split h in
    let head = x.first in (
      fit_of r.entry (length (output_pieces r.output)) head.0 (all_left head.0 head.1 (subst (λ (l : List ℕ). All (λ n. n < 256) l) head.3 (all_left x.front x.back all))) head.2,
      records_fit rs ws x.back (all_right x.front x.back all) x.second,
    )

all_at : (es : List Entry) (n : ℕ) (e : Entry) → AllByRecursion IsFitEntry es → slice_get es n ≡ Some e → IsFitEntry e
all_at [] n e h g = cc
all_at (x ∷ es) zero e h g = let same : x ≡ e = same_Some x e g in subst IsFitEntry same h.0
all_at (x ∷ es) (suc n) e h g = all_at es n e h.1 g

pub books_are_fit : (bytes : List ℕ) (outbox : ℕ) (rs : List Recorded) → All (λ n. n < 256) bytes → IsBook bytes outbox rs → AreWritable (entries_of_records rs)
books_are_fit bytes outbox rs h book n unfit =
    let e = book.spelled in
    let all = subst (λ (l : List ℕ). All (λ n. n < 256) l) e.3 h in
    unfit.2 (all_at (entries_of_records rs) n unfit.0 (records_fit rs (book_end (length rs) ∷ []) e.1 (all_right e.0 e.1 all) e.4) unfit.1)
