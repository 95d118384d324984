-- The values of an entry are in the ranges of their types.
use Rattle.std.proofs.Common.{◌≡◌, ℕ, pos, ◌^◌, ◌<◌, Bool, true, false, cond, refl, arith}
use Rattle.std.specs.Prelude.{nat_lt}
use Rattle.std.proofs.lemmas.Bool.{ltb-true}
use Rattle.nv_value.specs.Content.{integer, big, list, trees_of}
use Rattle.nv_msgpack.specs.Spelling.{unsigned_number}
use Rattle.nv_msgpack.specs.Shortest.{IsInRange}
use Rattle.nv_rpc.specs.Calls.{request, notice}
use Rattle.nv_history.specs.Events.{Event, open_session, request_of, take_of, close_of, Entry}
use Rattle.nv_book.specs.Books.{event_values, entry_head, HasSmallCall}
use Rattle.nv_book_laws.specs.Laws.{HasTypedParts}

range_by : (b : Bool) (n : ℕ) → (b ≡ true → n < 2 ^ 63) → n < 2 ^ 64 → IsInRange (cond b (integer (pos n)) (big n))
range_by true n h k = record { sfits = h refl }
range_by false n h k = k

pub number_range : (n : ℕ) → n < 2 ^ 64 → IsInRange (unsigned_number n)
number_range n h = range_by (nat_lt n (2 ^ 63)) n (λ e. ltb-true n (2 ^ 63) e) h

range_of : (caller : ℕ) (event : Event) → caller < 2 ^ 64 → HasSmallCall event → HasTypedParts event → IsInRange (list (trees_of (event_values caller 0 event)))
range_of caller open_session c k h = (tt, (number_range caller c, tt))
range_of caller (request_of s (request msgid method params)) c k h =
    (tt, (number_range caller c, (number_range s h.0, (number_range msgid (omega (arith, k)), (tt, (h.1, tt))))))
range_of caller (request_of s (notice method params)) c k h = (tt, (number_range caller c, (number_range s h.0, (tt, (tt, (h.1, tt))))))
range_of caller (take_of s) c k h = (tt, (number_range caller c, (number_range s h, (number_range 0 (omega arith), tt))))
range_of caller (close_of s) c k h = (tt, (number_range caller c, (number_range s h, tt)))

pub entry_range : (e : Entry) → e.caller < 2 ^ 32 → HasSmallCall e.event → HasTypedParts e.event → IsInRange (entry_head e 0)
entry_range e c k h = range_of e.caller e.event (omega (arith, c)) k h
