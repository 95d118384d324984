-- A message that can be sent has a spelling.
use Rattle.std.proofs.Common.{ℕ, ℤ, pos, negsuc, ◌^◌, ◌<◌, length, lit<, arith, Some, None}
use Rattle.std.proofs.lemmas.Bool.Decides.{nat_tests}
use Rattle.nv_msgpack.specs.Shortest.{unsigned_spelling, negative_spelling, integer_spelling, HasSpelling}
use Rattle.nv_rpc.specs.Messages.{Sent, reply, lines_event, tick_event, detach_event, fault_event, message_tree, IsSendable}

length-unsigned : (n : ℕ) → length (unsigned_spelling n) < 2 ^ 32
unfolding unsigned_spelling
length-unsigned n = grind (arith, nat_tests)

length-negative : (n : ℕ) → length (negative_spelling n) < 2 ^ 32
unfolding negative_spelling
length-negative n = grind (arith, nat_tests)

length-integer : (z : ℤ) → length (integer_spelling z) < 2 ^ 32
length-integer (pos n) = length-unsigned n
length-integer (negsuc n) = length-negative n

pub sendable : (s : Sent) → IsSendable s → HasSpelling (message_tree s)
unfolding message_tree
sendable (reply msgid None result) h = (lit< tt, (tt, (tt, (tt, (h, tt)))))
sendable (reply msgid (Some fault) result) h = (lit< tt, (tt, (tt, ((lit< tt, (tt, (h, tt))), (tt, tt)))))
sendable (lines_event buffer tick first last lines) h =
    (lit< tt, (tt, (lit< tt, ((lit< tt, (length-integer buffer, (tt, (tt, (tt, (h, (tt, tt))))))), tt))))
sendable (tick_event buffer tick) h = (lit< tt, (tt, (lit< tt, ((lit< tt, (length-integer buffer, (tt, tt))), tt))))
sendable (detach_event buffer) h = (lit< tt, (tt, (lit< tt, ((lit< tt, (length-integer buffer, tt)), tt))))
sendable (fault_event fault) h = (lit< tt, (tt, (lit< tt, ((lit< tt, (tt, (h, tt))), tt))))
