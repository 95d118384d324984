use Rattle.std.proofs.Common.{◌≡◌, ℕ, ◌<◌, true, slice_index}
use Rattle.std.specs.Int.{is_in_range}
use Rattle.nv_text.proofs.kinds.printable_len.Given as goal

abbrev pub invariant-loop-at : goal.invariant-loop-at
invariant-loop-at l = (k : ℕ) → k < l.at → is_in_range 0x20 0x7E (slice_index l.byte-items k) ≡ true
