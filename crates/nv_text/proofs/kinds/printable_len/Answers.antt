use Rattle.std.proofs.Common.{length, sym, ap, arith, rules}
use Rattle.std.proofs.lemmas.List.Sums.{prefix_len_is}
use Rattle.std.specs.Int.{is_in_range}
use Rattle.nv_text.proofs.kinds.printable_len.Goals as goal

pub returns-then-not-contains : goal.returns-then-not-contains
returns-then-not-contains c =
    let all = rw c.as_bytes-byte-items.ensures.value at c.loop-at.invariant in
    let len = ap length c.as_bytes-byte-items.ensures.value in
    sym (prefix_len_is (is_in_range 0x20 0x7E) c.args.text.now c.loop-at.at 0 (omega (arith, len)) all (λ h. search rules))

pub returns : goal.returns
returns c =
    let all = rw c.as_bytes-byte-items.ensures.value at c.loop-at.invariant in
    let len = ap length c.as_bytes-byte-items.ensures.value in
    sym (prefix_len_is (is_in_range 0x20 0x7E) c.args.text.now (length c.args.text.now) 0 (omega arith) (λ k h. all k (omega (arith, len))) (λ h. absurd (omega arith)))
