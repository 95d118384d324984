use Rattle.std.proofs.Common.{◌≡◌, ◌-◌, drop, rules, take, arith}
use Rattle.nv_painter.proofs.LentLemmas.{block_back}
use Rattle.nv_painter.proofs.lent.are_same_blocks.Goals as goal

pub returns : goal.returns
returns c e back =
    let a = c.args.a.now in
    let b = c.args.b.now in
    let end = c.args.end in
    let start = end - 16 in
    let same : take (end - start) (drop start a) ≡ take (end - start) (drop start b) = search rules in
    block_back a b start end (omega arith) same back
