use Rattle.std.proofs.Common.{◌≡◌, ◌≤◌, length, rules, sym, arith}
use Rattle.nv_painter.proofs.PlainLemmas.{plain_whole}
use Rattle.nv_painter.proofs.lent.plain_row_in.Goals as goal

pub returns : goal.returns
returns c some =
    let first : c.args.number ≡ 0 = search (rules, arith) in
    let same : c.args.all ≡ c.args.width = search (rules, arith) in
    let le : length c.args.bytes.now ≤ c.args.width = search (rules, arith) in
    sym (plain_whole c.args.number c.args.width c.args.all c.args.bytes.now first same le)
