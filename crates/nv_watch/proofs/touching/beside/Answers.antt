use Rattle.std.proofs.Common.{rules, ◌≡◌, ◌+◌, ◌-◌, length}
use Rattle.nv_watch.proofs.SharedRows.{some_beside}
use Rattle.nv_watch.proofs.touching.beside.Goals as goal

pub returns : goal.returns
returns c =
    let until_is : c.in-Some.until ≡ c.args.splice.at + c.args.splice.new = search rules in
    let low_is : c.saturating_sub-back.result ≡ length c.args.text.now - 2 - c.row_at.result = search rules in
    some_beside c.args.text.now c.args.splice c.args.ends c.lesser_ends.result c.row_at-front.result c.row_at.result c.saturating_sub-back.result c.in-Some.until
    c.count.ensures.text.each c.row_at-front.ensures c.row_at.ensures until_is low_is c.lesser_ends.ensures
