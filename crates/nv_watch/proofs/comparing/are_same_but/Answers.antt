use Rattle.std.proofs.Common.{rules, ◌≤◌, ◌-◌, length}
use Rattle.nv_watch.proofs.SameLines.{told_between}
use Rattle.nv_watch.proofs.comparing.are_same_but.Goals as goal

pub returns : goal.returns
returns c = λ shares.
    let before : c.min-from.result ≤ c.args.ends.front = search rules in
    let behind : length c.args.lines.now - c.args.ends.back ≤ c.max-to.result = search rules in
    told_between c.args.text.now c.args.lines.now c.args.ends c.min-from.result c.max-to.result c.are_same_between.result c.requires before behind c.are_same_between.ensures shares
