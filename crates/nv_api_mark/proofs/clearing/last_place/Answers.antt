use Rattle.std.proofs.Common.{rules, arith, ◌<◌}
use Rattle.nv_api_mark.proofs.Picked.{ends_all, ends_before, ends_none}
use Rattle.nv_api_mark.proofs.clearing.last_place.Goals as goal

pub returns-in_default : goal.returns-in_default
returns-in_default c = ends_all c.args.last c.row_end.result (search rules) c.row_end.ensures

pub returns-then-last-eq0 : goal.returns-then-last-eq0
returns-then-last-eq0 c = ends_none c.args.last c.in-Some.last c.in-Some.is c.if-last-eq0.true

pub returns : goal.returns
returns c =
    let some : 0 < c.in-Some.last = omega (arith, c.if-last-eq0.false) in
    ends_before c.args.last c.in-Some.last c.min-row.result c.row_end-2.result c.in-Some.is some c.min-row.ensures c.row_end-2.ensures
