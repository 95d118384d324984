use Rattle.std.proofs.Common.{◌≡◌, ◌+◌, ◌/◌, min, arith}
use Rattle.nv_linedraw.proofs.PlaceLemmas.{moves_on}
use Rattle.nv_linedraw.proofs.places.moved.Goals as goal

pub returns : goal.returns
returns c = λ cell at.
    let p = c.args.place in
    let w = c.args.width in
    let row : c.min-row.result ≡ min c.args.most (p.row + (p.col + c.args.count) / w) = omega (arith, c.min-row.ensures) in
    moves_on w c.args.most p.row p.col c.args.count cell c.min-row.result c.requires row at
