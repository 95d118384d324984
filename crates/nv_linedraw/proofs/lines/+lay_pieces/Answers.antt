use Rattle.std.proofs.Common.{◌≤◌, ◌<◌, ◌/◌, length, refl, arith, rules}
use Rattle.nv_linedraw.proofs.HalfLemmas.{drawn_alike, front_laid, halves_laid}
use Rattle.nv_linedraw.proofs.lines.+lay_pieces.Goals as goal

pub returns-then-most-len-clause-laid : goal.returns-then-most-len-clause-laid
returns-then-most-len-clause-laid t c =
    let d = c.args.d.now in
    let ps = c.args.pieces.now in
    let e = record d { spans = c.as_slice.result } in
    let enough : c.args.most ≤ length c.lay_pieces.new.flow.cells.items =
    omega (arith, c.if-most-len.true, c.len.ensures, c.lay_pieces.new.flow.cells.ok.0) in
    front_laid e d c.args.most (length ps / 2) ps c.split_at.result.0.now _ _ (search rules)
    (drawn_alike e d c.in_ok-spans.spans.items ps refl refl refl refl c.as_slice.ensures.value c.in_ok-spans.ensures) c.in_ok-middle.ensures.laid enough

pub returns-clause-laid : goal.returns-clause-laid
returns-clause-laid t c =
    let d = c.args.d.now in
    let ps = c.args.pieces.now in
    let e = record d { spans = c.as_slice.result } in
    let few : length c.lay_pieces.new.flow.cells.items < c.args.most =
    omega (arith, c.if-most-len.false, c.len.ensures, c.lay_pieces.new.flow.cells.ok.0) in
    halves_laid e d c.args.most (length ps / 2) ps c.split_at.result.0.now c.split_at.result.1.now _ _ _ (search rules) (search rules)
    (drawn_alike e d c.in_ok-spans.spans.items ps refl refl refl refl c.as_slice.ensures.value c.in_ok-spans.ensures) c.in_ok-middle.ensures.laid few
    c.in_ok-end.ensures.laid
