use Rattle.std.proofs.Common.{◌≡◌, ◌<◌, ◌∙◌, ap, arith, length, sym}
use Rattle.nv_painter.specs.inside.Lent.{cells_lent, lent_cells, placed_cells, plain_cells}
use Rattle.nv_painter.proofs.lent.is_same_row.Goals as goal

pub returns-in-Plain-clause-same : goal.returns-in-Plain-clause-same
returns-in-Plain-clause-same c e =
    let a = c.args.a.now in
    let b = c.args.b.now in
    let cells : lent_cells a ≡ plain_cells c.in-Plain.width c.in-Plain.bytes.now = ap cells_lent c.in-Plain.is in
    let same : plain_cells c.in-Plain.width c.in-Plain.bytes.now ≡ placed_cells b = c.is_plain_row.ensures.same e in
    let some : 0 < length (placed_cells b) = c.is_plain_row.ensures.some e in
    sym (c.requires.old.cells (omega (arith, some, ap length (cells ∙ same)))) ∙ cells ∙ same
