use Rattle.std.proofs.Common.{◌≡◌, ◌<◌, ◌∙◌, ap, arith, length, rules, sym}
use Rattle.nv_painter.specs.inside.Lent.{cells_lent, lent_cells, placed_cells, plain_cells}
use Rattle.nv_painter.proofs.PlainLemmas.{cells_length}
use Rattle.nv_painter.proofs.lent.is_plain_row.Goals as goal

pub returns-clause-same : goal.returns-clause-same
returns-clause-same c e =
    let row = c.args.row.now in
    let bytes = c.args.bytes.now in
    let w = c.args.width in
    let widths : c.in-Plain.all ≡ w = search (rules, arith) in
    let some : 0 < length bytes = search (rules, arith) in
    let same : c.in-Plain.other.now ≡ bytes = search rules in
    let cells : lent_cells row ≡ plain_cells w bytes =
    ap cells_lent c.in-Plain.is ∙ (λ i. plain_cells (widths i) (same i)) in
    sym cells ∙ c.requires.cells (omega (arith, some, ap length cells, cells_length w bytes))

pub returns-clause-some : goal.returns-clause-some
returns-clause-some c e =
    let row = c.args.row.now in
    let bytes = c.args.bytes.now in
    let w = c.args.width in
    let widths : c.in-Plain.all ≡ w = search (rules, arith) in
    let some : 0 < length bytes = search (rules, arith) in
    let same : c.in-Plain.other.now ≡ bytes = search rules in
    let cells : lent_cells row ≡ plain_cells w bytes =
    ap cells_lent c.in-Plain.is ∙ (λ i. plain_cells (widths i) (same i)) in
    let there : 0 < length (lent_cells row) = omega (arith, some, ap length cells, cells_length w bytes) in
    omega (arith, there, ap length (c.requires.cells there))
