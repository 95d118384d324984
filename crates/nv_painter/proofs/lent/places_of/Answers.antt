use Rattle.std.proofs.Common.{◌≡◌, ◌<◌, ◌∙◌, ap, arith, length, rules, sym}
use Rattle.nv_painter.specs.inside.Lent.{cells_lent, lent_cells, plain_cells}
use Rattle.nv_painter.proofs.LentLemmas.{places_are}
use Rattle.nv_painter.proofs.lent.places_of.Goals as goal

pub returns : goal.returns
returns c =
    let a = c.args.a.now in
    let b = c.args.b.now in
    let old = c.in-Plain.old.now in
    let new = c.in-Plain-cells.new.now in
    let w = c.in-Plain-cells.width in
    let widths : c.in-Plain.before ≡ w = search (rules, arith) in
    let cells_a : lent_cells a ≡ plain_cells w old = ap cells_lent c.in-Plain.is ∙ ap (λ n. plain_cells n old) widths in
    let cells_b : lent_cells b ≡ plain_cells w new = ap cells_lent c.in-Plain-cells.is in
    let in_old : length old < w = search (rules, arith) in
    let in_new : length new < w = search (rules, arith) in
    places_are a b w old new c.places_between.result.0 c.places_between.result.1 c.requires cells_a cells_b in_old in_new c.places_between.ensures
