use Rattle.std.proofs.Common.{length, ◌<◌, arith}
use Rattle.nv_linedraw.specs.LineCells.{cells_of_line}
use Rattle.nv_linedraw.proofs.FirstLemmas.{all_from_few}
use Rattle.nv_linedraw.proofs.lines.cells.Goals as goal

pub returns : goal.returns
returns c =
    let xs = c.in_ok-cells.cells.items in
    let few : length xs < 18446744073709551615 = omega (arith, c.in_ok-cells.cells.small, c.in_ok-cells.cells.ok.0) in
    all_from_few 18446744073709551615 xs (cells_of_line c.args.width c.args.tabstop c.args.line.now c.args.spans.now c.args.looks.now)
    c.in_ok-cells.ensures few
