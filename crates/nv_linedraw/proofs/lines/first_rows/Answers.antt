use Rattle.std.proofs.Common.{◌/◌, [], min, sym, ap, ◌∙◌}
use Rattle.nv_linedraw.specs.LineCells.{cells_of_line, no_looks}
use Rattle.nv_linedraw.proofs.PlainLines.{rows_of_plain}
use Rattle.nv_linedraw.proofs.RowLemmas.{rows_among}
use Rattle.nv_linedraw.proofs.lines.first_rows.Goals as goal

pub returns-then-is_plain : goal.returns-then-is_plain
returns-then-is_plain c =
    c.plain_rows.ensures
    ∙ ap (min c.args.most) (sym (rows_of_plain c.args.width c.args.tabstop c.args.line.now c.requires.wide (c.is_plain.ensures c.if-is_plain.true)))

pub returns : goal.returns
returns c =
    ap (λ n. n / c.args.width) (c.len.ensures ∙ c.in_ok-cells.cells.ok.0)
    ∙ rows_among c.args.width c.args.most c.in_ok-cells.cells.items (cells_of_line c.args.width c.args.tabstop c.args.line.now [] no_looks)
    c.requires.wide c.in_ok-cells.ensures
