use Rattle.std.proofs.Common.{◌≡◌, ◌==◌, true, [], length, take, sym, ap, ◌∙◌, arith, rules}
use Rattle.std.proofs.lemmas.Bool.Decides.{nat_tests}
use Rattle.std.proofs.lemmas.List.{nil_from_length}
use Rattle.nv_text.specs.Pieces.{pieces_of}
use Rattle.nv_linedraw.specs.LineCells.{cells_of_line}
use Rattle.nv_linedraw.proofs.FirstLemmas.{first_laid}
use Rattle.nv_linedraw.proofs.PlainLines.{cells_of_plain}
use Rattle.nv_linedraw.proofs.lines.first_cells.Goals as goal

pub returns-then-is_plain : goal.returns-then-is_plain
returns-then-is_plain c =
    let is_zero : (length c.args.spans.now == 0) ≡ true = sym c.if-is_empty.ensures in
    let none : [] ≡ c.args.spans.now = sym (nil_from_length c.args.spans.now (grind (arith, nat_tests, is_zero))) in
    c.in_ok-cells.ensures
    ∙ ap (take c.args.most) (sym (cells_of_plain c.args.width c.args.tabstop c.args.line.now c.args.looks.now c.requires.wide (c.is_plain.ensures c.if-is_plain.true)))
    ∙ ap (λ spans. take c.args.most (cells_of_line c.args.width c.args.tabstop c.args.line.now spans c.args.looks.now)) none

pub returns : goal.returns
returns c =
    let ps = c.as_slice.result.now in
    let is : ps ≡ take c.args.most (pieces_of c.args.line.now) = search rules in
    c.truncate.ensures.items
    ∙ first_laid _ c.args.most _ c.fill.new.flow.cells.items _ ps is c.in_ok-lay_pieces.ensures.laid (search rules) (search rules) (search rules)
