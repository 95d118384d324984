use Rattle.std.proofs.Common.{◌≡◌, ◌++◌, ◌-◌, length, map, min, replicate, take, ◌∙◌, rules, arith}
use Rattle.nv_hl.specs.Attributes.{empty_attr}
use Rattle.nv_hl.specs.Cells.{space}
use Rattle.nv_linedraw.specs.inside.Plain.{byte_cell, plain_filling}
use Rattle.nv_linedraw.proofs.PlainLines.{front_of_plain, whole_of_plain}
use Rattle.nv_linedraw.proofs.lines.plain_cells.Goals as goal

pub returns-then-most-count : goal.returns-then-most-count
returns-then-most-count c =
    let put : c.put_plain.new.cells.items ≡ map byte_cell (take c.args.most c.args.line.now) = search rules in
    put ∙ front_of_plain c.args.width c.args.most c.args.line.now (omega (arith, c.if-most-count.true))

pub returns : goal.returns
returns c =
    let blanks = min (plain_filling c.args.width (length c.args.line.now)) (c.args.most - length c.args.line.now) in
    let put : c.put_spaces.new.cells.items ≡ map byte_cell c.args.line.now ++ replicate blanks (space empty_attr) = search rules in
    put ∙ whole_of_plain c.args.width c.args.most c.args.line.now (omega (arith, c.if-most-count.false))
