use Rattle.std.proofs.Common.{◌≡◌, Some, arith, rules, true}
use Rattle.nv_painter.specs.Keys.{same_line_key}
use Rattle.nv_painter.specs.inside.Lent.{lent_content}
use Rattle.nv_painter.proofs.LentLemmas.{has_cells, same_rows}
use Rattle.nv_painter.proofs.lent.is_same_of_line.Goals as goal

pub returns-clause-same : goal.returns-clause-same
returns-clause-same c e =
    let a = c.args.a.now in
    let b = c.args.b.now in
    let old = c.in-Some.old in
    let new = c.in-Some-line.new in
    let is_a : a.line ≡ Some old = search rules in
    let is_b : b.line ≡ Some new = search rules in
    let numbers : a.number ≡ b.number = search (rules, arith) in
    let same : same_line_key (lent_content old) (lent_content new) ≡ true = search rules in
    same_rows a b old new is_a is_b numbers same

pub returns-clause-some : goal.returns-clause-some
returns-clause-some c e =
    let b = c.args.b.now in
    let new = c.in-Some-line.new in
    let is_b : b.line ≡ Some new = search rules in
    has_cells b new c.requires is_b
