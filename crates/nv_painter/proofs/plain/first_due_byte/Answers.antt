use Rattle.std.proofs.Common.{◌≡◌, ◌∙◌, arith, false, rules, sym, true}
use Rattle.nv_linegrid.specs.Rows.{is_due}
use Rattle.nv_painter.specs.inside.Plain.{plain_shown}
use Rattle.nv_painter.proofs.LineLemmas.{first_due_none, first_due_step}
use Rattle.nv_painter.proofs.plain.first_due_byte.Goals as goal

pub loop-k-preserved : goal.loop-k-preserved
loop-k-preserved c width count =
    let old = c.args.row.now in
    let new = plain_shown width c.args.bytes.now in
    let answer : c.is_due_byte.result ≡ false = search rules in
    let no : is_due old new c.loop-k.k ≡ false = sym (c.is_due_byte.ensures width (omega (arith, count, c.loop-k-test.true))) ∙ answer in
    sym (first_due_step old new c.loop-k.k c.args.count false c.loop-k-test.true no) ∙ c.loop-k.invariant width count

pub returns-then-is_due_byte : goal.returns-then-is_due_byte
returns-then-is_due_byte c width count =
    let old = c.args.row.now in
    let new = plain_shown width c.args.bytes.now in
    let answer : c.is_due_byte.result ≡ true = search rules in
    let yes : is_due old new c.loop-k.k ≡ true = sym (c.is_due_byte.ensures width (omega (arith, count, c.loop-k-test.true))) ∙ answer in
    sym (first_due_step old new c.loop-k.k c.args.count true c.loop-k-test.true yes) ∙ c.loop-k.invariant width count

pub returns : goal.returns
returns c width count =
    let old = c.args.row.now in
    let new = plain_shown width c.args.bytes.now in
    let done : c.args.count ≡ c.loop-k.k = omega (arith, c.loop-k-test.false, c.loop-k.auto.k-end c.requires) in
    done ∙ sym (first_due_none old new c.loop-k.k c.args.count (omega (arith, done))) ∙ c.loop-k.invariant width count
