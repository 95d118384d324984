use Rattle.std.proofs.Common.{◌≡◌, ◌+◌, ◌-◌, ◌∙◌, ap, arith, false, rules, sym, true}
use Rattle.nv_linegrid.specs.Rows.{end_due, is_due}
use Rattle.nv_painter.specs.inside.Plain.{plain_shown}
use Rattle.nv_painter.proofs.LineLemmas.{end_due_step}
use Rattle.nv_painter.proofs.plain.end_due_byte.Goals as goal

pub loop-k-preserved : goal.loop-k-preserved
loop-k-preserved c width le =
    let old = c.args.row.now in
    let new = plain_shown width c.args.bytes.now in
    let k = c.loop-k.k - 1 in
    let more : k + 1 ≡ c.loop-k.k = omega (arith, c.loop-k-test.true) in
    let answer : c.is_due_byte.result ≡ false = search rules in
    let no : is_due old new k ≡ false = sym (c.is_due_byte.ensures width (omega (arith, le, more, c.loop-k.auto.k))) ∙ answer in
    sym (end_due_step old new k false no) ∙ ap (end_due old new) more ∙ c.loop-k.invariant width le

pub returns-then-is_due_byte-clause-end : goal.returns-then-is_due_byte-clause-end
returns-then-is_due_byte-clause-end c width le =
    let old = c.args.row.now in
    let new = plain_shown width c.args.bytes.now in
    let k = c.loop-k.k - 1 in
    let more : k + 1 ≡ c.loop-k.k = omega (arith, c.loop-k-test.true) in
    let answer : c.is_due_byte.result ≡ true = search rules in
    let yes : is_due old new k ≡ true = sym (c.is_due_byte.ensures width (omega (arith, le, more, c.loop-k.auto.k))) ∙ answer in
    sym (end_due_step old new k true yes) ∙ ap (end_due old new) more ∙ c.loop-k.invariant width le

pub returns-clause-end : goal.returns-clause-end
returns-clause-end c width le =
    let none : 0 ≡ c.loop-k.k = omega (arith, c.loop-k-test.false) in
    ap (end_due c.args.row.now (plain_shown width c.args.bytes.now)) none ∙ c.loop-k.invariant width le
