use Rattle.std.proofs.Common.{◌≡◌, ◌∙◌, false, length, map, sym, rules, true}
use Rattle.nv_linegrid.specs.Rows.{is_due}
use Rattle.nv_linegrid.specs.Told.{shown_cell}
use Rattle.nv_painter.proofs.LineLemmas.{first_due_step}
use Rattle.nv_painter.proofs.lines.first_due.Goals as goal

pub loop-k-preserved : goal.loop-k-preserved
loop-k-preserved c =
    let old = c.args.old.now in
    let new = map (shown_cell c.args.attrs.now) c.args.cells.now in
    let no : is_due old new c.loop-k.k ≡ false = search rules in
    sym (first_due_step old new c.loop-k.k (length c.args.cells.now) false c.loop-k-test.true no) ∙ c.loop-k.invariant

pub returns-then-is_due : goal.returns-then-is_due
returns-then-is_due c =
    let old = c.args.old.now in
    let new = map (shown_cell c.args.attrs.now) c.args.cells.now in
    let yes : is_due old new c.loop-k.k ≡ true = search rules in
    sym (first_due_step old new c.loop-k.k (length c.args.cells.now) true c.loop-k-test.true yes) ∙ c.loop-k.invariant
