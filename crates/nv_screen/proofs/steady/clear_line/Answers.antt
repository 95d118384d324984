use Rattle.std.proofs.Common.{◌≡◌, ◌∙◌, ◌+◌, ◌-◌, sym, ap, min, refl, rules, arith}
use Rattle.nv_linedraw.specs.LineCells.{rows_of_line}
use Rattle.nv_screen.specs.inside.Steadiness.{AreSameLines}
use Rattle.nv_screen.proofs.SteadyLemmas.{line_step, true_false}
use Rattle.nv_screen.proofs.steady.clear_line.Goals as goal

pub returns-then-are_same_lines-clause-same : goal.returns-then-are_same_lines-clause-same
returns-then-are_same_lines-clause-same c r flag ls ms rest =
    let p = c.args.pane.now in
    let w = p.rect.width in let t = p.tabstop in
    let room = c.args.room in
    let rows = c.in_ok-rows.rows in
    let old = c.args.old.now in let new = c.args.new.now in
    let s : AreSameLines old new = c.are_same_lines.ensures c.if-are_same_lines.true in
    let of_new : rows ≡ min room (rows_of_line w t new.bytes) = search rules in
    let of_old : rows ≡ min room (rows_of_line w t old.bytes) = of_new ∙ ap (λ b. min room (rows_of_line w t b)) (sym s.bytes) in
    let at = p.rect.row + (p.rect.height - room) in
    let next = p.rect.row + (p.rect.height - (room - rows)) in
    let next_is : next ≡ at + rows = omega (arith, c.requires.room, of_new) in
    line_step w t c.requires.drawable.0 c.requires.drawable.1 at room rows (room - rows) next old new ls ms r of_old of_new refl next_is (λ le lt. s) rest

pub returns-clause-same : goal.returns-clause-same
returns-clause-same c r flag ls ms rest =
    let p = c.args.pane.now in
    let w = p.rect.width in let t = p.tabstop in
    let room = c.args.room in
    let rows = c.in_ok-rows.rows in
    let old = c.args.old.now in let new = c.args.new.now in
    let of_new : rows ≡ min room (rows_of_line w t new.bytes) = search rules in
    let before : c.in_ok-before.before ≡ min room (rows_of_line w t old.bytes) = search rules in
    let of_old : rows ≡ min room (rows_of_line w t old.bytes) = omega (arith, before, c.if-before-rows.false) in
    let at = p.rect.row + (p.rect.height - room) in
    let next = p.rect.row + (p.rect.height - (room - rows)) in
    let next_is : next ≡ at + rows = omega (arith, c.requires.room, of_new) in
    line_step w t c.requires.drawable.0 c.requires.drawable.1 at room rows (room - rows) next old new ls ms r of_old of_new refl next_is
    (λ le lt. absurd (true_false _ flag (c.clear_rows-2.ensures.cleared r le lt))) rest
