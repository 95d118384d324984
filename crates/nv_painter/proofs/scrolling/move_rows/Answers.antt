use Rattle.std.proofs.Common.{◌≡◌, ◌∙◌, ap, subst, sym}
use Rattle.nv_linegrid.specs.Scrolls.{Shift, rows_after_shift}
use Rattle.nv_painter.specs.inside.Moving.{AreWide, rows_up}
use Rattle.nv_painter.proofs.MovedLemmas.{moved_down, moved_up, on_ok_then}
use Rattle.nv_painter.proofs.scrolling.move_rows.Goals as goal

pub returns-then-shift : goal.returns-then-shift
returns-then-shift c =
    let s = c.shift.inside in
    let shift : Shift = record { top = s.top; bot = s.bot; left = s.left; right = s.right; rows = rows_up s.rows s.is_down } in
    let is : c.args.shift.now ≡ shift = sym c.shift.view_is in
    let rows = c.args.rows.now in
    let wide = subst (λ (m : Shift). AreWide rows m.right) is c.requires.wide in
    on_ok_then c.forget_rows.result
    (λ f. moved_down shift rows c.turn_rows.new.rows c.forget_rows.new.rows s.rows c.min-top.result c.min-end.result c.min-count.result
    (sym (ap (λ (m : Shift). m.left) is) ∙ c.requires.left) wide (ap (rows_up s.rows) c.if-shift.true) c.min-end.ensures c.min-top.ensures c.min-count.ensures
    c.turn_rows.ensures f
    ∙ ap (λ m. rows_after_shift m rows) (sym is))
    c.forget_rows.ensures

pub returns-else-shift : goal.returns-else-shift
returns-else-shift c =
    let s = c.shift.inside in
    let shift : Shift = record { top = s.top; bot = s.bot; left = s.left; right = s.right; rows = rows_up s.rows s.is_down } in
    let is : c.args.shift.now ≡ shift = sym c.shift.view_is in
    let rows = c.args.rows.now in
    let wide = subst (λ (m : Shift). AreWide rows m.right) is c.requires.wide in
    on_ok_then c.forget_rows-else-shift.result
    (λ f. moved_up shift rows c.turn_rows-else-shift.new.rows c.forget_rows-else-shift.new.rows s.rows c.min-top.result c.min-end.result c.min-count.result
    (sym (ap (λ (m : Shift). m.left) is) ∙ c.requires.left) wide (ap (rows_up s.rows) c.if-shift.false) c.min-end.ensures c.min-top.ensures c.min-count.ensures
    c.turn_rows-else-shift.ensures f
    ∙ ap (λ m. rows_after_shift m rows) (sym is))
    c.forget_rows-else-shift.ensures
