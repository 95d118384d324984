use Rattle.std.proofs.Common.{◌≡◌, ◌<◌, ◌^◌, ◌++◌, List, OnOk, Some, ap, length, map, subst, sym}
use Rattle.nv_hl.specs.declared.cell.Cell.{Cell}
use Rattle.nv_linegrid.specs.Rows.{line_of_row}
use Rattle.nv_linegrid.specs.Told.{shown_cell}
use Rattle.nv_painter.specs.inside.Due.{ShowsBut}
use Rattle.nv_painter.specs.inside.Lent.{cells_lent}
use Rattle.nv_painter.proofs.lines.push_due.Goals as goal

pub push_drawn-requires : goal.push_drawn-requires
push_drawn-requires c = subst (λ (l : List Cell). length l < 2 ^ 32) (ap cells_lent c.in-Drawn.is) c.requires

pub push_plain-requires : goal.push_plain-requires
push_plain-requires c = subst (λ (l : List Cell). length l < 2 ^ 32) (ap cells_lent c.in-Plain.is) c.requires

pub returns-in-Drawn-clause-events : goal.returns-in-Drawn-clause-events
returns-in-Drawn-clause-events c =
    let attrs = c.args.attrs.now in
    let row = c.args.row.now in
    let due = c.args.due in
    subst (λ (l : List Cell). OnOk c.push_drawn.result (ShowsBut attrs l row due.0 due.1 → c.push_drawn.new.events.items
    ≡ c.args.events.now.items ++ line_of_row c.args.number row (map (shown_cell attrs) l))) (sym (ap cells_lent c.in-Drawn.is))
    c.push_drawn.ensures.events

pub returns-in-Drawn-clause-row : goal.returns-in-Drawn-clause-row
returns-in-Drawn-clause-row c =
    let attrs = c.args.attrs.now in
    let due = c.args.due in
    subst (λ (l : List Cell). OnOk c.push_drawn.result (ShowsBut attrs l c.args.row.now due.0 due.1 → c.push_drawn.new.row
    ≡ map Some (map (shown_cell attrs) l))) (sym (ap cells_lent c.in-Drawn.is)) c.push_drawn.ensures.row
