use Rattle.std.proofs.Common.{ℕ, ◌++◌, ◌∙◌, List, Option, Some, append-nil, ap, map, subst, sym}
use Rattle.nv_hl.specs.declared.cell.Cell.{Cell}
use Rattle.nv_linegrid.specs.Rows.{line_of_row}
use Rattle.nv_linegrid.specs.Told.{shown_cell}
use Rattle.nv_painter.specs.inside.Due.{IsDue, ShowsBut}
use Rattle.nv_painter.specs.inside.Lent.{cells_lent}
use Rattle.nv_painter.proofs.LineLemmas.{shown_has_no_line}
use Rattle.nv_painter.proofs.lines.push_row.Goals as goal

pub returns-in_default-clause-events : goal.returns-in_default-clause-events
returns-in_default-clause-events c screen s =
    let attrs = c.args.attrs.now in
    let row = c.args.row.now in
    let known = subst (λ (o : Option (ℕ × ℕ)). IsDue o attrs (cells_lent c.args.cells) screen row) c.in_default.is s in
    sym (append-nil c.args.events.now.items)
    ∙ ap (λ l. c.args.events.now.items ++ l) (sym (shown_has_no_line c.args.number row (map (shown_cell attrs) screen) known.row_is))

pub returns-in_default-clause-row : goal.returns-in_default-clause-row
returns-in_default-clause-row c screen s =
    let attrs = c.args.attrs.now in
    let row = c.args.row.now in
    let known = subst (λ (o : Option (ℕ × ℕ)). IsDue o attrs (cells_lent c.args.cells) screen row) c.in_default.is s in
    known.row_is

pub returns-clause-events : goal.returns-clause-events
returns-clause-events c screen s =
    let attrs = c.args.attrs.now in
    let row = c.args.row.now in
    let cells = cells_lent c.args.cells in
    let due = c.in-Some.due in
    let known = subst (λ (o : Option (ℕ × ℕ)). IsDue o attrs cells screen row) c.in-Some.is s in
    let but = subst (λ (l : List Cell). ShowsBut attrs l row due.0 due.1) (sym known.0) known.1 in
    c.in_ok-push_due.ensures.events but
    ∙ ap (λ l. c.args.events.now.items ++ line_of_row c.args.number row (map (shown_cell attrs) l)) known.0

pub returns-clause-row : goal.returns-clause-row
returns-clause-row c screen s =
    let attrs = c.args.attrs.now in
    let row = c.args.row.now in
    let cells = cells_lent c.args.cells in
    let due = c.in-Some.due in
    let known = subst (λ (o : Option (ℕ × ℕ)). IsDue o attrs cells screen row) c.in-Some.is s in
    let but = subst (λ (l : List Cell). ShowsBut attrs l row due.0 due.1) (sym known.0) known.1 in
    c.in_ok-push_due.ensures.row but ∙ ap (λ l. map Some (map (shown_cell attrs) l)) known.0
