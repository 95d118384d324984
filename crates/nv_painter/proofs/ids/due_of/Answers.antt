use Rattle.std.proofs.Common.{◌≡◌, ◌∙◌, ℕ, IfSome, List, Option, ap, false, length, rules, subst, sym}
use Rattle.nv_hl.specs.declared.cell.Cell.{Cell}
use Rattle.nv_painter.specs.inside.Due.{IsDue, ShowsBut}
use Rattle.nv_painter.specs.inside.Lent.{cells_lent, plain_cells}
use Rattle.nv_painter.proofs.ids.due_of.Goals as goal

pub due_in-requires : goal.due_in-requires
due_in-requires c =
    subst (λ (l : List Cell). IfSome c.args.known (λ d. ShowsBut c.args.attrs.now l c.args.row.now d.0 d.1)) (ap cells_lent c.in-Drawn.is) c.requires

pub returns-in-Drawn : goal.returns-in-Drawn
returns-in-Drawn c screen drawn shown long =
    let attrs = c.args.attrs.now in
    let row = c.args.row.now in
    let cells = c.in-Drawn.cells.now in
    let bare : c.args.is_shown ≡ false = search rules in
    let is : cells_lent c.args.cells ≡ cells = ap cells_lent c.in-Drawn.is in
    let same : cells ≡ screen = sym is ∙ drawn bare in
    subst (λ (q : List Cell × List Cell). IsDue c.due_in.result attrs q.0 q.1 row) (λ i. (sym is i, same i))
    (c.due_in.ensures (long ∙ sym (ap length same)))

pub returns-in-Plain : goal.returns-in-Plain
returns-in-Plain c screen drawn shown long =
    let attrs = c.args.attrs.now in
    let row = c.args.row.now in
    let cells = cells_lent c.args.cells in
    let bare : c.args.is_shown ≡ false = search rules in
    let is : cells ≡ plain_cells c.in-Plain.width c.in-Plain.bytes.now = ap cells_lent c.in-Plain.is in
    let same : cells ≡ screen = drawn bare in
    subst (λ (l : List Cell). IsDue c.due_within.result attrs cells l row) same
    (c.due_within.ensures attrs cells row (c.plain_count.ensures ∙ sym (ap length is)) (long ∙ sym (ap length same)) c.requires)
