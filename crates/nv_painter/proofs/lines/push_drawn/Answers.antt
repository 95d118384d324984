use Rattle.std.proofs.Common.{◌≡◌, ◌<◌, ◌≤◌, ◌+◌, ◌-◌, ◌++◌, ◌∙◌, append-nil, ap, arith, drop, length, map, min, rules, subst, sym, take}
use Rattle.std.proofs.lemmas.List.{length-map, length-drop, length-take-le}
use Rattle.nv_linegrid.specs.Rows.{end_due, first_due}
use Rattle.nv_linegrid.specs.Told.{shown_cell}
use Rattle.nv_painter.proofs.DueLemmas.{due_end, due_first, due_line, due_row, none_due_line, none_due_row}
use Rattle.nv_painter.proofs.lines.push_drawn.Goals as goal

pub returns-then-first-end-clause-events : goal.returns-then-first-end-clause-events
returns-then-first-end-clause-events c s =
    let cells = c.args.cells.now in
    let attrs = c.args.attrs.now in
    let row = c.args.row.now in
    let due = c.args.due in
    let first = c.first_due-first.result in
    let end = c.end_due-end.result in
    let new = map (shown_cell attrs) cells in
    let a : c.cells.result.now ≡ row = search rules in
    let b : c.cells-2.result.now ≡ row = search rules in
    let before : c.one_before.result ≡ min due.0 (length cells) - 1 = search rules in
    let behind : c.one_behind.result ≡ min (due.1 + 1) (length cells) = search rules in
    let first_is = due_first attrs cells row due.0 due.1 c.one_before.result first s before
    (subst (λ r. first ≡ first_due r new (length cells - c.one_before.result) c.one_before.result) a c.first_due-first.ensures) in
    let end_is = due_end attrs cells row due.0 due.1 c.one_behind.result end s behind
    (subst (λ r. end ≡ end_due r new c.one_behind.result) b c.end_due-end.ensures.end) in
    sym (append-nil c.args.events.now.items)
    ∙ ap (λ l. c.args.events.now.items ++ l) (sym (none_due_line c.args.number attrs cells row first end s.count first_is end_is c.if-first-end.true))

pub returns-then-first-end-clause-row : goal.returns-then-first-end-clause-row
returns-then-first-end-clause-row c s =
    let cells = c.args.cells.now in
    let attrs = c.args.attrs.now in
    let row = c.args.row.now in
    let due = c.args.due in
    let first = c.first_due-first.result in
    let end = c.end_due-end.result in
    let new = map (shown_cell attrs) cells in
    let a : c.cells.result.now ≡ row = search rules in
    let b : c.cells-2.result.now ≡ row = search rules in
    let before : c.one_before.result ≡ min due.0 (length cells) - 1 = search rules in
    let behind : c.one_behind.result ≡ min (due.1 + 1) (length cells) = search rules in
    let first_is = due_first attrs cells row due.0 due.1 c.one_before.result first s before
    (subst (λ r. first ≡ first_due r new (length cells - c.one_before.result) c.one_before.result) a c.first_due-first.ensures) in
    let end_is = due_end attrs cells row due.0 due.1 c.one_behind.result end s behind
    (subst (λ r. end ≡ end_due r new c.one_behind.result) b c.end_due-end.ensures.end) in
    none_due_row c.args.number attrs cells row first end s.count first_is end_is c.if-first-end.true

pub returns-clause-events : goal.returns-clause-events
returns-clause-events c s =
    let cells = c.args.cells.now in
    let attrs = c.args.attrs.now in
    let row = c.args.row.now in
    let due = c.args.due in
    let first = c.first_due-first.result in
    let end = c.end_due-end.result in
    let new = map (shown_cell attrs) cells in
    let a : c.cells.result.now ≡ row = search rules in
    let b : c.cells-2.result.now ≡ row = search rules in
    let before : c.one_before.result ≡ min due.0 (length cells) - 1 = search rules in
    let behind : c.one_behind.result ≡ min (due.1 + 1) (length cells) = search rules in
    let first_is = due_first attrs cells row due.0 due.1 c.one_before.result first s before
    (subst (λ r. first ≡ first_due r new (length cells - c.one_before.result) c.one_before.result) a c.first_due-first.ensures) in
    let end_is = due_end attrs cells row due.0 due.1 c.one_behind.result end s behind
    (subst (λ r. end ≡ end_due r new c.one_behind.result) b c.end_due-end.ensures.end) in
    let lt : first < end = omega (arith, c.if-first-end.false) in
    let shown : c.as_slice.result.now ≡ map (shown_cell attrs) (take (end - first) (drop first cells)) = search rules in
    c.in_ok-push_line.ensures
    ∙ ap (λ l. c.args.events.now.items ++ l) (sym (due_line c.args.number attrs cells row first end s.count first_is end_is c.as_slice.result.now shown lt))

pub returns-clause-row : goal.returns-clause-row
returns-clause-row c s =
    let cells = c.args.cells.now in
    let attrs = c.args.attrs.now in
    let row = c.args.row.now in
    let due = c.args.due in
    let first = c.first_due-first.result in
    let end = c.end_due-end.result in
    let new = map (shown_cell attrs) cells in
    let a : c.cells.result.now ≡ row = search rules in
    let b : c.cells-2.result.now ≡ row = search rules in
    let before : c.one_before.result ≡ min due.0 (length cells) - 1 = search rules in
    let behind : c.one_behind.result ≡ min (due.1 + 1) (length cells) = search rules in
    let first_is = due_first attrs cells row due.0 due.1 c.one_before.result first s before
    (subst (λ r. first ≡ first_due r new (length cells - c.one_before.result) c.one_before.result) a c.first_due-first.ensures) in
    let end_is = due_end attrs cells row due.0 due.1 c.one_behind.result end s behind
    (subst (λ r. end ≡ end_due r new c.one_behind.result) b c.end_due-end.ensures.end) in
    let lt : first < end = omega (arith, c.if-first-end.false) in
    let shown : c.as_slice.result.now ≡ map (shown_cell attrs) (take (end - first) (drop first cells)) = search rules in
    let is : c.in_ok-shown.shown.items ≡ map (shown_cell attrs) (take (end - first) (drop first cells)) = search rules in
    let within : end ≤ length cells = omega (arith, c.end_due-end.ensures.within, behind) in
    let long : length c.in_ok-shown.shown.items ≡ end - first =
    ap length is ∙ length-map (take (end - first) (drop first cells)) (shown_cell attrs)
    ∙ length-take-le (end - first) (drop first cells) (omega (arith, within, length-drop first cells)) in
    c.put.ensures (omega (arith, long, within, lt, s.count))
    ∙ due_row c.args.number attrs cells row first end s.count first_is end_is c.in_ok-shown.shown.items is lt
