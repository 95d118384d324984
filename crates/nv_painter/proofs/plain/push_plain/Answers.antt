use Rattle.std.proofs.Common.{◌≡◌, ◌<◌, ◌≤◌, ◌+◌, ◌-◌, ◌++◌, ◌∷◌, ◌∙◌, [], ℕ, List, Option, append-nil, ap, arith, drop, length, map, min, pos, rules, subst, sym, take}
use Rattle.nv_linegrid.specs.declared.event.Redraw.TheVariants.{LineOf}
use Rattle.nv_linegrid.specs.Client.{Shown}
use Rattle.nv_linegrid.specs.Rows.{end_due, first_due}
use Rattle.nv_linegrid.specs.Told.{shown_cell}
use Rattle.nv_painter.specs.inside.Lent.{plain_cells}
use Rattle.nv_painter.specs.inside.Plain.{plain_shown}
use Rattle.nv_painter.proofs.DueLemmas.{due_end, due_first, due_line, due_row, map-between, none_due_line, none_due_row}
use Rattle.nv_painter.proofs.PlainLemmas.{as_many, plain_shown_is}
use Rattle.nv_painter.proofs.plain.push_plain.Goals as goal

pub returns-then-first-end-clause-events : goal.returns-then-first-end-clause-events
returns-then-first-end-clause-events c attrs s =
    let w = c.args.width in
    let bytes = c.args.bytes.now in
    let cells = plain_cells w bytes in
    let row = c.args.row.now in
    let due = c.args.due in
    let first = c.first_due_byte-first.result in
    let end = c.end_due_byte-end.result in
    let start = c.one_before.result in
    let stop = c.one_behind.result in
    let same : plain_shown w bytes ≡ map (shown_cell attrs) cells = sym (plain_shown_is attrs w bytes) in
    let a : c.cells.result.now ≡ row = search rules in
    let b : c.cells-2.result.now ≡ row = search rules in
    let count : c.plain_count-count.result ≡ length cells = c.plain_count-count.ensures in
    let before : start ≡ min due.0 (length cells) - 1 = c.one_before.ensures ∙ ap (λ n. min due.0 n - 1) count in
    let behind : stop ≡ min (due.1 + 1) (length cells) = c.one_behind.ensures ∙ ap (λ n. min (due.1 + 1) n) count in
    let first_is = due_first attrs cells row due.0 due.1 start first s before
    (subst (λ (q : (List (Option Shown) × List Shown) × ℕ). first ≡ first_due q.0.0 q.0.1 (q.1 - start) start) (λ i. ((a i, same i), count i))
    (c.first_due_byte-first.ensures w (count ∙ as_many w bytes))) in
    let end_is = due_end attrs cells row due.0 due.1 stop end s behind
    (subst (λ (q : List (Option Shown) × List Shown). end ≡ end_due q.0 q.1 stop) (λ i. (b i, same i))
    (c.end_due_byte-end.ensures.end w (omega (arith, behind, as_many w bytes)))) in
    sym (append-nil c.args.events.now.items)
    ∙ ap (λ l. c.args.events.now.items ++ l) (sym (none_due_line c.args.number attrs cells row first end s.count first_is end_is c.if-first-end.true))

pub returns-then-first-end-clause-row : goal.returns-then-first-end-clause-row
returns-then-first-end-clause-row c attrs s =
    let w = c.args.width in
    let bytes = c.args.bytes.now in
    let cells = plain_cells w bytes in
    let row = c.args.row.now in
    let due = c.args.due in
    let first = c.first_due_byte-first.result in
    let end = c.end_due_byte-end.result in
    let start = c.one_before.result in
    let stop = c.one_behind.result in
    let same : plain_shown w bytes ≡ map (shown_cell attrs) cells = sym (plain_shown_is attrs w bytes) in
    let a : c.cells.result.now ≡ row = search rules in
    let b : c.cells-2.result.now ≡ row = search rules in
    let count : c.plain_count-count.result ≡ length cells = c.plain_count-count.ensures in
    let before : start ≡ min due.0 (length cells) - 1 = c.one_before.ensures ∙ ap (λ n. min due.0 n - 1) count in
    let behind : stop ≡ min (due.1 + 1) (length cells) = c.one_behind.ensures ∙ ap (λ n. min (due.1 + 1) n) count in
    let first_is = due_first attrs cells row due.0 due.1 start first s before
    (subst (λ (q : (List (Option Shown) × List Shown) × ℕ). first ≡ first_due q.0.0 q.0.1 (q.1 - start) start) (λ i. ((a i, same i), count i))
    (c.first_due_byte-first.ensures w (count ∙ as_many w bytes))) in
    let end_is = due_end attrs cells row due.0 due.1 stop end s behind
    (subst (λ (q : List (Option Shown) × List Shown). end ≡ end_due q.0 q.1 stop) (λ i. (b i, same i))
    (c.end_due_byte-end.ensures.end w (omega (arith, behind, as_many w bytes)))) in
    none_due_row c.args.number attrs cells row first end s.count first_is end_is c.if-first-end.true

pub returns-clause-events : goal.returns-clause-events
returns-clause-events c attrs s =
    let w = c.args.width in
    let bytes = c.args.bytes.now in
    let cells = plain_cells w bytes in
    let row = c.args.row.now in
    let due = c.args.due in
    let first = c.first_due_byte-first.result in
    let end = c.end_due_byte-end.result in
    let start = c.one_before.result in
    let stop = c.one_behind.result in
    let same : plain_shown w bytes ≡ map (shown_cell attrs) cells = sym (plain_shown_is attrs w bytes) in
    let a : c.cells.result.now ≡ row = search rules in
    let b : c.cells-2.result.now ≡ row = search rules in
    let count : c.plain_count-count.result ≡ length cells = c.plain_count-count.ensures in
    let before : start ≡ min due.0 (length cells) - 1 = c.one_before.ensures ∙ ap (λ n. min due.0 n - 1) count in
    let behind : stop ≡ min (due.1 + 1) (length cells) = c.one_behind.ensures ∙ ap (λ n. min (due.1 + 1) n) count in
    let first_is = due_first attrs cells row due.0 due.1 start first s before
    (subst (λ (q : (List (Option Shown) × List Shown) × ℕ). first ≡ first_due q.0.0 q.0.1 (q.1 - start) start) (λ i. ((a i, same i), count i))
    (c.first_due_byte-first.ensures w (count ∙ as_many w bytes))) in
    let end_is = due_end attrs cells row due.0 due.1 stop end s behind
    (subst (λ (q : List (Option Shown) × List Shown). end ≡ end_due q.0 q.1 stop) (λ i. (b i, same i))
    (c.end_due_byte-end.ensures.end w (omega (arith, behind, as_many w bytes)))) in
    let lt : first < end = omega (arith, c.if-first-end.false) in
    let within : end ≤ length cells = omega (arith, c.end_due_byte-end.ensures.within, behind) in
    let shown = take (end - first) (drop first (plain_shown w bytes)) in
    let is : shown ≡ map (shown_cell attrs) (take (end - first) (drop first cells)) =
    ap (λ l. take (end - first) (drop first l)) same ∙ sym (map-between attrs cells (end - first) first) in
    c.in_ok-push_runs.ensures
    ∙ ap (λ r. c.args.events.now.items ++ LineOf (pos 1) c.args.number first r ∷ []) (c.in_ok-runs.ensures w (omega (arith, within, as_many w bytes)))
    ∙ ap (λ l. c.args.events.now.items ++ l) (sym (due_line c.args.number attrs cells row first end s.count first_is end_is shown is lt))

pub returns-clause-row : goal.returns-clause-row
returns-clause-row c attrs s =
    let w = c.args.width in
    let bytes = c.args.bytes.now in
    let cells = plain_cells w bytes in
    let row = c.args.row.now in
    let due = c.args.due in
    let first = c.first_due_byte-first.result in
    let end = c.end_due_byte-end.result in
    let start = c.one_before.result in
    let stop = c.one_behind.result in
    let same : plain_shown w bytes ≡ map (shown_cell attrs) cells = sym (plain_shown_is attrs w bytes) in
    let a : c.cells.result.now ≡ row = search rules in
    let b : c.cells-2.result.now ≡ row = search rules in
    let count : c.plain_count-count.result ≡ length cells = c.plain_count-count.ensures in
    let before : start ≡ min due.0 (length cells) - 1 = c.one_before.ensures ∙ ap (λ n. min due.0 n - 1) count in
    let behind : stop ≡ min (due.1 + 1) (length cells) = c.one_behind.ensures ∙ ap (λ n. min (due.1 + 1) n) count in
    let first_is = due_first attrs cells row due.0 due.1 start first s before
    (subst (λ (q : (List (Option Shown) × List Shown) × ℕ). first ≡ first_due q.0.0 q.0.1 (q.1 - start) start) (λ i. ((a i, same i), count i))
    (c.first_due_byte-first.ensures w (count ∙ as_many w bytes))) in
    let end_is = due_end attrs cells row due.0 due.1 stop end s behind
    (subst (λ (q : List (Option Shown) × List Shown). end ≡ end_due q.0 q.1 stop) (λ i. (b i, same i))
    (c.end_due_byte-end.ensures.end w (omega (arith, behind, as_many w bytes)))) in
    let lt : first < end = omega (arith, c.if-first-end.false) in
    let within : end ≤ length cells = omega (arith, c.end_due_byte-end.ensures.within, behind) in
    let shown = take (end - first) (drop first (plain_shown w bytes)) in
    let is : shown ≡ map (shown_cell attrs) (take (end - first) (drop first cells)) =
    ap (λ l. take (end - first) (drop first l)) same ∙ sym (map-between attrs cells (end - first) first) in
    c.put_bytes.ensures w (omega (arith, within, as_many w bytes)) (omega (arith, within, s.count))
    ∙ due_row c.args.number attrs cells row first end s.count first_is end_is shown is lt
