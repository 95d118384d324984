use Rattle.std.proofs.Common.{◌≡◌, ◌<◌, ◌∙◌, List, length, ap, sym, arith, rules}
use Rattle.std.specs.Map.{keys_of}
use Rattle.lru.specs.LruCache.{LruCache}
use Rattle.nv_hl.specs.declared.cell.Cell.{Cell}
use Rattle.nv_linedraw.proofs.FirstLemmas.{all_from_few}
use Rattle.nv_screen.specs.Drawing.{pane_cells}
use Rattle.nv_painter.specs.Keys.{LineKey, cells_of_key, key_of_line, most_cells}
use Rattle.nv_painter.proofs.KeptLemmas.{many_cells, rows_by_cells, too_many}
use Rattle.nv_painter.proofs.kept.keep_line.Goals as goal

pub returns-in-Some-clause-rows : goal.returns-in-Some-clause-rows
returns-in-Some-clause-rows c =
    let p = c.args.pane.now in
    let is : c.in-Some.count ≡ length (pane_cells p c.args.looks.now c.args.line.now) =
    c.in-Some.ensures.found.0 ∙ ap (λ k. length (cells_of_key k)) c.lent_key-key.ensures in
    c.rows_of.ensures ∙ rows_by_cells p c.args.looks.now c.args.line.now c.in-Some.count c.requires.drawable is

pub put-requires-clause-cells : goal.put-requires-clause-cells
put-requires-clause-cells c =
    let cells = c.in_ok-cells.cells.items in
    let few : length cells < 2001 = search (rules, arith) in
    all_from_few 2001 cells (pane_cells c.args.pane.now c.args.looks.now c.args.line.now) c.in_ok-cells.ensures few ∙ ap cells_of_key (sym c.in_ok-key.ensures)

pub returns-clause-rows : goal.returns-clause-rows
returns-clause-rows c =
    let p = c.args.pane.now in
    let cells = c.in_ok-cells.cells.items in
    let all = pane_cells p c.args.looks.now c.args.line.now in
    let few : length cells < 2001 = search (rules, arith) in
    let is : c.len-count.result ≡ length all = c.len-count.ensures ∙ c.in_ok-cells.cells.ok.0 ∙ ap length (all_from_few 2001 cells all c.in_ok-cells.ensures few) in
    c.rows_of-2.ensures ∙ rows_by_cells p c.args.looks.now c.args.line.now c.len-count.result c.requires.drawable is

pub returns-then-count-gt-MOST_CELLS-clause-keys : goal.returns-then-count-gt-MOST_CELLS-clause-keys
returns-then-count-gt-MOST_CELLS-clause-keys c =
    let p = c.args.pane.now in
    let cells = c.in_ok-cells.cells.items in
    let all = pane_cells p c.args.looks.now c.args.line.now in
    let many : most_cells < length cells = search (rules, arith) in
    ap (λ (d : LruCache LineKey (List Cell)). keys_of d.entries) c.in_default.ensures.found.0
    ∙ too_many (key_of_line p.rect.width p.tabstop c.args.looks.now c.args.line.now) (keys_of c.args.cache.now.entries)
    (many_cells cells all c.in_ok-cells.ensures many)
