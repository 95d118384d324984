use Rattle.std.proofs.Common.{◌≡◌, ◌+◌, ◌-◌, ◌*◌, ◌/◌, ◌<◌, ◌≤◌, ◌++◌, ◌∙◌, ap, length, take, arith, rules}
use Rattle.nv_screen.specs.Drawing.{rows_of_cells}
use Rattle.nv_screen.specs.inside.Laying.{frame_cells, row_at}
use Rattle.nv_screen.proofs.TextLemmas.{cut_line, cut_rows, whole_line, whole_rows}
use Rattle.nv_screen.proofs.text.lay_line.Goals as goal

pub returns-then-count-room-clause-laid : goal.returns-then-count-room-clause-laid
returns-then-count-room-clause-laid g c = λ more none.
    let f = c.args.frame.now in
    let cells = c.in_ok-cells.cells.items in
    let is : cells ≡ take ((c.args.room + 1) * f.width) (frame_cells f c.args.line.now) = search rules in
    let many : c.args.room < length cells / f.width = search rules in
    cut_line c.args.canvas.now c.lay_cut_line.new.canvas (row_at f c.args.room) (row_at f 0) f.col f.width c.args.room f.looks.now
    (frame_cells f c.args.line.now) cells more none
    (cut_rows f.width f.tabstop f.looks.now c.args.room c.args.line.now cells more c.requires.wide is many) c.in_ok-lay_cut_line.ensures

pub returns-clause-laid : goal.returns-clause-laid
returns-clause-laid g c = λ more none.
    let f = c.args.frame.now in
    let cells = c.in_ok-cells.cells.items in
    let is : cells ≡ take ((c.args.room + 1) * f.width) (frame_cells f c.args.line.now) = search rules in
    let few : length cells / f.width ≤ c.args.room = search rules in
    let n = c.len.result / f.width in
    let count : length cells / f.width ≡ n = search rules in
    let less : n ≤ c.args.room = omega (arith, count, few) in
    let below : row_at f (c.args.room - n) ≡ row_at f c.args.room + n = omega (arith, less, c.requires.room) in
    whole_line c.args.canvas.now c.lay_whole_line.new.canvas (row_at f c.args.room) (row_at f (c.args.room - n)) f.col f.width c.args.room n f.looks.now
    (frame_cells f c.args.line.now) cells more
    (whole_rows f.width f.tabstop f.looks.now c.args.room c.args.line.now cells more c.requires.wide c.requires.stop is few
    ∙ ap (λ k. rows_of_cells k f.width cells ++ more (c.args.room - k)) count)
    below c.in_ok-lay_whole_line.ensures
