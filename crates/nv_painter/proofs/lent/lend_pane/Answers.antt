use Rattle.std.proofs.Common.{◌≡◌, ◌≤◌, ◌+◌, ◌-◌, ◌*◌, ◌∙◌, ◌/◌, take, ◌∷◌, [], sym, ap, drop, get_or, length, rules, arith}
use Rattle.std.proofs.lemmas.List.{drop_more}
use Rattle.nv_screen.specs.Drawing.{pane_rows, scene_cells}
use Rattle.nv_painter.specs.Keys.{LineKey, cells_of_key}
use Rattle.nv_painter.specs.inside.Lent.{IsFound, cells_lent, lent_content}
use Rattle.nv_painter.proofs.LentLemmas.{line_rows_are, rows_below_are}
use Rattle.nv_painter.proofs.lent.lend_pane.Goals as goal

pub loop-line-preserved : goal.loop-line-preserved
loop-line-preserved c =
    let at = c.loop-line in
    let p = c.args.pane.now in
    let w = p.rect.width in
    let looks = c.args.looks.now in
    let lines = c.as_slice-line-items.result.now in
    let k = at.line-index in
    let room = at.room in
    let line = c.line-item.result in
    let key = c.lent_key-key.result in
    let n = c.in-Some.count in
    let cells = cells_of_key (lent_content key) in
    let fits : n ≤ room = omega (arith, c.if-count-room.false) in
    let found : IsFound (lent_content key) (cells_lent c.in-Some.cells) n = search rules in
    let is : cells ≡ scene_cells w p.tabstop looks line = ap cells_of_key c.lent_key-key.ensures in
    let split : drop k lines ≡ line ∷ drop (k + 1) lines =
    drop_more lines k line c.loop-line-test.true ∙ ap (λ l. l ∷ drop (k + 1) lines) (sym c.line-item.is) in
    let rest = drop (k + 1) lines in
    let width_is : key.width ≡ w = ap (λ (k : LineKey). k.width) c.lent_key-key.ensures in
    let count : n ≡ length cells / w = found.rows ∙ ap (λ m. length cells / m) width_is in
    record {
      count = c.lend_line.ensures.count ∙ at.invariant.count;
      room = omega (arith, at.invariant.room);
      left = rows_below_are w p.tabstop looks p.rect.height room n line rest (drop k lines) cells (pane_rows looks p) split is count fits
          at.invariant.room at.invariant.left;
      lent = λ screen all old. c.lend_line.ensures.lent screen
          (λ j lt. (λ i. take (width_is i) (drop (j * width_is i) cells))
          ∙ line_rows_are w p.tabstop looks p.rect.height room n line rest (drop k lines) cells (pane_rows looks p) split is count fits
          at.invariant.room at.invariant.left j lt
          ∙ all (p.rect.height - room + j) (omega (arith, lt, fits, at.invariant.room))
          ∙ ap (λ i. get_or screen i []) (omega arith))
          (at.invariant.lent screen all old);
      lines = λ all. c.lend_line.ensures.lines found (at.invariant.lines all);
    }
