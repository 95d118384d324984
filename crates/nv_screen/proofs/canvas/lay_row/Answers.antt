use Rattle.std.proofs.Common.{◌≡◌, ◌≤◌, ◌+◌, ◌-◌, [], ◌++◌, length, replicate, refl, sym, ap, ◌∙◌, arith, rules, length-append}
use Rattle.std.proofs.lemmas.List.{length-replicate, nil_from_length}
use Rattle.nv_hl.specs.Attributes.{empty_attr}
use Rattle.nv_hl.specs.Cells.{space, with_cells}
use Rattle.nv_screen.specs.inside.Laid.{whole_row}
use Rattle.nv_screen.proofs.CanvasLemmas.{appended, laid_in_whole, laid_width}
use Rattle.nv_screen.proofs.canvas.lay_row.Goals as goal

pub returns-then-col-eq0-clause-laid : goal.returns-then-col-eq0-clause-laid
returns-then-col-eq0-clause-laid c =
    let row = c.args.row.now in
    let w = c.args.width in
    let cells = c.args.cells.items in
    let spaced = row ++ replicate (c.args.col - length row) (space empty_attr) in
    let built : length row ≡ 0 = search (rules, arith) in
    let before : length row ≤ c.args.col = omega (arith, built) in
    let fits : c.args.col + length cells ≤ w = search (rules, arith) in
    let none : [] ≡ spaced = sym (nil_from_length spaced (omega (
      arith,
      built,
      c.if-col-eq0.true,
      length-append row (replicate (c.args.col - length row) (space empty_attr)),
      length-replicate (c.args.col - length row) (space empty_attr),
    ))) in
    ap (whole_row w) c.new.ensures ∙ appended w c.args.col row spaced cells cells before fits refl (ap (λ front. front ++ cells) none)

pub returns-then-len-width-2-clause-laid : goal.returns-then-len-width-2-clause-laid
returns-then-len-width-2-clause-laid c =
    let row = c.args.row.now in
    let w = c.args.width in
    let cells = c.args.cells.items in
    let before : length row ≤ c.args.col = search rules in
    let fits : c.args.col + length cells ≤ w = search (rules, arith) in
    let spaced : c.append_spaces.new.self ≡ row ++ replicate (c.args.col - length row) (space empty_attr) = search rules in
    let put : c.append.new.self ≡ c.append_spaces.new.self ++ cells = search rules in
    appended w c.args.col row c.append_spaces.new.self c.append.new.self cells before fits spaced put

pub returns : goal.returns
returns c =
    let row = c.args.row.now in
    let w = c.args.width in
    let cells = c.args.cells.items in
    let spaced : c.append_spaces-2.new.self ≡ row ++ replicate (w - length row) (space empty_attr) = search rules in
    let put : c.lay.new.self ≡ with_cells c.append_spaces-2.new.self c.args.col cells = search rules in
    record {
      laid = laid_in_whole w c.args.col row c.append_spaces-2.new.self c.lay.new.self cells c.requires.within spaced put;
      within = laid_width w c.args.col row c.append_spaces-2.new.self c.lay.new.self cells c.requires.within spaced put;
    }
