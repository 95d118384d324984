use Rattle.std.proofs.Common.{◌≡◌, ◌<◌, ◌++◌, ◌∙◌, [], ap, arith, length, get_or, length-set, refl, set, sym}
use Rattle.std.proofs.lemmas.List.{length-map, get_or_default}
use Rattle.nv_linegrid.specs.Rows.{lines_of_rows}
use Rattle.nv_linegrid.specs.Told.{shown_rows}
use Rattle.nv_painter.specs.inside.Lent.{lent_cells, lent_rows}
use Rattle.nv_painter.proofs.DueLemmas.{lent_at, told_step}
use Rattle.nv_painter.proofs.SketchLemmas.{rest_step}
use Rattle.nv_painter.proofs.lines.push_rows.Goals as goal

pub loop-k-preserved : goal.loop-k-preserved
loop-k-preserved c =
    let at = c.loop-k in
    let rows = at.rows.items in
    let first = c.args.rows.now.items in
    let attrs = c.args.attrs.now in
    let drawn = c.args.drawn.now in
    let row = c.push_row.new.row in
    let lent = get_or drawn at.k c.index-drawn-k.result in
    let old_is : c.index_mut.result.now ≡ get_or rows at.k [] =
    c.index_mut.ensures.value ∙ get_or_default rows at.k c.index_mut.result.now [] (omega (arith, c.loop-k-test.true, at.invariant.high)) in
    record {
      high = length-set rows at.k row ∙ at.invariant.high;
      rest = rest_step at.k first rows (set rows at.k row) row refl at.invariant.rest;
      told = λ screen s. told_step at.k c.args.dues.now c.due_at.result (lent_rows drawn) screen attrs first rows (set rows at.k row) c.index_mut.result.now row
          (lent_cells lent) at.events.items c.push_row.new.events.items (c.args.events.now.items ++ lines_of_rows 0 first (shown_rows attrs screen))
          (omega (arith, c.loop-k-test.true, length-map drawn lent_cells)) (at.invariant.high ∙ sym (length-map drawn lent_cells))
          c.due_at.ensures
          (lent_at drawn c.index-drawn-k.result at.k c.loop-k-test.true) old_is c.in_ok-push_row.ensures.row c.in_ok-push_row.ensures.events refl
          at.invariant.rest s (at.invariant.told screen s);
    }

pub push_row-requires : goal.push_row-requires
push_row-requires c =
    let at = c.loop-k in
    let drawn = c.args.drawn.now in
    let lt : at.k < length drawn = c.loop-k-test.true in
    omega (
      arith,
      ap length (lent_at drawn c.index-drawn-k.result at.k lt),
      c.requires.cells at.k [] (omega (arith, lt, length-map drawn lent_cells)),
    )
