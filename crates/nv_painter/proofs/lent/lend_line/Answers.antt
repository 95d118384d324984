use Rattle.std.proofs.Common.{◌+◌, ◌<◌, ◌∙◌, arith, length-set, refl}
use Rattle.std.proofs.lemmas.List.Elements.{All-set}
use Rattle.nv_painter.specs.inside.Lent.{IsOfLine, cells_lent, lent_content, row_of_key}
use Rattle.nv_painter.proofs.DueLemmas.{lent_step}
use Rattle.nv_painter.proofs.LentLemmas.{of_found}
use Rattle.nv_painter.proofs.lent.lend_line.Goals as goal

pub loop-k-preserved : goal.loop-k-preserved
loop-k-preserved c =
    let at = c.loop-k in
    let key = c.args.key in
    let lt : at.k < c.args.count = omega (arith, c.loop-k-test.true) in
    record {
      count = length-set at.rows.items (c.args.at + at.k) _ ∙ at.invariant.count;
      lent = λ screen all old. lent_step at.rows.items _ (row_of_key (lent_content key) at.k) (c.args.at + at.k) screen refl
          (all at.k lt) (at.invariant.lent screen all old);
      lines = λ found all. All-set IsOfLine at.rows.items (c.args.at + at.k) _
          (of_found _ key at.k (cells_lent c.args.cells) c.args.count c.requires.wide lt found refl refl c.lent_row_in.ensures) (at.invariant.lines found all);
    }
