use Rattle.std.proofs.Common.{◌≡◌, ◌∙◌, arith, drop, rules, sym, true}
use Rattle.std.proofs.Math.ListN.{drop_of_length-le}
use Rattle.nv_painter.proofs.lent.same_blocks.Goals as goal

pub comparing-init : goal.comparing-init
comparing-init c =
    let a = c.args.a.now in
    let b = c.args.b.now in
    record {
      order = omega (arith, c.requires.from);
      within = omega arith;
      same = drop_of_length-le a (omega arith) ∙ sym (drop_of_length-le b (omega (arith, c.requires.count)));
    }

pub comparing-preserved : goal.comparing-preserved
comparing-preserved c =
    let answer : c.are_same_blocks.result ≡ true = search rules in
    record {
      order = omega (arith, c.comparing-test.true, c.comparing.invariant.order);
      within = omega (arith, c.comparing.invariant.within);
      same = c.are_same_blocks.ensures answer c.comparing.invariant.same;
    }
