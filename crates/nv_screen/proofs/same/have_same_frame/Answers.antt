use Rattle.std.proofs.Common.{◌≡◌, ◌∙◌, sym, length, rules, arith}
use Rattle.nv_screen.proofs.SteadyLemmas.{bars_same, empty_list, looks_same}
use Rattle.nv_screen.proofs.same.have_same_frame.Goals as goal

pub returns : goal.returns
returns c e =
    let a = c.args.a.now in let b = c.args.b.now in
    let none_a : length a.patches.items ≡ 0 = search rules in
    let none_b : length b.patches.items ≡ 0 = search rules in
    let count : length a.panes.items ≡ length b.panes.items = search rules in
    record {
      width = omega (arith, c.if-a-b.false);
      height = omega (arith, c.if-a-b-2.false);
      looks = looks_same a.looks b.looks (sym c.are_same_looks.ensures ∙ c.if-not-are_same_looks.false);
      bars = bars_same a.bars b.bars (sym c.are_same_bars.ensures ∙ c.if-not-are_same_bars.false);
      separators = sym c.as_slice.ensures.value ∙ c.are_same_rects.ensures e ∙ c.as_slice-2.ensures.value;
      count = count;
      plain_before = empty_list a.patches.items none_a;
      plain_now = empty_list b.patches.items none_b;
    }
