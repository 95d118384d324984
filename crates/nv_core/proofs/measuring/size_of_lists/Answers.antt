use Rattle.std.proofs.Common.{List, ℕ, refl, ap, subst, ◌∙◌}
use Rattle.nv_lines.specs.Excerpts.{list_lines}
use Rattle.nv_msgpack.specs.Shortest.{HaveSpellings}
use Rattle.nv_args.specs.Texts.{strings}
use Rattle.nv_core.specs.Sizes.{memory_with}
use Rattle.nv_core.proofs.Sizing.{counted_all, list_counted, memory_of_lists}
use Rattle.nv_core.proofs.Strings.{all_lists_spelled, next_list_spelled}
use Rattle.nv_core.proofs.measuring.size_of_lists.Goals as goal

pub loop-list-preserved : goal.loop-list-preserved
loop-list-preserved c = record {
  size =
      list_counted c.args.lists.now c.loop-list.list-index c.loop-list.size c.size_with_lines-size.result
      (memory_with (strings (list_lines c.args.lists.now)) 32) c.list-item.result c.loop-list-test.true c.list-item.is
      (c.size_with_lines-size.ensures.size ∙ ap (λ (l : List (List ℕ)). memory_with (strings l) c.loop-list.size) c.as_slice.ensures.value)
      c.loop-list.invariant.size;
  spelled =
      next_list_spelled c.args.lists.now c.loop-list.list-index c.list-item.result c.loop-list-test.true c.list-item.is
      (subst (λ (l : List (List ℕ)). HaveSpellings (strings l)) c.as_slice.ensures.value c.size_with_lines-size.ensures.spelled)
      c.loop-list.invariant.spelled;
}

pub returns-clause-size : goal.returns-clause-size
returns-clause-size c =
    counted_all memory_of_lists (λ n. refl) c.args.lists.now c.loop-list.list-index c.loop-list.size (memory_of_lists 32 c.args.lists.now)
    c.loop-list-test.false c.loop-list.invariant.size

pub returns-clause-spelled : goal.returns-clause-spelled
returns-clause-spelled c = all_lists_spelled c.args.lists.now c.loop-list.list-index c.loop-list-test.false c.loop-list.invariant.spelled
