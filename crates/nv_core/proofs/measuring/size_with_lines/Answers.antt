use Rattle.std.proofs.Common.{ℕ, List, refl, ap, ◌∙◌}
use Rattle.nv_value.specs.Content.{text}
use Rattle.nv_args.specs.Texts.{strings}
use Rattle.nv_core.specs.Sizes.{plus, memory_of, memory_with}
use Rattle.nv_core.proofs.Sizing.{counted_more, counted_all}
use Rattle.nv_core.proofs.Strings.{next_spelled, all_spelled}
use Rattle.nv_core.proofs.measuring.size_with_lines.Goals as goal

abbrev memory_of_lines : ℕ → List (List ℕ) → ℕ
memory_of_lines n lines = memory_with (strings lines) n

pub loop-line-preserved : goal.loop-line-preserved
loop-line-preserved c = record {
  size =
      counted_more memory_of_lines (λ (n : ℕ) (line : List ℕ). plus n (memory_of (text line))) (λ n line lines. refl) c.args.lines.now
      c.loop-line.line-index c.loop-line.size c.saturating_add-size.result (memory_of_lines c.args.before c.args.lines.now) c.line-item.result
      c.loop-line-test.true c.line-item.is (c.saturating_add-size.ensures ∙ ap (λ (k : ℕ). plus c.loop-line.size k) c.size_of_line.ensures.size)
      c.loop-line.invariant.size;
  spelled =
      next_spelled c.args.lines.now c.loop-line.line-index c.line-item.result c.loop-line-test.true c.line-item.is c.size_of_line.ensures.few
      c.loop-line.invariant.spelled;
}

pub returns-clause-size : goal.returns-clause-size
returns-clause-size c =
    counted_all memory_of_lines (λ n. refl) c.args.lines.now c.loop-line.line-index c.loop-line.size (memory_of_lines c.args.before c.args.lines.now)
    c.loop-line-test.false c.loop-line.invariant.size

pub returns-clause-spelled : goal.returns-clause-spelled
returns-clause-spelled c = all_spelled c.args.lines.now c.loop-line.line-index c.loop-line-test.false c.loop-line.invariant.spelled
