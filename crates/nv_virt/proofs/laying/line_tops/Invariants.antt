-- The lines in front begin where they do, and the next one too.
use Rattle.std.proofs.Common.{◌≡◌, ◌<◌, ◌≤◌, ℕ, get_or, length, min}
use Rattle.nv_virt.specs.Texts.{line_above}
use Rattle.nv_virt.proofs.laying.line_tops.Given as goal

abbrev pub invariant-loop-line : goal.invariant-loop-line
invariant-loop-line l = record {
  within : l.line-index ≤ length l.pane.lines.items;
  count : length l.tops.items ≡ l.line-index;
  row : l.row ≡ min l.pane.rect.height (line_above l.pane l.line-index);
  each : (n : ℕ) → n < l.line-index → get_or l.tops.items n 0 ≡ min l.pane.rect.height (line_above l.pane n);
}
