use Rattle.std.proofs.Common.{◌≡◌, ◌+◌, ◌-◌, ℕ, length}
use Rattle.nv_model.specs.Standing.{seen_buffer_now}
use Rattle.nv_scene.specs.Panes.{AreLinesOf}
use Rattle.nv_scene.proofs.panes.push_each.Given as goal

abbrev pub invariant-loop-row : goal.invariant-loop-row
invariant-loop-row l = record {
  count : length l.lines.items ≡ length l.initial.lines.items + (l.row - l.first);
  lines : (start : ℕ) → start + length l.initial.lines.items ≡ l.first
      → AreLinesOf l.groups (seen_buffer_now l.buffer) start l.initial.lines.items
      → AreLinesOf l.groups (seen_buffer_now l.buffer) start l.lines.items;
}
