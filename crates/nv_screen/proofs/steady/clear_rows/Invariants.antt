use Rattle.std.proofs.Common.{◌≡◌, ◌<◌, ◌≤◌, ℕ, false, slice_index_or}
use Rattle.nv_screen.specs.inside.Steadiness.{AreLowered}
use Rattle.nv_screen.proofs.steady.clear_rows.Given as goal

abbrev pub invariant-loop-row : goal.invariant-loop-row
invariant-loop-row l = record {
  lowered : AreLowered l.fn.flags.items l.flags.items;
  cleared : (r : ℕ) → l.from ≤ r → r < l.row → slice_index_or l.flags.items r false ≡ false;
  start : l.end < l.from → l.row ≤ l.from;
}
