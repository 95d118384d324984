use Rattle.std.proofs.Common.{◌≡◌, ◌≤◌, ◌+◌, ◌-◌, ℕ, drop, slice_index_or, true, false}
use Rattle.nv_screen.specs.inside.Steadiness.{AreLowered, ShowsSame}
use Rattle.nv_screen.proofs.steady.clear_text.Given as goal

abbrev pub invariant-loop-k : goal.invariant-loop-k
invariant-loop-k l = record {
  lowered : AreLowered l.fn.flags.items l.flags.items;
  room : l.room ≤ l.new.rect.height;
  same : (r : ℕ) → slice_index_or l.flags.items r false ≡ true
      → ShowsSame l.new.rect.width l.new.tabstop (l.new.rect.row + (l.new.rect.height - l.room)) l.room
      (drop l.k l.olds) (drop l.k l.news) r
      → ShowsSame l.new.rect.width l.new.tabstop l.new.rect.row l.new.rect.height l.olds l.news r;
}
