use Rattle.std.proofs.Common.{◌≡◌, ◌&&◌, ltb, leb, ℕ, true, false, get_or, length}
use Rattle.nv_painter.proofs.scrolling.clear_rows.Given as goal

abbrev pub invariant-loop-k : goal.invariant-loop-k
invariant-loop-k l = record {
  count : length l.flags.items ≡ length l.fn.flags.items;
  cleared : (j : ℕ) → get_or l.flags.items j false ≡ true
      → (get_or l.fn.flags.items j false ≡ true) × ((leb l.from j && ltb j l.k) ≡ false);
}
