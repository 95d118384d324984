use Rattle.std.proofs.Common.{◌≡◌, ℕ, drop, slice_index_or, true, false}
use Rattle.nv_screen.specs.inside.Steadiness.{AllAgreeAt, AreLowered}
use Rattle.nv_screen.proofs.steady.clear_panes.Given as goal

abbrev pub invariant-loop-k : goal.invariant-loop-k
invariant-loop-k l = record {
  lowered : AreLowered l.fn.flags.items l.flags.items;
  same : (r : ℕ) → slice_index_or l.flags.items r false ≡ true → AllAgreeAt (drop l.k l.olds) (drop l.k l.news) r
      → AllAgreeAt l.olds l.news r;
}
