use Rattle.std.proofs.Common.{◌≡◌, length}
use Rattle.nv_painter.specs.inside.Lent.{AreLike, lent_rows, placed_rows}
use Rattle.nv_painter.proofs.sketch.places_of_rows.Given as goal

abbrev pub invariant-loop-k : goal.invariant-loop-k
invariant-loop-k l = record {
  count : length l.known.items ≡ l.k;
  like : AreLike l.known.items (placed_rows l.before) (lent_rows l.drawn);
}
