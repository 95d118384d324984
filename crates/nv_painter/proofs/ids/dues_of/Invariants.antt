use Rattle.std.proofs.Common.{◌≡◌, ◌<◌, ℕ, List, [], None, get_or, length}
use Rattle.nv_hl.specs.declared.cell.Cell.{Cell}
use Rattle.nv_painter.specs.inside.Due.{IsDue}
use Rattle.nv_painter.specs.inside.Lent.{lent_rows}
use Rattle.nv_painter.specs.inside.Sketch.{IsSketch}
use Rattle.nv_painter.proofs.ids.dues_of.Given as goal

abbrev pub invariant-loop-k : goal.invariant-loop-k
invariant-loop-k l = record {
  count : length l.dues.items ≡ l.k;
  due : (screen : List (List Cell)) → IsSketch l.flags (lent_rows l.drawn) l.attrs l.rows screen
      → (j : ℕ) → j < l.k
      → IsDue (get_or l.dues.items j None) l.attrs (get_or (lent_rows l.drawn) j []) (get_or screen j []) (get_or l.rows j []);
}
