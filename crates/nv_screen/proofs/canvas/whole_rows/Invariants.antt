use Rattle.std.proofs.Common.{◌≡◌, ◌++◌, map}
use Rattle.std.specs.Vec.Iter.{into_iter_items}
use Rattle.nv_screen.specs.inside.Laid.{whole_row}
use Rattle.nv_screen.proofs.canvas.whole_rows.Given as goal

abbrev pub invariant-loop-strip : goal.invariant-loop-strip
invariant-loop-strip l =
    l.rows.items ++ map (whole_row l.width) (into_iter_items l.strip-iterator) ≡ map (whole_row l.width) l.fn.strips.items
