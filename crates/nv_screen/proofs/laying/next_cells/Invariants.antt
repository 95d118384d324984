use Rattle.std.proofs.Common.{◌≡◌, ◌++◌, length}
use Rattle.std.specs.Vec.Iter.{into_iter_items}
use Rattle.nv_screen.proofs.laying.next_cells.Given as goal

abbrev pub invariant-loop : goal.invariant-loop
invariant-loop l = record {
  items : l.cells.items ++ into_iter_items l.rest ≡ into_iter_items l.fn.rest;
  count : length l.cells.items ≡ l.counter;
}
