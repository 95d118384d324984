use Rattle.std.proofs.Common.{◌≡◌, ◌≤◌, ◌-◌, ◌++◌, drop, length, take}
use Rattle.nv_virt.specs.Texts.{chunks_cells}
use Rattle.nv_virt.proofs.cells.chunks_cells.Given as goal

abbrev pub invariant-loop-chunk : goal.invariant-loop-chunk
invariant-loop-chunk l = record {
  few : length l.cells.items ≤ l.most;
  laid : l.cells.items ++ take (l.most - length l.cells.items) (chunks_cells l.groups (drop l.chunk-index l.chunks)) ≡ take l.most (chunks_cells l.groups l.chunks);
}
