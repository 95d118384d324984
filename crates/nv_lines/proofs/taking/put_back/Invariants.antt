-- The chunks are still those that lost their lines to the tables that are left.
use Rattle.std.proofs.Common.{◌≤◌, List, length}
use Rattle.nv_lines.specs.inside.Tables.{AreTakenOut}
use Rattle.nv_lines.specs.declared.chunk.Chunk.{Chunk}
use Rattle.nv_lines.proofs.taking.put_back.Given as goal

abbrev pub invariant-putting : goal.invariant-putting
invariant-putting l = record {
  within : length l.tables.items ≤ length l.chunks;
  left : (all : List Chunk) → AreTakenOut l.fn.tables.items all l.initial.chunks → AreTakenOut l.tables.items all l.chunks;
}

abbrev pub decreases-putting : goal.decreases-putting
decreases-putting l = length l.tables.items
