use Rattle.std.proofs.Common.{◌≡◌, ◌+◌, ◌≤◌}
use Rattle.nv_undo.specs.Tree.{last}
use Rattle.nv_buffer.proofs.Costs.{way_count}
use Rattle.nv_buffer.proofs.buffer.Buffer.way_len.Given as goal

abbrev pub invariant-loop-from : goal.invariant-loop-from
invariant-loop-from l = record {
  from : l.from ≤ last l.self.undo;
  to : l.to ≤ last l.self.undo;
  count : l.count + way_count l.self.undo l.from l.to ≡ way_count l.self.undo l.self.undo.current l.n;
}

abbrev pub decreases-loop-from : goal.decreases-loop-from
decreases-loop-from l = l.from + l.to
