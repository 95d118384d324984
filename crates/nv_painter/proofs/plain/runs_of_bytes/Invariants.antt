use Rattle.std.proofs.Common.{◌≡◌, ◌≤◌, ◌+◌, ◌++◌, ℕ, drop, length, take}
use Rattle.nv_linegrid.specs.Rows.{runs_of}
use Rattle.nv_painter.specs.inside.Plain.{plain_shown}
use Rattle.nv_painter.specs.inside.Telling.{runs_with}
use Rattle.nv_painter.proofs.plain.runs_of_bytes.Given as goal

abbrev pub invariant-loop-k : goal.invariant-loop-k
invariant-loop-k l = record {
  runs : (width : ℕ) → l.end ≤ length (plain_shown width l.bytes)
      → l.runs.items ++ runs_with l.last l.count (drop l.k (take l.end (plain_shown width l.bytes)))
      ≡ runs_of (drop l.first (take l.end (plain_shown width l.bytes)));
  count : l.count ≤ l.k + 1;
}
