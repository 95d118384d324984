use Rattle.std.proofs.Common.{◌≡◌, ◌≤◌, ℕ, length}
use Rattle.nv_linegrid.specs.Rows.{end_due}
use Rattle.nv_painter.specs.inside.Plain.{plain_shown}
use Rattle.nv_painter.proofs.plain.end_due_byte.Given as goal

abbrev pub invariant-loop-k : goal.invariant-loop-k
invariant-loop-k l =
    (width : ℕ) → l.to ≤ length (plain_shown width l.bytes)
    → end_due l.row (plain_shown width l.bytes) l.k ≡ end_due l.row (plain_shown width l.bytes) l.to
