use Rattle.std.proofs.Common.{◌≡◌, ◌-◌, ℕ, length}
use Rattle.nv_linegrid.specs.Rows.{first_due}
use Rattle.nv_painter.specs.inside.Plain.{plain_shown}
use Rattle.nv_painter.proofs.plain.first_due_byte.Given as goal

abbrev pub invariant-loop-k : goal.invariant-loop-k
invariant-loop-k l =
    (width : ℕ) → l.count ≡ length (plain_shown width l.bytes)
    → first_due l.row (plain_shown width l.bytes) (l.count - l.k) l.k ≡ first_due l.row (plain_shown width l.bytes) (l.count - l.from) l.from
