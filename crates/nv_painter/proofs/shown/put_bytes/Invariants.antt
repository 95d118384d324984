use Rattle.std.proofs.Common.{◌≡◌, ◌≤◌, ℕ, drop, length, take}
use Rattle.nv_linegrid.specs.Client.{row_with}
use Rattle.nv_painter.specs.inside.Plain.{plain_shown}
use Rattle.nv_painter.proofs.shown.put_bytes.Given as goal

abbrev pub invariant-loop-k : goal.invariant-loop-k
invariant-loop-k l =
    (width : ℕ) → l.end ≤ length (plain_shown width l.bytes) → l.end ≤ length l.fn.row.items
    → (l.end ≤ length l.row.items)
    × (row_with l.row.items l.k (drop l.k (take l.end (plain_shown width l.bytes)))
    ≡ row_with l.fn.row.items l.first (drop l.first (take l.end (plain_shown width l.bytes))))
