use Rattle.std.proofs.Common.{ℕ, ◌<◌, List, get_or}
use Rattle.nv_places.specs.Flat.{IsLine}
use Rattle.nv_lines.proofs.listing.LineList.from_vec.Given as goal

abbrev pub invariant-loop-line : goal.invariant-loop-line
invariant-loop-line l = (k : ℕ) (d : List ℕ) → k < l.line-index → IsLine (get_or l.line-items k d)
