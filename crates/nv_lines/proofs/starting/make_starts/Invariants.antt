use Rattle.std.proofs.Common.{◌≡◌, All}
use Rattle.nv_lines.specs.inside.Starts.{IsStart}
use Rattle.nv_lines.proofs.starting.make_starts.Given as goal

abbrev pub invariant-loop-place : goal.invariant-loop-place
invariant-loop-place l = record {
  start : IsStart l.chunks l.at;
  chunk : l.at.chunk ≡ l.place;
  begins : All (IsStart l.chunks) l.starts.items;
}
