use Rattle.std.proofs.Common.{◌+◌, ◌-◌, length}
use Rattle.nv_lines.proofs.region.+widened_region.Given as goal

abbrev pub decreases-widened_region : goal.decreases-widened_region
decreases-widened_region l = l.first.chunk + (length l.chunks.now - l.end.chunk)
