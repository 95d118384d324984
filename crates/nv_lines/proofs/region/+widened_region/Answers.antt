use Rattle.std.proofs.Common.{arith}
use Rattle.nv_lines.proofs.Starts.{start_within}
use Rattle.nv_lines.proofs.region.+widened_region.Goals as goal

pub overflow_add-end : goal.overflow_add-end
overflow_add-end n c = omega (arith, c.requires.room, (start_within c.args.chunks.now c.args.end c.requires.stop).0)
