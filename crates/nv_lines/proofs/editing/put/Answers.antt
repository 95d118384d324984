use Rattle.std.proofs.Common.{◌-◌, arith, slice_range}
use Rattle.std.specs.List.{splice}
use Rattle.nv_lines.specs.Chunks.{chunk_lines}
use Rattle.nv_lines.proofs.Chunks.{length-flat-le}
use Rattle.nv_lines.proofs.Anew.{bytes_anew, rows_anew}
use Rattle.nv_lines.proofs.editing.put.Goals as goal

pub overflow_add-rows : goal.overflow_add-rows
overflow_add-rows c =
    let first = c.args.region.first in
    let end = c.args.region.end in
    let region = c.requires.region in
    let cs = c.args.chunks.now.items in
    omega (
      arith,
      c.len.ensures.value,
      rows_anew cs first end c.args.from c.args.to c.args.new region.begin region.stop (omega (arith, region.some)) region.before c.requires.order
          region.behind,
      length-flat-le (splice (chunk_lines (slice_range cs first.chunk end.chunk)) (c.args.from - first.row) (c.args.to - first.row) c.args.new),
      bytes_anew cs first end c.args.from c.args.to c.args.new region.begin region.stop (omega (arith, region.some)) region.before
          c.requires.order region.behind,
      c.requires.small,
    )
