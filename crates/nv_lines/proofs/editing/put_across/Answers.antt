use Rattle.std.proofs.Common.{◌∙◌, ◌-◌, ◌++◌, List, ap, arith, sym, length, slice_range}
use Rattle.std.specs.List.{splice}
use Rattle.nv_places.specs.Flat.{flat}
use Rattle.nv_lines.specs.Chunks.{chunk_lines}
use Rattle.nv_lines.specs.inside.Tables.{table_lines}
use Rattle.nv_lines.specs.declared.chunk.Chunk.{Chunk}
use Rattle.nv_lines.proofs.Anew.{bytes_anew, rows_anew, rows_inside, region_rows}
use Rattle.nv_lines.proofs.editing.put_across.Goals as goal

pub lines_after-requires-clause-rows : goal.lines_after-requires-clause-rows
lines_after-requires-clause-rows c =
    let first = c.args.region.first in
    let end = c.args.region.end in
    omega (
      arith,
      region_rows c.args.chunks.now.items first end c.requires.begin c.requires.stop (omega (arith, c.requires.some)),
      ap (λ (l : List Chunk). length (chunk_lines (slice_range l first.chunk end.chunk))) c.deref.ensures.value,
    )

pub cut-requires-clause-some : goal.cut-requires-clause-some
cut-requires-clause-some c =
    let first = c.args.region.first in
    let end = c.args.region.end in
    omega (
      arith,
      ap length c.in_ok-lines.ensures,
      ap (λ (l : List Chunk). length (splice (chunk_lines (slice_range l first.chunk end.chunk)) (c.args.from - first.row) (c.args.to - first.row) c.args.new))
          c.deref.ensures.value,
      rows_anew c.args.chunks.now.items first end c.args.from c.args.to c.args.new c.requires.begin c.requires.stop (omega (arith, c.requires.some))
          c.requires.before c.requires.order c.requires.behind,
      c.requires.kept,
    )

pub cut-requires-clause-small : goal.cut-requires-clause-small
cut-requires-clause-small c =
    let first = c.args.region.first in
    let end = c.args.region.end in
    omega (
      arith,
      ap (λ l. length (flat l)) c.in_ok-lines.ensures,
      ap (λ (l : List Chunk). length (flat (splice (chunk_lines (slice_range l first.chunk end.chunk)) (c.args.from - first.row) (c.args.to - first.row) c.args.new)))
          c.deref.ensures.value,
      bytes_anew c.args.chunks.now.items first end c.args.from c.args.to c.args.new c.requires.begin c.requires.stop (omega (arith, c.requires.some))
          c.requires.before c.requires.order c.requires.behind,
      c.requires.small,
    )

pub returns-clause-taken : goal.returns-clause-taken
returns-clause-taken c =
    let first = c.args.region.first in
    let end = c.args.region.end in
    let from = c.args.from - first.row in
    let to = c.args.to - first.row in
    c.from_vec.ensures
    ∙ c.rows_taken.ensures
    ∙ ap (λ l. l ++ slice_range (table_lines c.in_ok-gone.gone.items) from to) c.in_ok-taken.ensures.items
    ∙ ap (λ l. slice_range l from to) c.in_ok-gone.ensures.taken
    ∙ sym (rows_inside c.args.chunks.now.items first end c.args.from c.args.to c.requires.begin c.requires.stop (omega (arith, c.requires.some))
    c.requires.before c.requires.behind)
