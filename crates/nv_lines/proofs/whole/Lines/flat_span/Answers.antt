use Rattle.std.proofs.Common.{◌≡◌, List, ap, arith, length, refl}
use Rattle.nv_places.specs.Flat.{row_start}
use Rattle.nv_lines.specs.Chunks.{chunk_lines}
use Rattle.nv_lines.specs.declared.chunk.Chunk.{Chunk}
use Rattle.nv_lines.proofs.FlatLengths.{rows_apart}
use Rattle.nv_lines.proofs.whole.Lines.flat_span.Goals as goal

pub returns-then-from-self-clause-len : goal.returns-then-from-self-clause-len
returns-then-from-self-clause-len c =
    let same : c.args.from ≡ c.args.to =
    omega (arith, c.if-from-self.true, c.requires.order, c.requires.within, c.self.invariant.count, ap length c.self.view_is) in
    omega (arith, ap (row_start c.args.self.now) same)

pub overflow_sub-result : goal.overflow_sub-result
overflow_sub-result c =
    omega (
      arith,
      c.offset.ensures,
      c.span_in-start.ensures.start,
      ap (λ (cs : List Chunk). row_start (chunk_lines cs) c.args.from) c.deref.ensures.value,
      ap (λ l. row_start l c.args.from) c.self.view_is,
      rows_apart c.args.self.now c.args.self.now c.args.from c.args.to refl c.requires.order,
    )

pub returns-in-None-clause-len : goal.returns-in-None-clause-len
returns-in-None-clause-len c =
    omega (
      arith,
      c.offset.ensures,
      c.span_in-start.ensures.start,
      ap (λ (cs : List Chunk). row_start (chunk_lines cs) c.args.from) c.deref.ensures.value,
      ap (λ l. row_start l c.args.from) c.self.view_is,
      rows_apart c.args.self.now c.args.self.now c.args.from c.args.to refl c.requires.order,
    )
