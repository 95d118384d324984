use Rattle.std.proofs.Common.{arith, sym, subst, ◌+◌, ℕ}
use Rattle.nv_lines.specs.inside.Starts.{IsStart}
use Rattle.nv_lines.proofs.Chunks.{chunk_is}
use Rattle.nv_lines.proofs.Starts.{start_behind, chunk_fits}
use Rattle.nv_lines.proofs.finding.start_after.Goals as goal

pub overflow_add-result-2 : goal.overflow_add-result-2
overflow_add-result-2 c =
    omega (
      arith,
      c.len.ensures.value,
      c.requires.small,
      (chunk_fits c.args.chunks.now c.args.at c.index-chunks-at.result c.requires.each c.requires.start c.requires.chunk c.index-chunks-at.is).0,
    )

pub overflow_add-result-3 : goal.overflow_add-result-3
overflow_add-result-3 c =
    omega (
      arith,
      c.requires.small,
      (chunk_fits c.args.chunks.now c.args.at c.index-chunks-at.result c.requires.each c.requires.start c.requires.chunk c.index-chunks-at.is).1,
    )

pub returns-clause-start : goal.returns-clause-start
returns-clause-start c =
    subst (λ (n : ℕ). IsStart c.args.chunks.now (record { chunk = c.args.at.chunk + 1; row = c.args.at.row + n; offset = c.args.at.offset + c.index-chunks-at.result.bytes }))
    (sym c.len.ensures.value)
    (start_behind c.args.chunks.now c.args.at c.index-chunks-at.result c.requires.each c.requires.start c.requires.chunk c.index-chunks-at.is)

pub returns-clause-near : goal.returns-clause-near
returns-clause-near c =
    omega (
      arith,
      c.len.ensures.value,
      (chunk_is c.args.chunks.now c.args.at.chunk c.index-chunks-at.result c.requires.each c.requires.chunk c.index-chunks-at.is).most,
    )
