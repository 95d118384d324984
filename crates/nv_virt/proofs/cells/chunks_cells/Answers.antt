use Rattle.std.proofs.Common.{◌≡◌, ◌+◌, ◌∙◌, ◌∷◌, drop, ap, arith, subst, sym}
use Rattle.nv_linedraw.proofs.LayLemmas.{drop_at}
use Rattle.nv_notes.specs.Notes.{IsChunkOf}
use Rattle.nv_notes.specs.declared.note.Chunk.{Chunk}
use Rattle.nv_virt.specs.Texts.{chunk_cells}
use Rattle.nv_virt.proofs.CellLemmas.{chunk_step, chunks_done, pushed_few}
use Rattle.nv_virt.proofs.cells.chunks_cells.Goals as goal

pub push_chunk-requires-clause-group : goal.push_chunk-requires-clause-group
push_chunk-requires-clause-group c =
    subst (IsChunkOf c.args.groups.now) (sym c.chunk-item.is)
    (c.requires c.loop-chunk.chunk-index c.chunk-item.result (omega (arith, c.loop-chunk-test.true)))

pub loop-chunk-preserved : goal.loop-chunk-preserved
loop-chunk-preserved c =
    let cs = c.args.chunks.now in
    let k = c.loop-chunk.chunk-index in
    let d = c.chunk-item.result in
    let at = c.loop-chunk.invariant in
    let here : drop k cs ≡ d ∷ drop (k + 1) cs =
    drop_at cs k d (omega (arith, c.loop-chunk-test.true)) ∙ ap (λ (e : Chunk). e ∷ drop (k + 1) cs) (sym c.chunk-item.is) in
    record {
      few = pushed_few c.args.most c.loop-chunk.cells.items c.push_chunk.new.cells.items (chunk_cells c.args.groups.now d) c.in_ok-push_chunk.ensures at.few;
      laid = chunk_step c.args.most c.args.groups.now cs k d c.loop-chunk.cells.items c.push_chunk.new.cells.items _ here c.in_ok-push_chunk.ensures at.laid;
    }

pub returns : goal.returns
returns c =
    chunks_done c.args.most c.args.groups.now c.args.chunks.now c.loop-chunk.chunk-index c.loop-chunk.cells.items _
    (omega (arith, c.loop-chunk-test.false)) c.loop-chunk.invariant.laid
