use Rattle.std.proofs.Common.{◌≡◌, ◌∙◌, sym, ap, subst, List, [], ◌∷◌, ◌++◌, All, arith, length, map, take}
use Rattle.std.proofs.lemmas.List.{map-append, take_all}
use Rattle.std.proofs.lemmas.List.Elements.{All-more}
use Rattle.nv_value.specs.Content.{Tree, trees_of}
use Rattle.nv_value.specs.View.{content}
use Rattle.nv_value.proofs.Contents.{content-List}
use Rattle.nv_msgpack.specs.Shortest.{HasSpelling, HaveSpellings}
use Rattle.nv_args.proofs.Spelled.{list-spelled, made-all, made-more, spelled-more}
use Rattle.nv_model.specs.Answering.{array_of}
use Rattle.nv_notes.specs.Notes.{IsChunkOf}
use Rattle.nv_notes.specs.declared.note.Chunk.{Chunk}
use Rattle.nv_api_mark.specs.MarkRows.{chunk_told}
use Rattle.nv_api_mark.specs.inside.Marking.{IsChunkTold}
use Rattle.nv_api_mark.proofs.details.chunks_value.Goals as goal

pub chunk_value-requires : goal.chunk_value-requires
chunk_value-requires c =
    subst (IsChunkOf c.args.groups.now) (sym c.chunk-item.is) (c.requires c.loop-chunk.chunk-index c.chunk-item.result c.loop-chunk-test.true)

pub loop-chunk-preserved : goal.loop-chunk-preserved
loop-chunk-preserved c =
    let before : List Tree = map content c.loop-chunk.items.items in
    let one : Tree = content c.in_ok-chunk_value.field-0 in
    let more : map content c.push.new.self.items ≡ before ++ one ∷ [] =
    ap (map content) c.in_ok-push.ensures.items ∙ map-append content c.loop-chunk.items.items (c.in_ok-chunk_value.field-0 ∷ []) in
    record {
      all = made-more (chunk_told c.args.groups.now) before (map content c.push.new.self.items) one c.args.chunks.now c.loop-chunk.chunk-index c.chunk-item.result c.loop-chunk-test.true
          c.loop-chunk.invariant.all more (c.in_ok-chunk_value.ensures.told ∙ ap (chunk_told c.args.groups.now) c.chunk-item.is);
      spelled = subst (λ (ts : List Tree). HaveSpellings (trees_of ts)) (sym more) (spelled-more before one c.loop-chunk.invariant.spelled c.in_ok-chunk_value.ensures.spelled);
      short = All-more (IsChunkTold c.args.groups.now) c.args.chunks.now c.loop-chunk.chunk-index c.chunk-item.result c.loop-chunk-test.true
          c.loop-chunk.invariant.short (subst (IsChunkTold c.args.groups.now) c.chunk-item.is c.in_ok-chunk_value.ensures.short);
    }

pub returns-clause-told : goal.returns-clause-told
returns-clause-told c =
    content-List c.loop-chunk.items
    ∙ ap array_of (made-all (chunk_told c.args.groups.now) (map content c.loop-chunk.items.items) c.args.chunks.now c.loop-chunk.chunk-index c.loop-chunk-test.false c.loop-chunk.invariant.all)

pub returns-clause-spelled : goal.returns-clause-spelled
returns-clause-spelled c =
    let f = chunk_told c.args.groups.now in
    let made : List Tree = map content c.loop-chunk.items.items in
    subst HasSpelling (sym (content-List c.loop-chunk.items))
    (list-spelled f made c.args.chunks.now (made-all f made c.args.chunks.now c.loop-chunk.chunk-index c.loop-chunk-test.false c.loop-chunk.invariant.all)
    c.in_ok-spelled_length.ensures.few c.loop-chunk.invariant.spelled)

pub returns-clause-short : goal.returns-clause-short
returns-clause-short c = (
  c.in_ok-spelled_length.ensures.few,
  subst (λ (cs : List Chunk). All (IsChunkTold c.args.groups.now) cs)
      (take_all c.loop-chunk.chunk-index c.args.chunks.now (omega (arith, c.loop-chunk-test.false))) c.loop-chunk.invariant.short,
)
