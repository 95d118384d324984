use Rattle.std.proofs.Common.{List, map, ap, ◌∙◌}
use Rattle.nv_value.specs.View.{content}
use Rattle.nv_value.specs.declared.value.Value.{Value}
use Rattle.nv_value.proofs.Contents.{content-List}
use Rattle.nv_args.specs.Chunks.{chunk_among}
use Rattle.nv_args.proofs.ChunkLemmas.{list_as_chunk}
use Rattle.nv_args.proofs.chunks.chunk_in.Goals as goal

pub returns-in-List : goal.returns-in-List
returns-in-List c =
    c.chunk_among.ensures
    ∙ ap (λ (vs : List Value). chunk_among (map content vs)) c.as_slice.ensures.value
    ∙ list_as_chunk (content c.args.value.now) c.in-List.items.items (ap content c.in-List.is ∙ content-List c.in-List.items)
