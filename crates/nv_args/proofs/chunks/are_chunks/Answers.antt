use Rattle.std.proofs.Common.{List, map, ap, ◌∙◌, is_some}
use Rattle.std.specs.List.{list_all}
use Rattle.nv_value.specs.Content.{Tree}
use Rattle.nv_value.specs.View.{content}
use Rattle.nv_value.specs.declared.value.Value.{Value}
use Rattle.nv_value.proofs.Contents.{content-List}
use Rattle.nv_args.specs.Chunks.{chunk_in}
use Rattle.nv_args.proofs.ChunkLemmas.{list_of_chunks}
use Rattle.nv_args.proofs.chunks.are_chunks.Goals as goal

pub returns-in-List : goal.returns-in-List
returns-in-List c =
    list_of_chunks (content c.args.value.now) c.in-List.items.items c.all_are_chunks.result
    (ap content c.in-List.is ∙ content-List c.in-List.items)
    (c.all_are_chunks.ensures ∙ ap (λ (vs : List Value). list_all (λ (t : Tree). is_some (chunk_in t)) (map content vs)) c.as_slice.ensures.value)
