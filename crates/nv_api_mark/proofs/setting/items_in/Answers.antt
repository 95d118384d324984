use Rattle.std.proofs.Common.{List, ap, map, sym, ◌∙◌}
use Rattle.std.specs.Prelude.{flat_map, option_to_list}
use Rattle.nv_value.specs.Content.{Tree}
use Rattle.nv_value.specs.View.{content}
use Rattle.nv_value.specs.declared.value.Value.{Value}
use Rattle.nv_value.proofs.Contents.{content-List}
use Rattle.nv_args.specs.Chunks.{chunk_in, chunks_in}
use Rattle.nv_args.proofs.KindLemmas.{tree_list-contents}
use Rattle.nv_api_mark.proofs.setting.items_in.Goals as goal

pub returns-in-List : goal.returns-in-List
returns-in-List c =
    ap (λ (vs : List Value). flat_map (λ t. option_to_list (chunk_in t)) (map content vs)) c.as_slice.ensures.value
    ∙ ap (λ (ts : List Tree). flat_map (λ t. option_to_list (chunk_in t)) ts) (sym (tree_list-contents c.in-List.items.items))
    ∙ ap chunks_in (sym (ap content c.in-List.is ∙ content-List c.in-List.items))
