use Rattle.std.proofs.Common.{List, map, ap, ◌∙◌}
use Rattle.std.specs.List.{list_all}
use Rattle.nv_value.specs.View.{content}
use Rattle.nv_value.specs.declared.value.Value.{Value}
use Rattle.nv_value.proofs.Contents.{content-List}
use Rattle.nv_args.specs.inside.Parts.{names_group_of}
use Rattle.nv_args.proofs.ChunkLemmas.{list_names}
use Rattle.nv_args.proofs.dicts.names_groups.Goals as goal

pub returns-in-List : goal.returns-in-List
returns-in-List c =
    list_names (content c.args.value.now) c.in-List.items.items c.all_name_groups.result
    (ap content c.in-List.is ∙ content-List c.in-List.items)
    (c.all_name_groups.ensures ∙ ap (λ (vs : List Value). list_all names_group_of (map content vs)) c.as_slice.ensures.value)
