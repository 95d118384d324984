use Rattle.std.proofs.Common.{◌∙◌, ◌++◌, [], List, Option, Some, map, sym, ap, subst, append-nil}
use Rattle.nv_value.specs.View.{pair_content}
use Rattle.nv_value.specs.declared.value.Pair.{Pair}
use Rattle.nv_value.proofs.Contents.{content-Pairs}
use Rattle.nv_hl.specs.declared.linking.Group.{Group}
use Rattle.nv_msgpack.specs.Shortest.{HasSpelling}
use Rattle.nv_model.specs.Answering.{dict_of}
use Rattle.nv_api_mark.specs.Highlights.{group_entries}
use Rattle.nv_api_mark.proofs.telling.group_value.Goals as goal

pub returns-clause-told : goal.returns-clause-told
returns-clause-told c =
    let entries = group_entries c.args.groups.now (Some c.in-Some.group) in
    content-Pairs c.put_group.new.fields
    ∙ ap dict_of (
    sym (append-nil (map pair_content c.put_group.new.fields.items))
    ∙ c.in_ok-put_group.ensures.told []
    ∙ ap (λ (ps : List Pair). map pair_content ps ++ (entries ++ [])) c.new-fields.ensures.items
    ∙ append-nil entries)
    ∙ ap (λ (o : Option Group). dict_of (group_entries c.args.groups.now o)) (sym c.in-Some.is ∙ c.group_of_name.ensures.group)

pub returns-clause-spelled : goal.returns-clause-spelled
returns-clause-spelled c =
    let entries = group_entries c.args.groups.now (Some c.in-Some.group) in
    subst HasSpelling (sym (content-Pairs c.put_group.new.fields
    ∙ ap dict_of (
    sym (append-nil (map pair_content c.put_group.new.fields.items))
    ∙ c.in_ok-put_group.ensures.told []
    ∙ ap (λ (ps : List Pair). map pair_content ps ++ (entries ++ [])) c.new-fields.ensures.items
    ∙ append-nil entries)))
    c.in_ok-put_group.ensures.spelled
