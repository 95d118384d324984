use Rattle.std.proofs.Common.{sym, subst, Some}
use Rattle.nv_hl.specs.declared.linking.Group.{Group}
use Rattle.nv_msgpack.specs.Shortest.{HasSpelling}
use Rattle.nv_model.specs.Answering.{dict_of}
use Rattle.nv_api_mark.specs.Highlights.{group_entries}
use Rattle.nv_api_mark.proofs.AttrsTold.{attr_spelled}
use Rattle.nv_api_mark.proofs.telling.put_group.Goals as goal

pub returns-in_ok-put_attr-in-Plain-clause-spelled : goal.returns-in_ok-put_attr-in-Plain-clause-spelled
returns-in_ok-put_attr-in-Plain-clause-spelled c =
    subst (λ (g : Group). HasSpelling (dict_of (group_entries c.args.groups.now (Some g)))) (sym c.in-Plain.is) (attr_spelled c.in-Plain.attr)
