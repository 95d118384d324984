use Rattle.std.proofs.Common.{List, ap, arith, length, subst, sym}
use Rattle.nv_model.specs.Operations.{Operation}
use Rattle.nv_editor.specs.Doing.{Does}
use Rattle.nv_api_mark.proofs.Wanted.{one_operation}
use Rattle.nv_api_mark.proofs.painting.group_by_name.Goals as goal

pub group_named-requires : goal.group_named-requires
group_named-requires c =
    let one = ap length (one_operation c.args.editor.now.stage.groups c.args.name.now) in
    record { few = omega (arith, one, c.requires) }

pub returns-clause-done : goal.returns-clause-done
returns-clause-done c =
    subst (λ (os : List Operation). Does os c.args.editor.now c.group_named.new.editor)
    (sym (one_operation c.args.editor.now.stage.groups c.args.name.now)) c.in_ok-id.ensures.done
