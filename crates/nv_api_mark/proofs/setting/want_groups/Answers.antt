use Rattle.std.proofs.Common.{◌++◌, ◌∙◌, arith, ap, sym, refl}
use Rattle.nv_api_mark.specs.Groups.{groups_of_names}
use Rattle.nv_api_mark.proofs.Wanted.{groups_next, none_left}
use Rattle.nv_api_mark.proofs.setting.want_groups.Goals as goal

pub loop-item-init : goal.loop-item-init
loop-item-init c = refl

pub loop-item-preserved : goal.loop-item-preserved
loop-item-preserved c =
    let gs = c.args.groups.now in
    groups_next (gs ++ c.loop-item.wanted) (gs ++ c.want_group_of.new.wanted) c.args.items.now c.loop-item.item-index c.item-item.result (omega (arith, c.loop-item-test.true)) c.item-item.is
    c.in_ok-want_group_of.ensures
    ∙ c.loop-item.invariant

pub returns : goal.returns
returns c =
    let gs = c.args.groups.now in
    ap (groups_of_names (gs ++ c.loop-item.wanted)) (sym (none_left c.args.items.now c.loop-item.item-index (omega (arith, c.loop-item-test.false))))
    ∙ c.loop-item.invariant
