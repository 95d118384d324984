use Rattle.std.proofs.Common.{◌∙◌, sym}
use Rattle.nv_api_mark.proofs.Wanted.{wanted_known, wanted_new}
use Rattle.nv_api_mark.proofs.setting.want_group.Goals as goal

pub returns-then-is_known : goal.returns-then-is_known
returns-then-is_known c = wanted_known c.args.groups.now c.args.wanted.now c.args.name.now (sym c.is_known.ensures ∙ c.if-is_known.true)

pub returns : goal.returns
returns c =
    wanted_new c.args.groups.now c.args.wanted.now c.add_wanted.new.wanted c.args.name.now (sym c.is_known.ensures ∙ c.if-is_known.false)
    c.in_ok-add_wanted.ensures
