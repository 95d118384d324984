use Rattle.std.proofs.Common.{◌∙◌, Some, None}
use Rattle.nv_value.specs.View.{content}
use Rattle.nv_args.proofs.ArgLemmas.{list-absent, list-there}
use Rattle.nv_args.proofs.args.Args.values.Goals as goal

pub returns-then-not-is_list_kind : goal.returns-then-not-is_list_kind
returns-then-not-is_list_kind c = list-absent c.args.self.now c.args.place _ _ c.kind.ensures c.is_list_kind.ensures c.if-not-is_list_kind.true

pub returns-in-Some : goal.returns-in-Some
returns-in-Some c =
    c.items_in.ensures
    ∙ list-there c.args.self.now c.args.place _ _ (Some (content c.in-Some.value.now)) c.kind.ensures c.is_list_kind.ensures c.if-not-is_list_kind.false c.in-Some.ensures

pub returns-in-None : goal.returns-in-None
returns-in-None c =
    list-there c.args.self.now c.args.place _ _ None c.kind.ensures c.is_list_kind.ensures c.if-not-is_list_kind.false c.in-None.ensures
