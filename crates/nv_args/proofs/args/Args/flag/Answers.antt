use Rattle.std.proofs.Common.{◌∙◌, Some, None}
use Rattle.nv_value.specs.View.{content}
use Rattle.nv_args.proofs.ArgLemmas.{flag-absent, flag-there}
use Rattle.nv_args.proofs.args.Args.flag.Goals as goal

pub returns-then-not-is_flag_kind : goal.returns-then-not-is_flag_kind
returns-then-not-is_flag_kind c = flag-absent c.args.self.now c.args.place _ _ c.kind.ensures c.is_flag_kind.ensures c.if-not-is_flag_kind.true

pub returns-in-Some : goal.returns-in-Some
returns-in-Some c =
    c.is_true.ensures
    ∙ flag-there c.args.self.now c.args.place _ _ (Some (content c.in-Some.value.now)) c.kind.ensures c.is_flag_kind.ensures c.if-not-is_flag_kind.false c.in-Some.ensures

pub returns-in-None : goal.returns-in-None
returns-in-None c =
    flag-there c.args.self.now c.args.place _ _ None c.kind.ensures c.is_flag_kind.ensures c.if-not-is_flag_kind.false c.in-None.ensures
