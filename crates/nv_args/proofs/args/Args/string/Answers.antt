use Rattle.std.proofs.Common.{◌∙◌, Some, None}
use Rattle.nv_value.specs.View.{content}
use Rattle.nv_args.proofs.ArgLemmas.{string-absent, string-there}
use Rattle.nv_args.proofs.args.Args.string.Goals as goal

pub returns-then-not-is_string_kind-clause-bytes : goal.returns-then-not-is_string_kind-clause-bytes
returns-then-not-is_string_kind-clause-bytes c = string-absent c.args.self.now c.args.place _ _ c.kind.ensures c.is_string_kind.ensures c.if-not-is_string_kind.true

pub returns-in-Some-clause-bytes : goal.returns-in-Some-clause-bytes
returns-in-Some-clause-bytes c =
    c.string_in.ensures.bytes
    ∙ string-there c.args.self.now c.args.place _ _ (Some (content c.in-Some.value.now)) c.kind.ensures c.is_string_kind.ensures c.if-not-is_string_kind.false c.in-Some.ensures

pub returns-in-None-clause-bytes : goal.returns-in-None-clause-bytes
returns-in-None-clause-bytes c =
    string-there c.args.self.now c.args.place _ _ None c.kind.ensures c.is_string_kind.ensures c.if-not-is_string_kind.false c.in-None.ensures
