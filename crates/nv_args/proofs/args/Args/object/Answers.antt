use Rattle.nv_args.proofs.ArgLemmas.{any-absent, any-there}
use Rattle.nv_args.proofs.args.Args.object.Goals as goal

pub returns-then-is_any_kind : goal.returns-then-is_any_kind
returns-then-is_any_kind c = any-there c.args.self.now c.args.place _ _ _ c.kind.ensures c.is_any_kind.ensures c.if-is_any_kind.true c.value.ensures

pub returns-else-is_any_kind : goal.returns-else-is_any_kind
returns-else-is_any_kind c = any-absent c.args.self.now c.args.place _ _ c.kind.ensures c.is_any_kind.ensures c.if-is_any_kind.false
