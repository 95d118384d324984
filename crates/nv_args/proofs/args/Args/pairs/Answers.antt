use Rattle.std.proofs.Common.{◌∙◌, Some, None}
use Rattle.nv_value.specs.View.{content}
use Rattle.nv_args.proofs.ArgLemmas.{map-absent, map-there}
use Rattle.nv_args.proofs.args.Args.pairs.Goals as goal

pub returns-then-not-is_map_kind : goal.returns-then-not-is_map_kind
returns-then-not-is_map_kind c = map-absent c.args.self.now c.args.place _ _ c.kind.ensures c.is_map_kind.ensures c.if-not-is_map_kind.true

pub returns-in-Some : goal.returns-in-Some
returns-in-Some c =
    c.pairs_in.ensures
    ∙ map-there c.args.self.now c.args.place _ _ (Some (content c.in-Some.value.now)) c.kind.ensures c.is_map_kind.ensures c.if-not-is_map_kind.false c.in-Some.ensures

pub returns-in-None : goal.returns-in-None
returns-in-None c =
    map-there c.args.self.now c.args.place _ _ None c.kind.ensures c.is_map_kind.ensures c.if-not-is_map_kind.false c.in-None.ensures
