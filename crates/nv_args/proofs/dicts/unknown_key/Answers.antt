use Rattle.std.proofs.Common.{map, sym, ◌∙◌}
use Rattle.nv_value.specs.View.{pair_content}
use Rattle.nv_args.specs.Rules.{key_of}
use Rattle.nv_args.proofs.DictLemmas.{none-unknown}
use Rattle.nv_args.proofs.dicts.unknown_key.Goals as goal

pub returns-then-are_known : goal.returns-then-are_known
returns-then-are_known c =
    none-unknown (map key_of c.args.rules.now) (map pair_content c.args.pairs.now) (sym c.are_known.ensures ∙ c.if-are_known.true)
