use Rattle.std.proofs.Common.{ap, sym, ◌∙◌, map}
use Rattle.nv_value.specs.View.{pair_content}
use Rattle.nv_args.specs.inside.Looking.{is_key_among}
use Rattle.nv_args.proofs.DictLemmas.{among-none}
use Rattle.nv_args.proofs.dicts.stands_among.Goals as goal

pub returns-in-None : goal.returns-in-None
returns-in-None c =
    sym (among-none (map pair_content c.args.pairs.now))
    ∙ ap (λ k. is_key_among k (map pair_content c.args.pairs.now)) c.in-None.ensures
