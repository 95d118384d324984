use Rattle.std.proofs.Common.{◌≡◌, ◌∙◌, subst, List, map}
use Rattle.nv_value.specs.View.{pair_content}
use Rattle.nv_args.specs.Arguments.{last_pairs}
use Rattle.nv_args.specs.Maps.{Key}
use Rattle.nv_args.specs.Naming.{naming_fault}
use Rattle.nv_args.specs.Refusals.{Finds}
use Rattle.nv_args.specs.Rules.{key_of}
use Rattle.nv_api_mark.specs.Setting.{mark_keys, naming_keys}
use Rattle.nv_api_mark.specs.inside.Marking.{keys_with}
use Rattle.nv_api_mark.proofs.setting.option_fault.Goals as goal

pub returns-in_default : goal.returns-in_default
returns-in_default c =
    let pairs = last_pairs (map pair_content c.args.pairs.now) in
    let keys : map key_of c.mark_rules-rules.result ≡ mark_keys pairs =
    c.mark_rules-rules.ensures ∙ (λ i. keys_with (c.has_end-ends.ensures i) (c.has_text-texts.ensures i)) in
    subst (λ (ks : List Key). Finds c.naming_fault.result (naming_fault naming_keys ks pairs)) keys c.naming_fault.ensures
