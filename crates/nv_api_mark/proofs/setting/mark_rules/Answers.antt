use Rattle.std.proofs.Common.{[], ◌∷◌}
use Rattle.nv_api_mark.proofs.setting.mark_rules.Goals as goal

pub returns : goal.returns
returns c = λ i.
    c.optional.ensures i
    ∷ c.optional-2.ensures i
    ∷ c.optional-3.ensures i
    ∷ c.optional-4.ensures i
    ∷ c.flag.ensures i
    ∷ c.optional-5.ensures i
    ∷ c.flag-2.ensures i
    ∷ c.gravity_rule.ensures i
    ∷ c.flag-3.ensures i
    ∷ c.flag-4.ensures i
    ∷ c.flag-5.ensures i
    ∷ c.optional-6.ensures i
    ∷ c.text_place_rule.ensures i
    ∷ []
