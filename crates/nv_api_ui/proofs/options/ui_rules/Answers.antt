use Rattle.std.proofs.Common.{[], ◌∷◌}
use Rattle.nv_api_ui.proofs.options.ui_rules.Goals as goal

pub returns : goal.returns
returns c = λ i.
    c.required.ensures i
    ∷ c.flag.ensures i
    ∷ c.flag-2.ensures i
    ∷ c.flag-3.ensures i
    ∷ c.flag-4.ensures i
    ∷ c.flag-5.ensures i
    ∷ c.flag-6.ensures i
    ∷ c.flag-7.ensures i
    ∷ c.flag-8.ensures i
    ∷ c.flag-9.ensures i
    ∷ c.flag-10.ensures i
    ∷ c.flag-11.ensures i
    ∷ c.flag-12.ensures i
    ∷ c.optional.ensures i
    ∷ c.optional-2.ensures i
    ∷ []
