use Rattle.std.proofs.Common.{◌≡◌, to_z, of_z, w64, rules, Some, None, refl, sym, ap, ◌∙◌}
use Rattle.std.specs.Prelude.{option_map}
use Rattle.nv_value.specs.View.{content}
use Rattle.nv_args.specs.Kinds.{kind_of}
use Rattle.nv_args.proofs.ArgLemmas.{number-there}
use Rattle.nv_args.proofs.args.Args.number.Goals as goal

pub returns-in-Some-Some : goal.returns-in-Some-Some
returns-in-Some-Some c =
    let same : to_z w64 (of_z w64 c.number_as.result) ≡ c.number_as.result = search rules in
    same
    ∙ c.number_as.ensures
    ∙ number-there c.args.self.now c.args.place (Some (kind_of c.in-Some-Some.kind)) (Some (content c.in-Some-Some.value.now)) c.in-Some-Some.ensures c.in-Some-Some.ensures'

pub returns-in_default : goal.returns-in_default
returns-in_default c =
    number-there c.args.self.now c.args.place (Some (kind_of c.in_default.field-0-0)) None c.in_default.ensures c.in_default.ensures'

pub returns-in_default-2 : goal.returns-in_default-2
returns-in_default-2 c =
    number-there c.args.self.now c.args.place None _ (ap (option_map kind_of) (sym c.in_default.is-0) ∙ c.kind.ensures) refl
