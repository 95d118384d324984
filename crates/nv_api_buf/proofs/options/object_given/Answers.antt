use Rattle.std.proofs.Common.{ap, sym, ◌∙◌}
use Rattle.std.specs.Prelude.{option_map, unwrap_or}
use Rattle.nv_value.specs.Content.{nil}
use Rattle.nv_value.specs.View.{content}
use Rattle.nv_api_buf.proofs.options.object_given.Goals as goal

pub returns-in-Some : goal.returns-in-Some
returns-in-Some c = ap (λ o. unwrap_or (option_map (λ v. content v.now) o) nil) (sym c.in-Some.is) ∙ c.object.ensures

pub returns-in-None : goal.returns-in-None
returns-in-None c = c.requires ∙ ap (λ o. unwrap_or (option_map (λ v. content v.now) o) nil) (sym c.in-None.is) ∙ c.object.ensures
