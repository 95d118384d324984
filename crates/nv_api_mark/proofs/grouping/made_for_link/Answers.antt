use Rattle.std.proofs.Common.{◌≡◌, ◌∙◌, ℕ, Bool, [], ◌∷◌, List, Option, Bor, length, cond, rules, ap, sym}
use Rattle.std.specs.Prelude.{option_map}
use Rattle.nv_model.specs.Operations.{group_made}
use Rattle.nv_api_mark.specs.GroupRows.{link_operations}
use Rattle.nv_api_mark.specs.Groups.{group_operations, groups_with}
use Rattle.nv_api_mark.proofs.GroupsNamed.{named_there}
use Rattle.nv_api_mark.proofs.grouping.made_for_link.Goals as goal

pub returns-then-eq-clause-count : goal.returns-then-eq-clause-count
returns-then-eq-clause-count c =
    let groups = groups_with c.args.groups.now c.args.name.now in
    let name = c.args.name.now in
    let same : c.in-Some.link.now ≡ name = search rules in
    sym (ap (λ (o : Option (Bor (List ℕ))). length (link_operations groups (option_map (λ l. l.now) o))) c.in-Some.is
    ∙ ap (λ (n : List ℕ). length (group_operations groups n)) same
    ∙ ap (λ (b : Bool). length (cond b [] (group_made name ∷ []))) (named_there c.args.groups.now name))
