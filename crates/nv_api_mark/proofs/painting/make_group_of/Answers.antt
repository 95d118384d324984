use Rattle.std.proofs.Common.{◌≡◌, ◌++◌, ◌+◌, ◌∙◌, ◌∷◌, [], ℕ, List, Option, ap, arith, length, map, option_map, subst, sym}
use Rattle.std.specs.Prelude.{option_to_list}
use Rattle.nv_value.specs.View.{content}
use Rattle.nv_editor.specs.Doing.{Does}
use Rattle.nv_api_mark.specs.Groups.{groups_of_names, names_operations}
use Rattle.nv_api_mark.specs.inside.Marking.{names_in}
use Rattle.nv_api_mark.proofs.painting.make_group_of.Goals as goal

pub group_by_name-requires : goal.group_by_name-requires
group_by_name-requires c =
    let gs = c.args.editor.now.stage.groups in
    let one : names_in (content c.args.item.now) [] ≡ c.in-Some.name.now ∷ [] =
    ap (λ (o : Option (List ℕ)). option_to_list o ++ []) (sym c.group_of.ensures ∙ ap (option_map (λ n. n.now)) c.in-Some.is) in
    omega (arith, c.requires, ap (λ (ns : List (List ℕ)). length (names_operations gs ns)) one)

pub returns-in_default-clause-stage : goal.returns-in_default-clause-stage
returns-in_default-clause-stage c =
    let s = c.args.editor.now.stage in
    let none : names_in (content c.args.item.now) [] ≡ [] =
    ap (λ (o : Option (List ℕ)). option_to_list o ++ []) (sym c.group_of.ensures ∙ ap (option_map (λ n. n.now)) c.in_default.is) in
    ap (λ (ns : List (List ℕ)). record s { groups = groups_of_names s.groups ns }) (sym none)

pub returns-in_default-clause-done : goal.returns-in_default-clause-done
returns-in_default-clause-done c =
    let e = c.args.editor.now in
    let none : names_in (content c.args.item.now) [] ≡ [] =
    ap (λ (o : Option (List ℕ)). option_to_list o ++ []) (sym c.group_of.ensures ∙ ap (option_map (λ n. n.now)) c.in_default.is) in
    subst (λ (ns : List (List ℕ)). Does (names_operations e.stage.groups ns) e e) (sym none) (λ m stands. stands)

pub returns-clause-stage : goal.returns-clause-stage
returns-clause-stage c =
    let s = c.args.editor.now.stage in
    let one : names_in (content c.args.item.now) [] ≡ c.in-Some.name.now ∷ [] =
    ap (λ (o : Option (List ℕ)). option_to_list o ++ []) (sym c.group_of.ensures ∙ ap (option_map (λ n. n.now)) c.in-Some.is) in
    c.in_ok-group_by_name.ensures.stage ∙ ap (λ (ns : List (List ℕ)). record s { groups = groups_of_names s.groups ns }) (sym one)

pub returns-clause-done : goal.returns-clause-done
returns-clause-done c =
    let e = c.args.editor.now in
    let one : names_in (content c.args.item.now) [] ≡ c.in-Some.name.now ∷ [] =
    ap (λ (o : Option (List ℕ)). option_to_list o ++ []) (sym c.group_of.ensures ∙ ap (option_map (λ n. n.now)) c.in-Some.is) in
    subst (λ (ns : List (List ℕ)). Does (names_operations e.stage.groups ns) e c.group_by_name.new.editor) (sym one) c.in_ok-group_by_name.ensures.done
