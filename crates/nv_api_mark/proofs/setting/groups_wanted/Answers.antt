use Rattle.std.proofs.Common.{◌≡◌, ◌++◌, ◌∙◌, ap, append-nil, List, map}
use Rattle.std.specs.Prelude.{option_to_list}
use Rattle.nv_value.specs.View.{content, pair_content}
use Rattle.nv_args.specs.Arguments.{last_pairs}
use Rattle.nv_hl.specs.Groups.{NamedGroup}
use Rattle.nv_api_mark.specs.Groups.{groups_of_names}
use Rattle.nv_api_mark.specs.Setting.{group_name, text_chunks}
use Rattle.nv_api_mark.proofs.Wanted.{all_wanted}
use Rattle.nv_api_mark.proofs.setting.groups_wanted.Goals as goal

pub returns : goal.returns
returns c =
    let gs = c.args.groups.now in
    let pairs = last_pairs (map pair_content c.args.pairs.now) in
    let names = option_to_list (group_name pairs) in
    let ws = c.want_shown.new.wanted in
    let first : gs ++ ws ≡ groups_of_names gs names =
    c.in_ok-want_shown.ensures
    ∙ ap (λ (xs : List NamedGroup). groups_of_names (gs ++ xs) names) c.none-wanted.ensures
    ∙ ap (λ (xs : List NamedGroup). groups_of_names xs names) (append-nil gs) in
    all_wanted gs ws c.want_groups.new.wanted (group_name pairs) (text_chunks pairs) (map content c.text_items.result.now)
    c.text_items.ensures first c.in_ok-want_groups.ensures
