use Rattle.std.proofs.Common.{◌≡◌, ◌++◌, ◌+◌, ◌∙◌, List, ap, arith, length, map, nat_lt, subst}
use Rattle.nv_value.specs.View.{pair_content}
use Rattle.nv_args.specs.Arguments.{last_pairs}
use Rattle.nv_hl.specs.Groups.{NamedGroup}
use Rattle.nv_api_mark.specs.Groups.{groups_of_names, names_operations}
use Rattle.nv_api_mark.specs.Setting.{group_names}
use Rattle.nv_api_mark.proofs.Wanted.{wanted_count}
use Rattle.nv_api_mark.proofs.setting.groups_pass_limit.Goals as goal

pub returns-clause-passes : goal.returns-clause-passes
returns-clause-passes c =
    let s = c.args.editor.now.stage in
    let gs = s.groups in
    let ws = c.in_ok-wanted.wanted in
    let names = group_names (last_pairs (map pair_content c.args.pairs.now)) in
    let there : c.len-there.result ≡ length gs = c.len-there.ensures.count ∙ ap length c.groups-groups.ensures in
    let more : c.len-more.result ≡ length ws = c.len-more.ensures.count in
    let all : gs ++ ws ≡ groups_of_names gs names =
    subst (λ (xs : List NamedGroup). xs ++ ws ≡ groups_of_names xs names) c.groups-groups.ensures c.in_ok-wanted.ensures in
    c.is_passed-passes.ensures.passes
    ∙ (λ i. nat_lt (c.limits-limits.ensures i).groups (there i + more i))
    ∙ ap (nat_lt s.limits.groups) (wanted_count gs ws names all)

pub returns-clause-few : goal.returns-clause-few
returns-clause-few c = λ under.
    let s = c.args.editor.now.stage in
    let gs = s.groups in
    let ws = c.in_ok-wanted.wanted in
    let names = group_names (last_pairs (map pair_content c.args.pairs.now)) in
    let there : c.len-there.result ≡ length gs = c.len-there.ensures.count ∙ ap length c.groups-groups.ensures in
    let more : c.len-more.result ≡ length ws = c.len-more.ensures.count in
    let all : gs ++ ws ≡ groups_of_names gs names =
    subst (λ (xs : List NamedGroup). xs ++ ws ≡ groups_of_names xs names) c.groups-groups.ensures c.in_ok-wanted.ensures in
    let few = c.is_passed-passes.ensures.few under in
    omega (arith, few, there, more, wanted_count gs ws names all)
