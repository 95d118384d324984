use Rattle.std.proofs.Common.{◌≡◌, ◌∙◌, ◌+◌, ◌++◌, ◌∷◌, [], ℕ, Bool, false, List, Option, length, map, cond, rules, ap, sym}
use Rattle.std.specs.Prelude.{nat_lt, option_map}
use Rattle.nv_value.specs.Content.{nil}
use Rattle.nv_value.specs.View.{pair_content}
use Rattle.nv_args.specs.Arguments.{last_pairs}
use Rattle.nv_args.specs.Faults.{limit_reached}
use Rattle.nv_hl.specs.declared.linking.Group.{Group}
use Rattle.nv_model.specs.Answers.{Answer, refused, replied}
use Rattle.nv_model.specs.Operations.{group_put}
use Rattle.nv_api_mark.specs.GroupRows.{group_in, groups_operations, link_in}
use Rattle.nv_api_mark.specs.Groups.{id_among}
use Rattle.nv_api_mark.specs.inside.Grouping.{putting_answer}
use Rattle.nv_api_mark.proofs.GroupsNamed.{put_is}
use Rattle.nv_editor.proofs.Giving.{gives_on}
use Rattle.nv_api_mark.proofs.grouping.put_within_limit.Goals as goal

pub returns-clause-row : goal.returns-clause-row
returns-clause-row c = λ told.
    let stage = c.args.editor.now.stage in
    let groups = stage.groups in
    let name = c.args.name.now in
    let pairs = last_pairs (map pair_content c.args.pairs.now) in
    let link : Option (List ℕ) = option_map (λ l. l.now) c.bytes_at-link.result in
    let passes : Option (List ℕ) → Bool = λ l. nat_lt stage.limits.groups (length groups + length (groups_operations groups name l)) in
    let put : Option (List ℕ) → Group → Answer = λ l g. replied nil (groups_operations groups name l ++ group_put (id_among groups name) g ∷ []) [] in
    let is : link_in pairs ≡ link = sym c.bytes_at-link.ensures in
    let fits : passes link ≡ false = search rules in
    gives_on _ (putting_answer stage name pairs link) c.put_highlight.result c.args.editor.now c.put_highlight.new.editor told told
    (ap (λ (l : Option (List ℕ)). cond (passes l) (refused limit_reached) (put l (group_in groups name pairs l))) is
    ∙ ap (λ (b : Bool). cond b (refused limit_reached) (put link (group_in groups name pairs link))) fits
    ∙ ap (put link) (put_is groups name pairs link))
    (c.put_highlight.ensures.row told)
