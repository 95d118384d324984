use Rattle.std.proofs.Common.{rules, ◌≡◌, ◌↔◌, List, get_or, length, map, ap, ◌∙◌, subst}
use Rattle.std.specs.Prelude.{IsTrue}
use Rattle.nv_value.specs.Content.{Tree}
use Rattle.nv_value.specs.View.{content}
use Rattle.std.proofs.lemmas.List.{get_or_default}
use Rattle.nv_linegrid.specs.Client.{Client, first_client}
use Rattle.nv_watch.specs.Grids.{others_sent}
use Rattle.nv_watch.specs.SentParts.{is_whole_sent}
use Rattle.nv_watch.specs.Verdicts.{sight}
use Rattle.nv_watch.specs.inside.GridsFolded.{IsRightSent, TookAt, client_kept}
use Rattle.nv_watch.proofs.GridFolds.{none_others, step_folds, step_of_messages}
use Rattle.nv_watch.proofs.grid_fold.fold_step.Goals as goal

pub returns-then-is_empty : goal.returns-then-is_empty
returns-then-is_empty c =
    let step = c.args.step.now in
    let parts = c.in_ok-parts.parts in
    let whole_is : parts.is_whole ≡ is_whole_sent step.sent = search rules in
    let others_are : map content parts.others.items ≡ others_sent step.sent = search rules in
    let empty : length parts.others.items ≡ 0 = search rules in
    step_of_messages c.batches_differ.ensures (sight c.args.world.now step) c.args.clients.now.items parts.is_whole whole_is
    (none_others parts.others.items (others_sent step.sent) empty others_are)

pub returns : goal.returns
returns c =
    let step = c.args.step.now in
    let parts = c.in_ok-parts.parts in
    let new : List Client = c.take_at.new.clients.items in
    let whole_is : parts.is_whole ≡ is_whole_sent step.sent = search rules in
    let others_are : map content parts.others.items ≡ others_sent step.sent = search rules in
    let lent : map content c.as_slice-2.result.now ≡ others_sent step.sent = ap (map content) c.as_slice-2.ensures.value ∙ others_are in
    let read : c.index-client.result.now ≡ get_or new step.session c.index-client.result.now = search rules in
    let client_is : c.index-client.result.now ≡ client_kept new step.session =
    read ∙ get_or_default new step.session c.index-client.result.now first_client c.in_ok-taken.ensures.there in
    let took : TookAt (others_sent step.sent) step.session c.args.clients.now.items new c.in_ok-taken.taken =
    subst (λ (ts : List Tree). TookAt ts step.session c.args.clients.now.items new c.in_ok-taken.taken) lent c.in_ok-taken.ensures.took in
    let told : IsTrue c.in_ok-right.right ↔ IsRightSent c.args.world.now (client_kept new step.session) parts.is_whole c.in_ok-taken.taken =
    subst (λ (d : Client). IsTrue c.in_ok-right.right ↔ IsRightSent c.args.world.now d parts.is_whole c.in_ok-taken.taken) client_is c.in_ok-right.ensures in
    step_folds c.batches_differ.ensures (sight c.args.world.now step) c.args.clients.now.items new c.in_ok-taken.taken parts.is_whole c.in_ok-right.right whole_is took told
