use Rattle.std.proofs.Common.{ℕ, List, ◌++◌, map, ap, arith, ◌∙◌}
use Rattle.nv_value.specs.Content.{text}
use Rattle.nv_value.specs.View.{content}
use Rattle.nv_rpc.proofs.Puts.{one_list_added, all_lists_added}
use Rattle.nv_rpc.proofs.outcome.add_lists.Goals as goal

pub loop-list-preserved : goal.loop-list-preserved
loop-list-preserved c =
    let old = map content c.loop-list.strings.items in
    one_list_added c.args.lists.now c.loop-list.list-index c.list-item.result old (map content c.add_strings.new.strings.items) _ (omega arith) c.list-item.is
    c.loop-list.invariant (c.in_ok-add_strings.ensures ∙ ap (λ (l : List (List ℕ)). old ++ map text l) c.as_slice.ensures.value)

pub returns : goal.returns
returns c =
    all_lists_added c.args.lists.now c.loop-list.list-index (map content c.args.strings.now.items) (map content c.loop-list.strings.items) (omega arith)
    c.loop-list.invariant
