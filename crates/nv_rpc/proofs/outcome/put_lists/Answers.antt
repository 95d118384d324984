use Rattle.std.proofs.Common.{◌++◌, ℕ, List, map, ap, arith, subst, sym, ◌∙◌}
use Rattle.nv_value.specs.Content.{text, trees_of}
use Rattle.nv_msgpack.specs.Shortest.{HaveSpellings}
use Rattle.nv_rpc.proofs.Puts.{all_spelled, one_list_put, all_lists_put, list_spelled_at}
use Rattle.nv_rpc.proofs.outcome.put_lists.Goals as goal

pub put_strings-requires : goal.put_strings-requires
put_strings-requires c =
    subst (λ (l : List (List ℕ)). HaveSpellings (trees_of (map text l))) (sym c.as_slice.ensures.value)
    (list_spelled_at c.args.lists.now c.loop-list.list-index c.list-item.result (omega arith) c.list-item.is c.requires)

pub loop-list-preserved : goal.loop-list-preserved
loop-list-preserved c =
    one_list_put c.args.lists.now c.loop-list.list-index c.list-item.result c.loop-list.into.items c.put_strings.new.into.items _ (omega arith) c.list-item.is
    c.loop-list.invariant
    (c.in_ok-put_strings.ensures ∙ ap (λ (l : List (List ℕ)). c.loop-list.into.items ++ all_spelled text l) c.as_slice.ensures.value)

pub returns : goal.returns
returns c =
    all_lists_put c.args.lists.now c.loop-list.list-index c.args.into.now.items c.loop-list.into.items (omega arith) c.loop-list.invariant
