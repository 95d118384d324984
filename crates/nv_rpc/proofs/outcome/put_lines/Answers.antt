use Rattle.std.proofs.Common.{ℕ, List, ◌++◌, length, ap, arith, subst, sym, ◌∙◌, map}
use Rattle.std.proofs.lemmas.Result.{on_ok_weaker}
use Rattle.nv_value.specs.Content.{text, trees_of}
use Rattle.nv_msgpack.specs.Shortest.{HaveSpellings}
use Rattle.nv_rpc.proofs.Puts.{all_spelled, count-map, list_was_put}
use Rattle.nv_rpc.proofs.outcome.put_lines.Goals as goal

pub overflow_cast-len : goal.overflow_cast-len
overflow_cast-len c = omega (arith, c.requires.0, count-map text c.args.lines.now, c.len.ensures)

pub put_lists-requires : goal.put_lists-requires
put_lists-requires c = subst (λ (l : List (List ℕ)). HaveSpellings (trees_of (map text l))) (sym c.lists.ensures) c.requires.1

pub returns : goal.returns
returns c =
    on_ok_weaker c.put_lists.result
    (λ e. list_was_put text c.args.lines.now c.len.result c.args.into.now.items c.put_list_head.new.into.items c.put_lists.new.into.items c.len.ensures
    c.in_ok-put_list_head.ensures.ok (e ∙ ap (λ (l : List (List ℕ)). c.put_list_head.new.into.items ++ all_spelled text l) c.lists.ensures))
    c.put_lists.ensures
