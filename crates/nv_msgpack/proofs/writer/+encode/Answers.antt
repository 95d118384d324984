-- The steps of the writer that the check leaves.
use Rattle.std.proofs.Common.{◌<◌, length, arith, sym, subst}
use Rattle.std.proofs.lemmas.Result.{on_err_weaker, on_ok_weaker}
use Rattle.nv_value.proofs.value.Value.TheLaws.{the_size}
use Rattle.nv_value.proofs.value.Pair.TheLaws.{the_size as the_pair_size}
use Rattle.nv_value.specs.View.{contents, pair_contents}
use Rattle.nv_msgpack.specs.Shortest.{HaveSpellings}
use Rattle.nv_msgpack.proofs.Writing.{begins_as, no_larger, on_err, list_spelling, list_written, map_spelling, map_written, map_in_range, item_written, item_in_range, item_spelling, pair_written, pair_in_range, pair_spelling}
use Rattle.nv_msgpack.proofs.writer.+encode.Goals as goal

pub put_fields-put_pair-requires : goal.put_fields-put_pair-requires
put_fields-put_pair-requires t c =
    let ps = c.deref-pair-items.result.now in
    let i = c.loop-pair.pair-index in
    let lt : i < length ps = omega arith in
    let has : HaveSpellings (pair_contents ps) = subst (λ l. HaveSpellings (pair_contents l)) (sym c.deref-pair-items.ensures.value) c.requires in
    let both = pair_spelling ps i c.pair-item.result lt c.pair-item.is has in
    (omega (arith, no_larger the_pair_size c.args.fields.now.items ps i c.pair-item.result c.deref-pair-items.ensures.value lt c.pair-item.is), both)

pub put_fields-returns-in_err-put_pair-clause-err : goal.put_fields-returns-in_err-put_pair-clause-err
put_fields-returns-in_err-put_pair-clause-err t c =
    on_err c.from_residual.result (begins_as c.args.into.now.items c.loop-pair.into.items c.put_pair.new.into.items _ c.loop-pair.invariant.written c.in_err-put_pair.ensures.err)

pub put_fields-loop-pair-preserved : goal.put_fields-loop-pair-preserved
put_fields-loop-pair-preserved t c =
    let ps = c.deref-pair-items.result.now in
    let i = c.loop-pair.pair-index in
    let lt : i < length ps = omega arith in
    record {
      written = pair_written c.args.into.now.items c.loop-pair.into.items c.put_pair.new.into.items ps i c.pair-item.result lt c.pair-item.is c.loop-pair.invariant.written c.in_ok-put_pair.ensures.ok;
      in_range = pair_in_range ps i c.pair-item.result lt c.pair-item.is c.loop-pair.invariant.in_range c.in_ok-put_pair.ensures.key_in_range c.in_ok-put_pair.ensures.value_in_range;
    }

pub put_items-put_item-requires : goal.put_items-put_item-requires
put_items-put_item-requires t c =
    let vs = c.deref-item-items.result.now in
    let i = c.loop-item.item-index in
    let lt : i < length vs = omega arith in
    let has : HaveSpellings (contents vs) = subst (λ l. HaveSpellings (contents l)) (sym c.deref-item-items.ensures.value) c.requires in
    (omega (arith, no_larger the_size c.args.items.now.items vs i c.item-item.result c.deref-item-items.ensures.value lt c.item-item.is), item_spelling vs i c.item-item.result lt c.item-item.is has)

pub put_items-returns-in_err-put_item-clause-err : goal.put_items-returns-in_err-put_item-clause-err
put_items-returns-in_err-put_item-clause-err t c =
    on_err c.from_residual.result (begins_as c.args.into.now.items c.loop-item.into.items c.put_item.new.into.items _ c.loop-item.invariant.written c.in_err-put_item.ensures.err)

pub put_items-loop-item-preserved : goal.put_items-loop-item-preserved
put_items-loop-item-preserved t c =
    let vs = c.deref-item-items.result.now in
    let i = c.loop-item.item-index in
    let lt : i < length vs = omega arith in
    record {
      written = item_written c.args.into.now.items c.loop-item.into.items c.put_item.new.into.items vs i c.item-item.result lt c.item-item.is c.loop-item.invariant.written c.in_ok-put_item.ensures.ok;
      in_range = item_in_range vs i c.item-item.result lt c.item-item.is c.loop-item.invariant.in_range c.in_ok-put_item.ensures.in_range;
    }

pub put_value-overflow_cast-len : goal.put_value-overflow_cast-len
put_value-overflow_cast-len t c =
    let few = (list_spelling c.args.value.now c.in-List.items c.in-List.is c.requires).0 in
    omega (arith, c.in-List.items.ok.0)

pub put_value-overflow_cast-len-in-Pairs : goal.put_value-overflow_cast-len-in-Pairs
put_value-overflow_cast-len-in-Pairs t c =
    let few = (map_spelling c.args.value.now c.in-Pairs.fields c.in-Pairs.is c.requires).0 in
    omega (arith, c.in-Pairs.fields.ok.0)

pub put_value-returns-in_ok-put_list_head-in-List-clause-ok : goal.put_value-returns-in_ok-put_list_head-in-List-clause-ok
put_value-returns-in_ok-put_list_head-in-List-clause-ok t c =
    on_ok_weaker c.put_items.result
    (list_written c.args.into.now.items _ c.put_items.new.into.items c.args.value.now c.in-List.items c.len.result c.in-List.is (omega (arith, c.in-List.items.ok.0)) c.in_ok-put_list_head-in-List.ensures.ok)
    c.put_items.ensures.ok

pub put_value-returns-in_ok-put_list_head-in-List-clause-err : goal.put_value-returns-in_ok-put_list_head-in-List-clause-err
put_value-returns-in_ok-put_list_head-in-List-clause-err t c =
    on_err_weaker c.put_items.result (begins_as c.args.into.now.items _ c.put_items.new.into.items _ c.in_ok-put_list_head-in-List.ensures.ok) c.put_items.ensures.err

pub put_value-returns-in_ok-put_map_head-in-Pairs-clause-ok : goal.put_value-returns-in_ok-put_map_head-in-Pairs-clause-ok
put_value-returns-in_ok-put_map_head-in-Pairs-clause-ok t c =
    on_ok_weaker c.put_fields.result
    (map_written c.args.into.now.items _ c.put_fields.new.into.items c.args.value.now c.in-Pairs.fields c.len-in-Pairs.result c.in-Pairs.is (omega (arith, c.in-Pairs.fields.ok.0)) c.in_ok-put_map_head-in-Pairs.ensures.ok)
    c.put_fields.ensures.ok

pub put_value-returns-in_ok-put_map_head-in-Pairs-clause-err : goal.put_value-returns-in_ok-put_map_head-in-Pairs-clause-err
put_value-returns-in_ok-put_map_head-in-Pairs-clause-err t c =
    on_err_weaker c.put_fields.result (begins_as c.args.into.now.items _ c.put_fields.new.into.items _ c.in_ok-put_map_head-in-Pairs.ensures.ok) c.put_fields.ensures.err

pub put_value-returns-in_ok-put_map_head-in-Pairs-clause-in_range : goal.put_value-returns-in_ok-put_map_head-in-Pairs-clause-in_range
put_value-returns-in_ok-put_map_head-in-Pairs-clause-in_range t c =
    on_ok_weaker c.put_fields.result (map_in_range c.args.value.now c.in-Pairs.fields c.in-Pairs.is) c.put_fields.ensures.in_range
