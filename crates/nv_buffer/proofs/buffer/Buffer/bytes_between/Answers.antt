use Rattle.std.proofs.Common.{arith}
use Rattle.nv_buffer.proofs.Measures.{place_fits, not_before_row, offsets_in_order}
use Rattle.nv_buffer.proofs.buffer.Buffer.bytes_between.Goals as goal

pub flat_len_between-rows-requires-clause-order : goal.flat_len_between-rows-requires-clause-order
flat_len_between-rows-requires-clause-order c = not_before_row c.args.start c.args.stop c.requires.order

pub overflow_add-result : goal.overflow_add-result
overflow_add-result c =
    let between = rw c.text.ensures.value at c.flat_len_between-rows.ensures in
    omega (arith, between, place_fits c.text.result.now c.args.self.now.text c.args.stop c.text.ensures.value c.text.ensures.narrow c.requires.stop_in)

pub overflow_sub-result : goal.overflow_sub-result
overflow_sub-result c =
    let between = rw c.text.ensures.value at c.flat_len_between-rows.ensures in
    omega (arith, between, offsets_in_order c.args.self.now.text c.args.start c.args.stop c.requires.start_in c.requires.order)

pub returns : goal.returns
returns c =
    let between = rw c.text.ensures.value at c.flat_len_between-rows.ensures in
    omega (arith, between, offsets_in_order c.args.self.now.text c.args.start c.args.stop c.requires.start_in c.requires.order)
