use Rattle.std.proofs.Common.{◌∙◌, refl, sym, ap, arith}
use Rattle.nv_buffer.proofs.Costs.{way_count, way_none, way_bounded, way_step_back, way_step_ahead}
use Rattle.nv_buffer.proofs.buffer.Buffer.way_len.Goals as goal

pub overflow_add-count : goal.overflow_add-count
overflow_add-count c =
    let step =
    way_step_back c.args.self.now.undo c.loop-from.count c.loop-from.from c.loop-from.to _ c.change_len.result _ c.requires.tree
    c.loop-from.invariant.from c.if-from-to.true c.change_len.ensures refl c.loop-from.invariant.count in
    let most = way_bounded c.args.self.now.undo c.args.self.now.undo.current c.args.n c.requires.tree c.requires.tree.within c.requires.within in
    omega (arith, step.1.fewer, most, c.requires.small)

pub loop-from-preserved-then-from-to : goal.loop-from-preserved-then-from-to
loop-from-preserved-then-from-to c =
    let step =
    way_step_back c.args.self.now.undo c.loop-from.count c.loop-from.from c.loop-from.to _ c.change_len.result c.origin-from.result c.requires.tree
    c.loop-from.invariant.from c.if-from-to.true c.change_len.ensures c.origin-from.ensures c.loop-from.invariant.count in
    record { from = step.1.within; to = c.loop-from.invariant.to; count = step.1.count }

pub overflow_add-count-else-from-to : goal.overflow_add-count-else-from-to
overflow_add-count-else-from-to c =
    let step =
    way_step_ahead c.args.self.now.undo c.loop-from.count c.loop-from.from c.loop-from.to _ c.change_len-else-from-to.result _ c.requires.tree
    c.loop-from.invariant.to (omega arith) c.change_len-else-from-to.ensures refl c.loop-from.invariant.count in
    let most = way_bounded c.args.self.now.undo c.args.self.now.undo.current c.args.n c.requires.tree c.requires.tree.within c.requires.within in
    omega (arith, step.1.fewer, most, c.requires.small)

pub loop-from-preserved : goal.loop-from-preserved
loop-from-preserved c =
    let step =
    way_step_ahead c.args.self.now.undo c.loop-from.count c.loop-from.from c.loop-from.to _ c.change_len-else-from-to.result c.origin-to.result
    c.requires.tree c.loop-from.invariant.to (omega arith) c.change_len-else-from-to.ensures c.origin-to.ensures c.loop-from.invariant.count in
    record { from = c.loop-from.invariant.from; to = step.1.within; count = step.1.count }

pub returns : goal.returns
returns c =
    let none = ap (way_count c.args.self.now.undo c.loop-from.from) (sym c.loop-from-test.false) ∙ way_none c.args.self.now.undo c.loop-from.from in
    omega (arith, none, c.loop-from.invariant.count)
