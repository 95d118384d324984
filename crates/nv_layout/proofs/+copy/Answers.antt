use Rattle.std.proofs.Common.{◌+◌, ◌∙◌, ap, sym, drop, arith}
use Rattle.nv_layout.specs.Content.{no_shapes, more_shapes, shapes_of}
use Rattle.nv_layout.specs.Changes.{append}
use Rattle.nv_layout.proofs.Contents.{shapes_of-end}
use Rattle.nv_layout.proofs.Rebuilt.{append-none, shapes_of-push, copied_step}
use Rattle.nv_layout.proofs.+copy.Goals as goal

pub changes::push_copies-loop-tree-preserved : goal.changes::push_copies-loop-tree-preserved
changes::push_copies-loop-tree-preserved t c =
    ap (λ ss. append ss (shapes_of (drop (c.loop-tree.tree-index + 1) c.args.trees.now)))
    (ap shapes_of c.in_ok-push.ensures.items ∙ shapes_of-push c.loop-tree.all.items c.in_ok-copy.field-0
    ∙ ap (λ s. append (shapes_of c.loop-tree.all.items) (more_shapes s no_shapes)) c.in_ok-copy.ensures)
    ∙ copied_step c.args.trees.now c.loop-tree.tree-index c.tree-item.result (shapes_of c.loop-tree.all.items) (append (shapes_of c.args.all.now.items) (shapes_of c.args.trees.now))
    c.loop-tree-test.true c.tree-item.is c.loop-tree.invariant

pub changes::push_copies-returns : goal.changes::push_copies-returns
changes::push_copies-returns t c =
    sym (append-none (shapes_of c.loop-tree.all.items))
    ∙ ap (append (shapes_of c.loop-tree.all.items)) (sym (shapes_of-end c.args.trees.now c.loop-tree.tree-index (omega arith)))
    ∙ c.loop-tree.invariant
