use Rattle.std.proofs.Common.{◌++◌, arith}
use Rattle.nv_layout.specs.Content.{shapes_of}
use Rattle.nv_layout.specs.Least.{leaves_in}
use Rattle.nv_layout.specs.Tiling.{windows}
use Rattle.nv_layout.proofs.Wishes.{listed_more, listed_all}
use Rattle.nv_layout.proofs.sizes.+windows.Goals as goal

pub push_windows_in-loop-tree-preserved : goal.push_windows_in-loop-tree-preserved
push_windows_in-loop-tree-preserved t c =
    listed_more c.args.trees.now c.loop-tree.tree-index c.tree-item.result c.loop-tree.into.items c.push_windows.new.into.items
    (c.args.into.now.items ++ windows (leaves_in (shapes_of c.args.trees.now))) c.loop-tree-test.true c.tree-item.is c.in_ok-push_windows.ensures c.loop-tree.invariant

pub push_windows_in-returns : goal.push_windows_in-returns
push_windows_in-returns t c =
    listed_all c.args.trees.now c.loop-tree.tree-index c.loop-tree.into.items (c.args.into.now.items ++ windows (leaves_in (shapes_of c.args.trees.now)))
    (omega arith) c.loop-tree.invariant
