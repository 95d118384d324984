use Rattle.nv_layout.specs.Content.{shape_of}
use Rattle.nv_layout.proofs.LeavesCount.{leaves_below}
use Rattle.nv_layout.proofs.sizes.leaves.Goals as goal

pub count_leaves-requires : goal.count_leaves-requires
count_leaves-requires c = leaves_below (shape_of c.args.tree.now) c.requires
