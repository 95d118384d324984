use Rattle.std.proofs.Common.{◌+◌, sym}
use Rattle.nv_layout.proofs.Contents.{gap-followed}
use Rattle.nv_layout.proofs.sizes.gap_behind.Goals as goal

pub returns-in-Across : goal.returns-in-Across
returns-in-Across c = sym (gap-followed c.args.axis c.args.children.now (c.args.place + 1) c.in-Across.is c.if-place-children.true)
