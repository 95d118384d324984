use Rattle.std.proofs.Common.{◌∙◌, ap}
use Rattle.nv_layout.specs.Content.{shapes_of}
use Rattle.nv_layout.proofs.Rebuilt.{shapes_of-push}
use Rattle.nv_layout.proofs.changes.push.Goals as goal

pub returns : goal.returns
returns c = ap shapes_of c.in_ok-push.ensures.items ∙ shapes_of-push c.args.all.now.items c.args.tree
