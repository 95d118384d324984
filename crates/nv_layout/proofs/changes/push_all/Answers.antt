use Rattle.nv_layout.proofs.Rebuilt.{on_ok_appended}
use Rattle.nv_layout.proofs.changes.push_all.Goals as goal

pub returns : goal.returns
returns c = on_ok_appended c.append.result c.append.new.self.items c.args.all.now.items c.args.trees.items c.append.ensures.items
