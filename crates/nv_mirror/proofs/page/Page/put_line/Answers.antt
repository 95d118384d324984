use Rattle.nv_mirror.proofs.Outs.{line_all, line_part}
use Rattle.nv_mirror.proofs.page.Page.put_line.Goals as goal

pub returns-clause-all : goal.returns-clause-all
returns-clause-all g c = line_all c.put-2.result c.args.self.now c.args.line.now _ _ _ _ _ c.if-not-put.ensures.all c.put-2.ensures.all

pub returns-clause-part : goal.returns-clause-part
returns-clause-part g c = line_part c.put-2.result c.args.self.now c.args.line.now _ _ _ _ c.if-not-put.ensures.all c.put-2.ensures.part
