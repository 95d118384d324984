use Rattle.nv_core.proofs.Sizing.{due_open, due_closed}
use Rattle.nv_world.proofs.session.bytes_due.Goals as goal

pub returns-in-None : goal.returns-in-None
returns-in-None c = λ capacity y is. due_open c.args.session.now.closed y c.args.session.now.bytes c.in-None.is is.closed is.counted

pub returns-in-Some : goal.returns-in-Some
returns-in-Some c = λ capacity y is. due_closed c.args.session.now.closed y _ c.in-Some.is is.closed
