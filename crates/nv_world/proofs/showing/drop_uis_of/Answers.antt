use Rattle.std.proofs.Common.{length}
use Rattle.nv_world.proofs.Standings.{some_there, uis_gone}
use Rattle.nv_world.proofs.showing.drop_uis_of.Goals as goal

pub returns-clause-gone : goal.returns-clause-gone
returns-clause-gone c = λ m h.
    uis_gone c.args.editor.now c.drop_uis.new.self c.args.sessions.now (some_there c.is_empty.result (length c.args.sessions.now) c.is_empty.ensures c.if-is_empty.false)
    c.drop_uis.ensures c.known.ensures m h
