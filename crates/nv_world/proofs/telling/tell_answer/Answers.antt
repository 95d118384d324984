use Rattle.std.proofs.Common.{Option, option_map, sym, subst}
use Rattle.nv_rpc.specs.MessageView.{sent_of}
use Rattle.nv_rpc.specs.declared.message.Message.{Message}
use Rattle.nv_world.specs.inside.Sessions.{AreSessions}
use Rattle.nv_world.specs.inside.Tellings.{sessions_replied}
use Rattle.nv_world.proofs.Hearings.{replied_put, unreplied}
use Rattle.nv_world.proofs.telling.tell_answer.Goals as goal

pub returns-in-Some : goal.returns-in-Some
returns-in-Some c = λ capacity ys old.
    subst (λ (a : Option Message). AreSessions capacity c.tell_one.new.subs c.tell_one.new.sessions (sessions_replied c.args.at capacity c.args.caller (option_map sent_of a) ys)) (sym c.in-Some.is)
    (replied_put c.args.at capacity c.args.caller (sent_of c.in-Some.message) c.args.subs.now c.tell_one.new.subs c.args.sessions.now c.tell_one.new.sessions ys
    c.requires.caller.0 c.requires.caller.1 old (c.tell_one.ensures.sessions capacity ys (λ x. x.following) old.pairs) c.tell_one.ensures.told)

pub returns-in-None : goal.returns-in-None
returns-in-None c = λ capacity ys old.
    subst (λ (a : Option Message). AreSessions capacity c.args.subs.now c.args.sessions.now (sessions_replied c.args.at capacity c.args.caller (option_map sent_of a) ys)) (sym c.in-None.is)
    (unreplied c.args.at capacity c.args.caller c.args.subs.now c.args.sessions.now ys old)
