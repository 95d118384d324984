use Rattle.std.proofs.Common.{rules, arith, ◌≡◌, get_or, refl}
use Rattle.std.specs.List.{AllZip}
use Rattle.nv_rpc.specs.Messages.{Sent}
use Rattle.nv_history.specs.Sessions.{Session}
use Rattle.nv_world.specs.inside.Sessions.{IsSession}
use Rattle.nv_world.specs.inside.Tellings.{session_put, session_updated}
use Rattle.nv_world.proofs.Rounds.{leaves_next, leaves_all, at_index}
use Rattle.nv_world.proofs.telling.put_each.Goals as goal
use Rattle.std.proofs.Common.{subst}

pub loop-session-preserved : goal.loop-session-preserved
loop-session-preserved c = λ capacity ys following pairs.
    leaves_next capacity _ c.loop-session.sessions c.put_at.new.sessions c.args.several.now c.loop-session.session-index _ ys c.loop-session-test.true
    (at_index c.args.several.now c.loop-session.session-index 0 c.loop-session-test.true)
    (λ zs is. subst (λ (m : Sent). AllZip (IsSession capacity) c.put_at.new.sessions (session_updated (session_put c.args.at capacity m following) (get_or c.args.several.now c.loop-session.session-index 0) zs)) c.in_ok-message.ensures
    (c.put_at.ensures capacity zs following is))
    (c.loop-session.invariant capacity ys following pairs)

pub returns : goal.returns
returns c = λ capacity ys following pairs.
    leaves_all capacity _ c.loop-session.sessions c.args.several.now c.loop-session.session-index ys c.loop-session-test.false
    (c.loop-session.invariant capacity ys following pairs)
