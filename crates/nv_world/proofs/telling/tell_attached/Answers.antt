use Rattle.std.proofs.Common.{◌≡◌, ℤ, true, false, sym, subst, ◌∙◌, ◌∷◌, nat_abs, rules, to_z, of_z}
use Rattle.std.specs.Int.{w64}
use Rattle.std.specs.List.{AllZip}
use Rattle.nv_rpc.specs.Messages.{Sent}
use Rattle.nv_subs.specs.Attachments.{HasSessions, is_session_of, sessions_of, with_session}
use Rattle.nv_history.specs.Sessions.{first_message}
use Rattle.nv_core.specs.Contents.{sent_of_shared}
use Rattle.nv_world.specs.inside.Sessions.{IsSession}
use Rattle.nv_world.specs.inside.Tellings.{session_put, session_updated}
use Rattle.nv_world.proofs.Members.{other_false, other_true}
use Rattle.nv_world.proofs.Hearings.{attached_shut, attached_again, attached_new}
use Rattle.nv_world.proofs.telling.tell_attached.Goals as goal

pub returns-then-is_closed : goal.returns-then-is_closed
returns-then-is_closed c = λ capacity ys old.
    attached_shut c.args.at capacity c.args.caller c.args.buffer (nat_abs c.args.tick) c.args.whole c.args.subs.now c.args.sessions.now ys
    c.requires.caller.0 c.requires.caller.1 (sym c.is_closed.ensures ∙ c.if-is_closed.true) old

pub returns-then-not-branch : goal.returns-then-not-branch
returns-then-not-branch c = λ capacity ys old.
    let e : to_z w64 (of_z w64 c.args.buffer) ≡ c.args.buffer = search rules in
    attached_again c.args.at capacity c.args.caller c.args.buffer (nat_abs c.args.tick) c.args.whole c.args.subs.now c.attach.new.self c.args.sessions.now ys
    c.requires.caller.0
    (subst (λ (n : ℤ). HasSessions c.args.subs.now c.attach.new.self n (with_session c.args.caller (sessions_of c.args.subs.now n))) e c.in_ok-attach.ensures.ok)
    (subst (λ (n : ℤ). is_session_of (sessions_of c.args.subs.now n) c.args.caller ≡ true) e (other_false _ _ c.in_ok-attach.ensures.added c.if-not-branch.true)) old

pub returns : goal.returns
returns c = λ capacity ys old.
    let e : to_z w64 (of_z w64 c.args.buffer) ≡ c.args.buffer = search rules in
    let t : to_z w64 (of_z w64 c.args.tick) ≡ c.args.tick = search rules in
    let message : sent_of_shared c.in_ok-message.message ≡ first_message c.args.buffer (nat_abs c.args.tick) c.args.whole =
    subst (λ (n : ℤ). sent_of_shared c.in_ok-message.message ≡ first_message n (nat_abs c.args.tick) c.args.whole) e
    (subst (λ (n : ℤ). sent_of_shared c.in_ok-message.message ≡ first_message (to_z w64 (of_z w64 c.args.buffer)) (nat_abs n) c.args.whole) t c.in_ok-message.ensures.first) in
    attached_new c.args.at capacity c.args.caller c.args.buffer (nat_abs c.args.tick) c.args.whole c.args.subs.now c.attach.new.self c.tell_one.new.subs c.args.sessions.now c.tell_one.new.sessions ys
    c.requires.caller.0 c.requires.caller.1
    (subst (λ (n : ℤ). HasSessions c.args.subs.now c.attach.new.self n (with_session c.args.caller (sessions_of c.args.subs.now n))) e c.in_ok-attach.ensures.ok)
    (subst (λ (n : ℤ). is_session_of (sessions_of c.args.subs.now n) c.args.caller ≡ false) e (other_true _ _ c.in_ok-attach.ensures.added c.if-not-branch.false)) old
    (subst (λ (m : Sent). AllZip (IsSession capacity) c.tell_one.new.sessions (session_updated (session_put c.args.at capacity m (λ x. c.args.buffer ∷ x.following)) c.args.caller ys))
    message (c.tell_one.ensures.sessions capacity ys (λ x. c.args.buffer ∷ x.following) old.pairs))
    c.tell_one.ensures.told
