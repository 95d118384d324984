use Rattle.std.proofs.Common.{◌≡◌, ℤ, true, false, sym, ◌∙◌, subst, rules, to_z, of_z}
use Rattle.std.specs.Int.{w64}
use Rattle.nv_subs.specs.Attachments.{HasSessions, is_session_of, sessions_of, without_session}
use Rattle.nv_history.specs.Sessions.{without_following}
use Rattle.std.specs.List.{AllZip}
use Rattle.nv_rpc.specs.Messages.{detach_event}
use Rattle.nv_world.specs.inside.Sessions.{IsSession}
use Rattle.nv_world.specs.inside.Tellings.{session_put, session_updated}
use Rattle.nv_world.proofs.Hearings.{detached_there, detached_absent}
use Rattle.nv_world.proofs.telling.tell_detached.Goals as goal

pub returns-then-detach : goal.returns-then-detach
returns-then-detach c = λ capacity ys old.
    let e : to_z w64 (of_z w64 c.args.buffer) ≡ c.args.buffer = search rules in
    detached_there c.args.at capacity c.args.caller c.args.buffer c.args.subs.now c.detach.new.self c.tell_one.new.subs c.args.sessions.now c.tell_one.new.sessions ys
    c.requires.caller.0 c.requires.caller.1
    (subst (λ (n : ℤ). HasSessions c.args.subs.now c.detach.new.self n (without_session c.args.caller (sessions_of c.args.subs.now n))) e c.detach.ensures.value)
    (subst (λ (n : ℤ). is_session_of (sessions_of c.args.subs.now n) c.args.caller ≡ true) e (sym c.detach.ensures.removed ∙ c.if-detach.true)) old
    (subst (λ (n : ℤ). AllZip (IsSession capacity) c.tell_one.new.sessions
    (session_updated (session_put c.args.at capacity (detach_event n) (λ x. (without_following c.args.buffer x).following)) c.args.caller ys)) e
    (c.tell_one.ensures.sessions capacity ys (λ x. (without_following c.args.buffer x).following) old.pairs)) c.tell_one.ensures.told

pub returns-else-detach : goal.returns-else-detach
returns-else-detach c = λ capacity ys old.
    let e : to_z w64 (of_z w64 c.args.buffer) ≡ c.args.buffer = search rules in
    detached_absent c.args.at capacity c.args.caller c.args.buffer c.args.subs.now c.detach.new.self c.args.sessions.now ys
    c.requires.caller.0
    (subst (λ (n : ℤ). HasSessions c.args.subs.now c.detach.new.self n (without_session c.args.caller (sessions_of c.args.subs.now n))) e c.detach.ensures.value)
    (subst (λ (n : ℤ). is_session_of (sessions_of c.args.subs.now n) c.args.caller ≡ false) e (sym c.detach.ensures.removed ∙ c.if-detach.false)) old
