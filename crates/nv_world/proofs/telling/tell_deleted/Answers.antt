use Rattle.std.proofs.Common.{◌≡◌, ℕ, ℤ, List, [], filter, subst, rules, to_z, of_z}
use Rattle.std.specs.Int.{w64}
use Rattle.std.specs.List.{AllZip}
use Rattle.nv_rpc.specs.Messages.{detach_event}
use Rattle.nv_subs.specs.Attachments.{AreRising, HasSessions, sessions_of, without_sessions}
use Rattle.nv_history.specs.Sessions.{without_following}
use Rattle.nv_world.specs.inside.Sessions.{IsSession}
use Rattle.nv_world.specs.inside.Tellings.{session_put, sessions_updated, is_closed_at}
use Rattle.nv_world.proofs.Hearings.{deletion_heard}
use Rattle.nv_world.proofs.telling.tell_deleted.Goals as goal

pub returns : goal.returns
returns c = λ capacity caller ys old.
    let e : to_z w64 (of_z w64 c.args.buffer) ≡ c.args.buffer = search rules in
    deletion_heard c.args.at capacity caller c.args.buffer c.args.subs.now c.tell_all.new.subs c.gone.new.self c.args.sessions.now c.tell_all.new.sessions ys
    (subst (λ (n : ℤ). AreRising (sessions_of c.args.subs.now n)) e c.in_ok-tell_all.ensures.rising) old
    (subst (λ (n : ℤ). AllZip (IsSession capacity) c.tell_all.new.sessions
    (sessions_updated (session_put c.args.at capacity (detach_event n) (λ x. (without_following c.args.buffer x).following)) (sessions_of c.args.subs.now n) ys)) e
    (c.in_ok-tell_all.ensures.sessions capacity ys (λ x. (without_following c.args.buffer x).following) old.pairs))
    (subst (λ (n : ℤ). (k : ℤ) → sessions_of c.tell_all.new.subs k ≡ without_sessions (filter (is_closed_at c.tell_all.new.sessions) (sessions_of c.args.subs.now n)) (sessions_of c.args.subs.now k)) e
    c.in_ok-tell_all.ensures.told)
    (subst (λ (n : ℤ). HasSessions c.tell_all.new.subs c.gone.new.self n []) e c.gone.ensures)
