use Rattle.std.proofs.Common.{◌≡◌, ℕ, suc, List, sym, ap, ◌∙◌, subst, add-one}
use Rattle.nv_subs.specs.Attachments.{sessions_of, without_session}
use Rattle.nv_history.specs.Events.{closed_at}
use Rattle.nv_history.specs.Sessions.{session_closed_by}
use Rattle.nv_history.specs.Worlds.{with_session_at}
use Rattle.nv_world.specs.declared.session.Session.{Session as Kept}
use Rattle.nv_world.specs.inside.Sessions.{IsSession}
use Rattle.nv_world.proofs.Rounds.{kept_at}
use Rattle.nv_world.proofs.Stating.{without_closed}
use Rattle.nv_world.proofs.state.close_at.Goals as goal

pub returns-clause-world : goal.returns-clause-world
returns-clause-world c = λ w y stands at there.
    let old = stands.sessions in
    let was : IsSession w.capacity c.index_mut.result.now y =
    subst (λ (x : Kept). IsSession w.capacity x y) (sym c.index_mut.ensures.value)
    (kept_at w.capacity c.args.state.now.sessions.items w.sessions c.args.place c.index_mut.result.now y old.pairs there) in
    let is : IsSession w.capacity c.close.new.session (session_closed_by (closed_at w.entries) y) =
    subst (λ (k : ℕ). IsSession w.capacity c.close.new.session (session_closed_by (closed_at k) y)) (sym at)
    (c.close.ensures w.capacity y was) in
    record {
      editor = stands.editor;
      sealed = stands.sealed;
      sessions = without_closed w.capacity c.args.place (closed_at w.entries) c.args.state.now.subs c.leave.new.self c.args.state.now.sessions.items w.sessions c.close.new.session y
          old there is
          (λ n. c.leave.ensures n ∙ ap (λ (s : ℕ). without_session s (sessions_of c.args.state.now.subs n)) (add-one c.args.place));
      ended = stands.ended;
      stamp = stands.stamp;
    }
