use Rattle.std.proofs.Common.{◌≡◌, ℕ, List, Option, true, map, sym, ap, ◌∙◌, subst, arith}
use Rattle.std.specs.List.{AllZip}
use Rattle.nv_subs.specs.Attachments.{Attachments, sessions_of, is_session_of}
use Rattle.nv_history.specs.Sessions.{session_quit}
use Rattle.nv_history.specs.Worlds.{first_end}
use Rattle.nv_world.specs.declared.session.Session.{Session as Kept}
use Rattle.nv_world.specs.inside.Sessions.{IsSession}
use Rattle.nv_world.proofs.Stating.{nobody_after_quit}
use Rattle.nv_world.proofs.Steppings.{whole}
use Rattle.nv_world.proofs.finishing.end.Goals as goal

pub returns-clause-world : goal.returns-clause-world
returns-clause-world c = λ w stands e.
    let pairs : AllZip (IsSession w.capacity) c.quit_each.new.sessions (map (session_quit w.entries) w.sessions) =
    subst (λ (at : ℕ). AllZip (IsSession w.capacity) c.quit_each.new.sessions (map (session_quit at) w.sessions)) (sym e)
    (c.quit_each.ensures w.capacity w.sessions
    (subst (λ (l : List Kept). AllZip (IsSession w.capacity) l w.sessions) (sym c.deref_mut.ensures.value) stands.sessions.pairs)) in
    record {
      editor = stands.editor;
      sealed = stands.sealed;
      sessions = record {
        pairs = subst (λ (l : List Kept). AllZip (IsSession w.capacity) l (map (session_quit w.entries) w.sessions))
            (whole c.args.state.now.sessions.len c.quit_each.new.sessions c.args.state.now.sessions.items (omega (arith, c.quit_each.auto.sessions, c.deref_mut.ensures.len))) pairs;
        told = λ n s. ap (λ (l : Attachments). is_session_of (sessions_of l n) s) c.new.ensures
            ∙ nobody_after_quit w.capacity w.entries c.quit_each.new.sessions w.sessions n s pairs;
      };
      ended = c.first_end-state.ensures ∙ ap (λ (a : ℕ). first_end true a c.args.state.now.ended) (sym e)
          ∙ ap (λ (o : Option ℕ). first_end true w.entries o) stands.ended;
      stamp = stands.stamp;
    }
