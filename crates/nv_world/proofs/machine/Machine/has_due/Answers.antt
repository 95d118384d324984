use Rattle.std.proofs.Common.{◌≡◌, Bool, Option, not, sym, ap, ◌∙◌, subst, arith}
use Rattle.nv_history.specs.Sessions.{Session}
use Rattle.nv_history.specs.Worlds.{is_nothing_due, is_scene_due}
use Rattle.nv_core.specs.Sessions.{is_any_due}
use Rattle.nv_world.specs.declared.session.Session.{Session as Kept}
use Rattle.nv_world.specs.inside.Sessions.{IsSession}
use Rattle.nv_world.proofs.Finding.{found, session_absent}
use Rattle.nv_world.proofs.Standings.{due_is}
use Rattle.nv_world.proofs.Steppings.{nobody_has}
use Rattle.nv_world.proofs.machine.Machine.has_due.Goals as goal

pub returns-in-Some : goal.returns-in-Some
returns-in-Some c = λ w stands.
    let f = found w.capacity c.args.self.now.state.sessions.items w c.args.session c.in-Some.place c.index-found.result.now c.in-Some.ensures.0
    (omega (arith, c.args.self.now.state.sessions.ok.0, c.in-Some.ensures.1)) stands.sessions.pairs in
    let was : IsSession w.capacity c.index-found.result.now f.y = subst (λ (x : Kept). IsSession w.capacity x f.y) (sym c.index-found.ensures) f.is in
    let due : c.is_scene_due-is_due.result ≡ is_scene_due w c.args.session f.y =
    c.is_scene_due-is_due.ensures ∙ due_is c.args.self.now.state w c.args.session f.y _ _ stands c.uis-uis.ensures.uis was.shown in
    c.is_any_due.ensures w.capacity f.y was
    ∙ ap (λ (b : Bool). not (is_nothing_due f.y.waiting b)) due
    ∙ sym (ap (λ (o : Option Session). is_any_due w c.args.session o) f.is_of)

pub returns-in-None : goal.returns-in-None
returns-in-None c = λ w stands.
    let none = nobody_has w.capacity c.args.self.now.state.sessions.items w.sessions c.len.result c.args.session stands.sessions.pairs
    (omega (arith, c.args.self.now.state.sessions.ok.0)) c.in-None.ensures in
    sym (ap (λ (o : Option Session). is_any_due w c.args.session o) (session_absent w c.args.session none))
