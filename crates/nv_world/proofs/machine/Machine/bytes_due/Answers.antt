use Rattle.std.proofs.Common.{Option, sym, ap, ◌∙◌, subst, arith}
use Rattle.nv_history.specs.Sessions.{Session}
use Rattle.nv_core.specs.Sizes.{bytes_due}
use Rattle.nv_world.specs.declared.session.Session.{Session as Kept}
use Rattle.nv_world.specs.inside.Sessions.{IsSession}
use Rattle.nv_world.proofs.Finding.{found, session_absent}
use Rattle.nv_world.proofs.Steppings.{nobody_has}
use Rattle.nv_world.proofs.machine.Machine.bytes_due.Goals as goal

pub returns-in-Some : goal.returns-in-Some
returns-in-Some c = λ w stands.
    let f = found w.capacity c.args.self.now.state.sessions.items w c.args.session c.in-Some.place c.index-found.result.now c.in-Some.ensures.0
    (omega (arith, c.args.self.now.state.sessions.ok.0, c.in-Some.ensures.1)) stands.sessions.pairs in
    let was : IsSession w.capacity c.index-found.result.now f.y = subst (λ (x : Kept). IsSession w.capacity x f.y) (sym c.index-found.ensures) f.is in
    c.bytes_due.ensures w.capacity f.y was ∙ sym (ap (λ (o : Option Session). bytes_due o) f.is_of)

pub returns-in-None : goal.returns-in-None
returns-in-None c = λ w stands.
    let none = nobody_has w.capacity c.args.self.now.state.sessions.items w.sessions c.len.result c.args.session stands.sessions.pairs
    (omega (arith, c.args.self.now.state.sessions.ok.0)) c.in-None.ensures in
    sym (ap (λ (o : Option Session). bytes_due o) (session_absent w c.args.session none))
