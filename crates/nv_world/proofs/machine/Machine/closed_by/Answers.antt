use Rattle.std.proofs.Common.{option_map, sym, ap, ◌∙◌, arith}
use Rattle.nv_core.specs.Contents.{plain_cause}
use Rattle.nv_core.specs.Sessions.{cause_of}
use Rattle.nv_world.specs.declared.session.Session.{Session as Kept}
use Rattle.nv_world.proofs.Finding.{found, session_absent}
use Rattle.nv_world.proofs.Steppings.{nobody_has}
use Rattle.nv_world.proofs.machine.Machine.closed_by.Goals as goal

pub returns-in-Some : goal.returns-in-Some
returns-in-Some c = λ w stands.
    let f = found w.capacity c.args.self.now.state.sessions.items w c.args.session c.in-Some.place c.index.result.now c.in-Some.ensures.0
    (omega (arith, c.args.self.now.state.sessions.ok.0, c.in-Some.ensures.1)) stands.sessions.pairs in
    ap (λ (x : Kept). option_map plain_cause x.closed) c.index.ensures ∙ f.is.closed ∙ sym (ap cause_of f.is_of)

pub returns-in-None : goal.returns-in-None
returns-in-None c = λ w stands.
    let none = nobody_has w.capacity c.args.self.now.state.sessions.items w.sessions c.len.result c.args.session stands.sessions.pairs
    (omega (arith, c.args.self.now.state.sessions.ok.0)) c.in-None.ensures in
    sym (ap cause_of (session_absent w c.args.session none))
