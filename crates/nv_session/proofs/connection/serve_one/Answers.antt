use Rattle.std.proofs.Common.{ℕ, sym, subst}
use Rattle.nv_halves.specs.Passes.{plain_pass}
use Rattle.nv_io.specs.Words.{HalvesWords}
use Rattle.nv_session.specs.Openings.{Opens, OpensSession}
use Rattle.nv_session.specs.Connections.{ServesSession}
use Rattle.nv_session.proofs.Connecting.{opened_serves}
use Rattle.nv_session.proofs.connection.serve_one.Goals as goal

pub returns-in-Ok-opened-clause-served : goal.returns-in-Ok-opened-clause-served
returns-in-Ok-opened-clause-served g c some =
    let t : HalvesWords g.row.I.Denot g.row.S.Denot = record { input = g.I.Source.words; output = g.S.Sink.words } in
    let out = c.serve_session.result in
    let opens : OpensSession (plain_pass c.args.passes.0) (plain_pass c.open_session-first.result.0) c.in-Ok-opened.session =
    subst (λ r. Opens r (plain_pass c.args.passes.0) (plain_pass c.open_session-first.result.0)) c.in-Ok-opened.is c.open_session-first.ensures in
    subst (λ (n : ℕ). ServesSession t (plain_pass c.args.passes.0) (plain_pass c.args.passes.1) (plain_pass out.passes.0) (plain_pass out.passes.1) c.args.input out.input c.args.output out.output n out.how) (sym c.serve_session.ensures.session)
    (opened_serves t (plain_pass c.args.passes.0) (plain_pass c.open_session-first.result.0) (plain_pass c.args.passes.1) (plain_pass out.passes.0) (plain_pass out.passes.1) c.args.input out.input c.args.output out.output c.in-Ok-opened.session out.how opens c.serve_session.ensures.serves)
