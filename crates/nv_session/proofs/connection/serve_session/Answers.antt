use Rattle.std.proofs.Common.{sym, subst}
use Rattle.nv_halves.specs.Passes.{plain_pass}
use Rattle.nv_io.specs.Words.{HalvesWords}
use Rattle.nv_session.specs.inside.Opened.{ServesHalves}
use Rattle.nv_session.proofs.Connecting.{halves_serve}
use Rattle.nv_session.proofs.connection.serve_session.Goals as goal

pub returns-clause-serves : goal.returns-clause-serves
returns-clause-serves g c =
    let t : HalvesWords g.row.I.Denot g.row.S.Denot = record { input = g.I.Source.words; output = g.S.Sink.words } in
    let both = c.run_halves-reader.result in
    let e = c.run_halves-reader.ensures in
    subst (λ how. ServesHalves t (plain_pass c.args.first) (plain_pass c.args.second) (plain_pass both.0.pass) (plain_pass both.1.pass) c.args.input both.0.input c.args.output both.1.output c.args.session how) (sym c.joined-how.ensures)
    (halves_serve t (plain_pass c.args.first) (plain_pass c.args.second) (plain_pass both.0.pass) (plain_pass both.1.pass) c.args.input both.0.input c.args.output both.1.output c.args.session both.0.end both.1.end
    c.requires.start e.first e.second e.read e.closes e.wrote e.write_fault)
