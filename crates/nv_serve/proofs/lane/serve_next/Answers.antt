use Rattle.std.proofs.Common.{ap, subst, ◌∙◌}
use Rattle.nv_io.specs.declared.lanes.Accepted.{Accepted}
use Rattle.nv_io.specs.Lanes.{connections_of, lent_after, IfConnection}
use Rattle.nv_io.specs.Known.{prepend_items, IsNoItem, IsUnused}
use Rattle.nv_halves.specs.Passes.{plain_pass}
use Rattle.nv_serve.specs.Links.{AreUnusedEnds, LanesWords}
use Rattle.nv_serve.proofs.Chaining.{steps_on}
use Rattle.nv_serve.proofs.lane.serve_next.Goals as goal

pub returns-in-Conn : goal.returns-in-Conn
returns-in-Conn g c =
    let t : LanesWords _ _ _ = record { input = g.L.In.Source.words; output = g.L.Out.Sink.words; lane = g.L.Lane.words } in
    let e = c.accept.ensures in
    let came = e.coming ∙ ap (λ (a : Accepted _ _). prepend_items (connections_of a) (g.L.Lane.words c.accept.new.self).coming) c.in-Conn.is in
    let out = e.lent ∙ ap (λ (a : Accepted _ _). lent_after a (g.L.Lane.words c.args.lane.now).lent) c.in-Conn.is in
    let ends = subst (λ (a : Accepted _ _). IfConnection a (λ input output. IsUnused (g.L.In.Source.words input).taken (g.L.In.Source.words input).faults × IsUnused (g.L.Out.Sink.words output).taken (g.L.Out.Sink.words output).faults)) c.in-Conn.is e.fresh in
    let unread = subst (λ (a : Accepted _ _). IfConnection a (λ input output. IsNoItem (g.L.In.Source.words input).reads)) c.in-Conn.is e.unread in
    let fresh : AreUnusedEnds t c.in-Conn.input c.in-Conn.output = ((ends.0, unread), ends.1) in
    steps_on t c.serve_link.result.1 c.args.passes.0.start (plain_pass c.args.passes.0) (plain_pass c.args.passes.1) (plain_pass c.serve_link.result.0.0) (plain_pass c.serve_link.result.0.1)
    c.args.lane.now c.accept.new.self c.serve_link.new.lane c.in-Conn.input c.in-Conn.output c.serve_link.ensures came e.over out e.later fresh
