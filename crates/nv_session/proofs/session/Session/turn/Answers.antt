use Rattle.nv_session.specs.inside.Serving.{state_of}
use Rattle.nv_session.proofs.Serving.{turned}
use Rattle.nv_session.proofs.session.Session.turn.Goals as goal

pub returns-clause-turns : goal.returns-clause-turns
returns-clause-turns g c =
    let t = c.in_ok-take_piece.ensures.takes in
    let w = c.args.world.now in
    let p = t.2 w c.requires.ready in
    (t.0, t.1, turned _ c.serve_held.result t.0 (state_of c.args.self.now w) (state_of c.take_piece.new.self w) (state_of c.serve_held.new.self c.serve_held.new.world) _ _ p.0 p.1 p.2 p.3 c.serve_held.ensures.serves)
