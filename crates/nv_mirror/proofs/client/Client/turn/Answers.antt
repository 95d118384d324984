use Rattle.std.proofs.Common.{[], ◌∙◌}
use Rattle.std.proofs.lemmas.Result.{err_from_is_err_and, on_ok_weaker}
use Rattle.std.specs.Io.KnownBytes.{IsAtEnd}
use Rattle.nv_mirror.specs.inside.Steps.{standing_of}
use Rattle.nv_mirror.proofs.Outs.{known_none}
use Rattle.nv_mirror.proofs.Standings.{steps_turn}
use Rattle.nv_mirror.proofs.client.Client.turn.Goals as goal

pub returns-in_err-take_piece-clause-turns : goal.returns-in_err-take_piece-clause-turns
returns-in_err-take_piece-clause-turns g c =
    let t = c.in_err-take_piece.ensures.takes in
    let p = err_from_is_err_and c.from_residual.result c.from_residual.ensures.1 in
    rw (p.1, p.2) (t.0, [], t.1, known_none _, t.2, tt)

pub returns-clause-turns : goal.returns-clause-turns
returns-clause-turns g c =
    let t = c.in_ok-take_piece.ensures.takes in
    let s = c.take_held.ensures.steps in (
      t.0,
      s.0,
      t.1,
      s.1,
      steps_turn (IsAtEnd (g.I.Source.words c.take_piece.new.input).left) c.take_held.result t.0 s.0 (standing_of c.args.self.now) (standing_of c.take_piece.new.self) (standing_of c.take_held.new.self) t.2 s.2,
      on_ok_weaker c.take_held.result (λ e. (t.3.0, t.3.1, e ∙ t.3.2)) c.take_held.ensures.same,
    )
