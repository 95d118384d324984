use Rattle.std.proofs.Common.{sym, ap, ◌∙◌, arith}
use Rattle.nv_turn.proofs.Looking.{look_allowed}
use Rattle.nv_turn.proofs.turn.Turn.wait.Goals as goal

pub load-count-requires : goal.load-count-requires
load-count-requires g c = (
  ap (λ z. z.turn) c.pass.view_is ∙ (c.requires ∙ sym (ap (λ z. z.turn) c.self.view_is)),
  omega (arith, c.self.invariant.0),
  look_allowed _ _ _ _ _ _ _ _ _ c.pass.invariant.seated.own_number,
)
