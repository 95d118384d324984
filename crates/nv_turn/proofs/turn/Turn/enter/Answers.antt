use Rattle.std.proofs.Common.{sym, ap, ◌∙◌, subst, arith}
use Rattle.nv_turn.specs.Story.{Has}
use Rattle.nv_turn.specs.inside.Rule.{numbers_carried}
use Rattle.nv_turn.proofs.Taking.{take_allowed}
use Rattle.nv_turn.proofs.turn.Turn.enter.Goals as goal

pub compare_exchange-requires : goal.compare_exchange-requires
compare_exchange-requires g c = (
  c.loop.invariant.table ∙ (ap (λ z. z.turn) c.pass.view_is ∙ (c.requires ∙ sym (ap (λ z. z.turn) c.self.view_is))),
  omega (arith, c.self.invariant.0),
  take_allowed _ _ _ _ _ _ _ _ _ (subst (λ m. Has c.pass.inside.number (numbers_carried m.0)) (sym c.loop.invariant.me) c.pass.invariant.seated.own_number),
)
