use Rattle.std.proofs.Common.{sym, ap, ◌∙◌, arith}
use Rattle.nv_turn.proofs.Taking.{give_allowed}
use Rattle.nv_turn.proofs.turn.Turn.give.Goals as goal

pub store-requires-2 : goal.store-requires-2
store-requires-2 g c =
    let v = c.requires.value in (
      c.requires.turn ∙ sym (ap (λ z. z.turn) c.self.view_is),
      omega (arith, c.self.invariant.0),
      give_allowed _ _ _ _ _ _ _ _ v.0 v.1 c.requires.holder.0 v.2 v.3,
    )
