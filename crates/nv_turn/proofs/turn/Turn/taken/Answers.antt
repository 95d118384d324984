use Rattle.std.proofs.Common.{sym, ap, ◌∙◌, arith}
use Rattle.nv_turn.proofs.Looking.{look_allowed}
use Rattle.nv_turn.proofs.Taking.{in_hand}
use Rattle.nv_turn.proofs.turn.Turn.taken.Goals as goal

pub load-count-requires : goal.load-count-requires
load-count-requires g c = (
  c.requires.turn ∙ sym (ap (λ z. z.turn) c.self.view_is),
  omega (arith, c.self.invariant.0),
  look_allowed _ _ _ _ _ _ _ _ _ c.requires.holder.1,
)

pub exchange-slot-requires : goal.exchange-slot-requires
exchange-slot-requires g c =
    let looked = c.load-count.ensures in (
      looked.0 ∙ (c.requires.turn ∙ sym (ap (λ z. z.turn) c.self.view_is)),
      (_, in_hand _ _ (ap (λ m. m.1) looked.2.1 ∙ c.requires.slot.1)),
    )
