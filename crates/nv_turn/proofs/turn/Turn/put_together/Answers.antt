use Rattle.std.proofs.Common.{sym, ap, ◌∙◌, arith}
use Rattle.nv_turn.proofs.Joining.{join_allowed, merge_allowed}
use Rattle.nv_turn.proofs.turn.Turn.put_together.Goals as goal

pub join_seat-requires : goal.join_seat-requires
join_seat-requires g c = (
  c.requires.turn.0 ∙ sym (ap (λ z. z.turn) c.self.view_is),
  c.requires.turn.1 ∙ sym (ap (λ z. z.turn) c.self.view_is),
  c.requires.rest.2,
  omega (arith, c.self.invariant.0),
  join_allowed _ _ _ _ _ _ _ _ _ _ c.requires.number.1 c.requires.rest.0 c.requires.rest.1,
)

pub load-requires : goal.load-requires
load-requires g c = (
  c.join_seat.ensures.0 ∙ (c.requires.turn.0 ∙ sym (ap (λ z. z.turn) c.self.view_is)),
  omega (arith, c.self.invariant.0),
  merge_allowed _ _ _ _ _ _ _ _ (ap (λ m. m.0.holds) c.join_seat.ensures.2 ∙ c.requires.rest.0),
)
