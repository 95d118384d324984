use Rattle.std.proofs.Common.{sym, ap, ◌∙◌, subst, arith}
use Rattle.nv_turn.specs.Story.{Has}
use Rattle.nv_turn.specs.inside.Rule.{numbers_carried}
use Rattle.nv_turn.proofs.Publishing.{publish_allowed}
use Rattle.nv_turn.proofs.turn.Turn.add.Goals as goal

pub fetch_add-requires : goal.fetch_add-requires
fetch_add-requires g c =
    let e = c.requires.entry in (
      c.requires.turn ∙ sym (ap (λ z. z.turn) c.self.view_is),
      omega (arith, c.self.invariant.0),
      publish_allowed _ _ _ _ _ _ _ _ e.0 e.1 g.met.T.Story.one_end e.2 c.requires.holder.0
          (subst (λ n. Has n (numbers_carried c.args.seat.me.0)) (sym e.3) c.requires.holder.1) e.4 (omega (arith, e.6, c.ranges.told.fits)),
    )
