use Rattle.std.proofs.Common.{◌+◌, ◌++◌, length, ap, ◌∙◌, arith}
use Rattle.nv_text.specs.Pieces.{parts, pieces_from}
use Rattle.nv_text.proofs.PartLemmas.{pieces_more, pieces_last}
use Rattle.nv_text.proofs.cutting.pieces.Goals as goal

pub returns-then-front-rest : goal.returns-then-front-rest
returns-then-front-rest c =
    pieces_last c.loop-pieces.rest.now c.text_at_front-front.result.now c.loop-pieces.from _ _ _
    (c.text_at_front-front.ensures.value, c.text_at_front-front.ensures.len) (omega arith) c.in_ok-push_text.ensures c.loop-pieces.invariant.cut

pub loop-pieces-preserved : goal.loop-pieces-preserved
loop-pieces-preserved c = record {
  cut = ap (λ t. c.push.new.self.items ++ pieces_from (c.loop-pieces.from + length c.text_at_front-front.result.now + 1) (parts t)) c.split_at.ensures.back
      ∙ pieces_more c.loop-pieces.rest.now c.text_at_front-front.result.now c.loop-pieces.from _ _ _ _
      (c.text_at_front-front.ensures.value, c.text_at_front-front.ensures.len) (omega arith) c.in_ok-push_text.ensures c.in_ok-push.ensures.items
      c.loop-pieces.invariant.cut;
  place = omega (arith, c.split_at.ensures.back_len, c.loop-pieces.invariant.place);
}
