use Rattle.std.proofs.Common.{◌+◌, ◌++◌, length, ap, sym, ◌∙◌, arith}
use Rattle.nv_text.proofs.PlainLemmas.{plain_more, plain_done, plain_placed}
use Rattle.nv_text.proofs.cutting.push_plain.Goals as goal

pub loop-at-preserved : goal.loop-at-preserved
loop-at-preserved c =
    plain_more c.loop-at.at (c.args.from + length c.args.text.now) _ _ _ (omega arith) c.in_ok-push.ensures.items c.loop-at.invariant

pub returns : goal.returns
returns c =
    plain_done c.loop-at.at (c.args.from + length c.args.text.now) _ _ (omega arith) c.loop-at.invariant
    ∙ ap (λ t. c.args.pieces.now.items ++ t) (sym (plain_placed c.args.from c.args.text.now c.requires.plain))
