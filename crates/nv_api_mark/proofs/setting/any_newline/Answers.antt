use Rattle.std.proofs.Common.{◌∙◌, arith, ap, sym, refl}
use Rattle.std.specs.List.{list_any}
use Rattle.nv_args.specs.Chunks.{GivenChunk}
use Rattle.nv_args.specs.Texts.{has_newline}
use Rattle.nv_api_mark.proofs.Parts.{breaks_here, breaks_later, no_part}
use Rattle.nv_api_mark.proofs.setting.any_newline.Goals as goal

pub loop-item-init : goal.loop-item-init
loop-item-init c = refl

pub loop-item-preserved : goal.loop-item-preserved
loop-item-preserved c =
    sym (breaks_later c.args.items.now c.loop-item.item-index c.item-item.result (omega (arith, c.loop-item-test.true)) c.item-item.is (sym c.holds_newline.ensures ∙ c.if-holds_newline.false))
    ∙ c.loop-item.invariant

pub returns-then-holds_newline : goal.returns-then-holds_newline
returns-then-holds_newline c =
    sym (breaks_here c.args.items.now c.loop-item.item-index c.item-item.result (omega (arith, c.loop-item-test.true)) c.item-item.is (sym c.holds_newline.ensures ∙ c.if-holds_newline.true))
    ∙ c.loop-item.invariant

pub returns : goal.returns
returns c =
    ap (list_any (λ (p : GivenChunk). has_newline p.0)) (sym (no_part c.args.items.now c.loop-item.item-index (omega (arith, c.loop-item-test.false))))
    ∙ c.loop-item.invariant
