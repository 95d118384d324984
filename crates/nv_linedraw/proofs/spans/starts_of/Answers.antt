use Rattle.std.proofs.Common.{All, take, subst, arith}
use Rattle.std.proofs.lemmas.List.{take_all}
use Rattle.std.proofs.lemmas.List.Elements.{All-more, All-weaker}
use Rattle.nv_text.specs.declared.piece.Piece.{Piece}
use Rattle.nv_linedraw.specs.inside.Stretches.{IsInStretch}
use Rattle.nv_linedraw.proofs.spans.starts_of.Goals as goal

pub loop-piece-preserved : goal.loop-piece-preserved
loop-piece-preserved c =
    let ps = c.args.pieces.now in
    let k = c.loop-piece.piece-index in
    All-more (λ (p : Piece). IsInStretch c.widened-stretch.result p.from) ps k _ (omega (arith, c.loop-piece-test.true))
    (All-weaker (λ (p : Piece). IsInStretch c.loop-piece.stretch p.from) (λ (p : Piece). IsInStretch c.widened-stretch.result p.from)
    (λ p h. c.widened-stretch.ensures.kept p.from h) (take k ps) c.loop-piece.invariant)
    c.widened-stretch.ensures.more

pub returns : goal.returns
returns c =
    subst (All (λ (p : Piece). IsInStretch c.loop-piece.stretch p.from))
    (take_all c.loop-piece.piece-index c.args.pieces.now (omega (arith, c.loop-piece-test.false))) c.loop-piece.invariant
