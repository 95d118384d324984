use Rattle.std.proofs.Common.{◌≡◌, ◌++◌, List, [], sym, ap, ◌∙◌, append-nil}
use Rattle.nv_editor.specs.Facts.{fact_of}
use Rattle.nv_editor.specs.declared.happened.Fact.{Fact}
use Rattle.nv_world.specs.declared.step.Moved.{Moved}
use Rattle.nv_world.specs.inside.Splicing.{splice_told}
use Rattle.nv_world.proofs.Splicings.{told_next, told_whole}
use Rattle.nv_world.proofs.splicing.put_splices.Goals as goal

pub loop-fact-preserved : goal.loop-fact-preserved
loop-fact-preserved c =
    told_next c.args.facts.now c.loop-fact.fact-index c.fact-item.result _ c.loop-fact.splices.items _ c.loop-fact-test.true c.loop-fact.invariant
    (c.in_ok-put_splice.ensures ∙ ap (λ (f : Fact). c.loop-fact.splices.items ++ splice_told (fact_of f)) c.fact-item.is)

pub returns : goal.returns
returns c = told_whole c.args.facts.now c.loop-fact.fact-index _ _ c.loop-fact-test.false c.loop-fact.invariant
