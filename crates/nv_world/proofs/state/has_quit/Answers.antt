use Rattle.std.proofs.Common.{sym, ap, ◌∙◌, arith}
use Rattle.nv_editor.specs.Facts.{fact_of}
use Rattle.nv_editor.specs.declared.happened.Fact.{Fact}
use Rattle.nv_history.specs.Sessions.{is_quit}
use Rattle.nv_world.proofs.Finding.{quits_next, quits_here, quits_never}
use Rattle.nv_world.proofs.state.has_quit.Goals as goal

pub returns-then-is_quit : goal.returns-then-is_quit
returns-then-is_quit c =
    quits_here c.args.facts.now c.loop-fact.fact-index c.fact-item.result c.loop-fact-test.true
    (ap (λ (f : Fact). is_quit (fact_of f)) (sym c.fact-item.is) ∙ sym c.is_quit.ensures ∙ c.if-is_quit.true)

pub loop-fact-preserved : goal.loop-fact-preserved
loop-fact-preserved c =
    quits_next c.args.facts.now c.loop-fact.fact-index c.fact-item.result c.loop-fact-test.true
    (ap (λ (f : Fact). is_quit (fact_of f)) (sym c.fact-item.is) ∙ sym c.is_quit.ensures ∙ c.if-is_quit.false) c.loop-fact.invariant

pub returns : goal.returns
returns c = quits_never c.args.facts.now c.loop-fact.fact-index c.loop-fact-test.false c.loop-fact.invariant
