use Rattle.std.proofs.Common.{arith, sym, ◌∙◌}
use Rattle.nv_serve.specs.inside.Jobs.{is_failed}
use Rattle.nv_serve.proofs.Placing.{none_next}
use Rattle.nv_serve.proofs.serving.has_failed.Goals as goal

pub loop-job-init : goal.loop-job-init
loop-job-init g c = λ i d lt. absurd (omega (arith, lt))

pub loop-job-preserved : goal.loop-job-preserved
loop-job-preserved g c =
    none_next is_failed c.args.jobs.now c.loop-job.job-index c.job-item.result c.loop-job-test.true c.job-item.is (sym c.is_failed.ensures ∙ c.if-is_failed.false) c.loop-job.invariant

pub returns-clause-none : goal.returns-clause-none
returns-clause-none g c = λ e i d lt. let past = c.loop-job-test.false in c.loop-job.invariant i d (omega (arith, lt, past))
