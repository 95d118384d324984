use Rattle.std.proofs.Common.{◌≡◌, ℕ, ◌<◌, false, slice_index_or}
use Rattle.nv_serve.specs.declared.job.Job.{Job}
use Rattle.nv_serve.specs.inside.Jobs.{is_failed}
use Rattle.nv_serve.proofs.serving.has_failed.Given as goal

abbrev pub invariant-loop-job : goal.invariant-loop-job
invariant-loop-job g l = (i : ℕ) (d : Job _ _) → i < l.job-index → is_failed (slice_index_or l.jobs i d).end ≡ false
