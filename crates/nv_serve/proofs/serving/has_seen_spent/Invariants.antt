use Rattle.std.proofs.Common.{◌≡◌, ℕ, ◌<◌, false, slice_index_or}
use Rattle.nv_serve.specs.declared.job.Job.{Job}
use Rattle.nv_serve.specs.inside.Jobs.{saw_spent}
use Rattle.nv_serve.proofs.serving.has_seen_spent.Given as goal

abbrev pub invariant-loop-job : goal.invariant-loop-job
invariant-loop-job g l = (i : ℕ) (d : Job _ _) → i < l.job-index → saw_spent (slice_index_or l.jobs i d).end ≡ false
