use Rattle.std.proofs.Common.{◌≡◌, ℕ, ◌*◌, ◌<◌, ◌≤◌, length, vec_len, slice_index_or, Option}
use Rattle.nv_turn.specs.Passes.{first_passes}
use Rattle.nv_core.specs.declared.start.Start.{Start}
use Rattle.nv_serve.specs.declared.job.Job.{Job}
use Rattle.nv_serve.specs.inside.Jobs.{IsDealt}
use Rattle.nv_serve.proofs.dealing.deal.Given as goal

abbrev pub invariant-lanes : goal.invariant-lanes
invariant-lanes g l = record {
  count : vec_len l.passes ≡ 2 * l.rest;
  same_length : length l.jobs ≡ length l.fn.jobs;
  within : l.rest ≤ length l.fn.jobs;
  left : (start : Option Start) → l.fn.passes.items ≡ first_passes l.turn.turn start (2 * length l.fn.jobs) → l.passes.items ≡ first_passes l.turn.turn start (2 * l.rest);
  dealt : (start : Option Start) → l.fn.passes.items ≡ first_passes l.turn.turn start (2 * length l.fn.jobs) → (i : ℕ) (d : Job _ _) → l.rest ≤ i → i < length l.fn.jobs
      → IsDealt l.turn.turn start i (slice_index_or l.fn.jobs i d) (slice_index_or l.jobs i d);
  same : (i : ℕ) (d : Job _ _) → i < l.rest → slice_index_or l.jobs i d ≡ slice_index_or l.fn.jobs i d;
}

abbrev pub decreases-lanes : goal.decreases-lanes
decreases-lanes g l = l.rest
