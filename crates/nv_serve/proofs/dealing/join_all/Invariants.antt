use Rattle.std.proofs.Common.{◌≡◌, ℕ, ◌-◌, ◌<◌, ◌≤◌, length, slice_index_or}
use Rattle.nv_serve.specs.declared.job.Job.{Job}
use Rattle.nv_serve.specs.inside.Jobs.{StartsAsLane, IsJoined}
use Rattle.nv_serve.proofs.dealing.join_all.Given as goal

abbrev pub invariant-lanes : goal.invariant-lanes
invariant-lanes g l = record {
  some : 0 < l.at;
  within : l.at ≤ length l.fn.jobs;
  same_length : length l.jobs ≡ length l.fn.jobs;
  turn : l.all.turn ≡ l.turn.turn;
  start : (d : Job _ _) → StartsAsLane (slice_index_or l.fn.jobs 0 d) l.all;
  joined : (i : ℕ) (d : Job _ _) → i < l.at → IsJoined g.C.Story.caller (slice_index_or l.fn.jobs i d) (slice_index_or l.jobs i d) l.all;
  same : (i : ℕ) (d : Job _ _) → l.at ≤ i → slice_index_or l.jobs i d ≡ slice_index_or l.fn.jobs i d;
}

abbrev pub decreases-lanes : goal.decreases-lanes
decreases-lanes g l = length l.fn.jobs - l.at
