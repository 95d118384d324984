use Rattle.std.proofs.Common.{◌≡◌, ◌+◌, ◌≤◌, All, option_map, vec_len, vec_capacity, ℕ}
use Rattle.nv_io.specs.Lanes.{IsFreshLane}
use Rattle.nv_serve.specs.Jobs.{lanes_of}
use Rattle.nv_run.proofs.lanes.take_lanes.Given as goal

abbrev pub invariant-loop : goal.invariant-loop
invariant-loop g l =
    (vec_len l.jobs ≡ l.counter) × (l.counter ≤ l.fn.count) × (vec_capacity l.jobs ≡ vec_capacity l.fn.jobs)
    × All (λ lane. IsFreshLane (g.P.Line.Lane.words lane).over (g.P.Line.Lane.words lane).lent (g.P.Line.Lane.words lane).faults) (lanes_of l.jobs.items)
    × ((g.P.Port.words l.port).returned ≡ (g.P.Port.words l.fn.port).returned)
    × ((g.P.Port.words l.port).lent ≡ option_map (λ n. n + vec_len l.jobs) (g.P.Port.words l.fn.port).lent)
    × ((g.P.Port.words l.fn.port).faults ≤ (g.P.Port.words l.port).faults)
