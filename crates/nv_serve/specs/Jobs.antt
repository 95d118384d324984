-- Lanes that are to be served.
use Rattle.std.specs.Prelude.{List, map}
use Rattle.nv_serve.specs.declared.job.Job.{Job}

-- the lanes
abbrev pub lanes_of : {C L : Type 0} → List (Job C L) → List L
lanes_of jobs = map (λ job. job.lane) jobs
