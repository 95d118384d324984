use Rattle.std.proofs.Common.{◌≡◌, ◌+◌, ◌≤◌, option_map, ℕ, length}
use Rattle.std.specs.Vec.Iter.{into_iter_items, into_iter_len}
use Rattle.nv_io.specs.Known.{append_items}
use Rattle.nv_serve.specs.Jobs.{lanes_of}
use Rattle.nv_run.specs.inside.Lanes.{AreOut}
use Rattle.nv_run.proofs.lanes.give_back.Given as goal

abbrev pub invariant-loop-job : goal.invariant-loop-job
invariant-loop-job g l = record {
  left : into_iter_len l.job-iterator ≡ length (into_iter_items l.job-iterator);
  out : AreOut (g.P.Port.words l.port).lent (length (into_iter_items l.job-iterator));
  back : append_items (g.P.Port.words l.port).returned (lanes_of (into_iter_items l.job-iterator))
      ≡ append_items (g.P.Port.words l.fn.port).returned (lanes_of l.fn.jobs.items);
  done : ℕ;
  all : done + length (into_iter_items l.job-iterator) ≡ length l.fn.jobs.items;
  lent : (g.P.Port.words l.fn.port).lent ≡ option_map (λ n. n + done) (g.P.Port.words l.port).lent;
  later : (g.P.Port.words l.fn.port).faults ≤ (g.P.Port.words l.port).faults;
}
