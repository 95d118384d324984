use Rattle.nv_history.proofs.ExampleRuns.{line_count_runs, quit_all_runs, attach_atomic_runs, attach_ticking_runs, notifications_run, deleted_buffer_runs, outbox_overflow_runs, held_runs, last_entry_runs}
use Rattle.nv_history.proofs.laws.worked_histories.Goals as goal

pub returns : goal.returns
returns c = record {
  line_count = line_count_runs;
  quit_all = quit_all_runs;
  attach_atomic = attach_atomic_runs;
  attach_ticking = attach_ticking_runs;
  notifications = notifications_run;
  deleted_buffer = deleted_buffer_runs;
  outbox_overflow = outbox_overflow_runs;
  held = held_runs;
  last_entry = last_entry_runs;
}
