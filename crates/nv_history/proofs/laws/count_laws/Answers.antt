use Rattle.nv_history.proofs.Counting.{histories_count, numbers_are_sessions}
use Rattle.nv_history.proofs.laws.count_laws.Goals as goal

pub returns : goal.returns
returns c = record { histories = histories_count; numbers = numbers_are_sessions }
