use Rattle.nv_history.proofs.SoloRunning.{solo_runs}
use Rattle.nv_history.proofs.laws.solo_law.Goals as goal

pub returns : goal.returns
returns c = solo_runs
