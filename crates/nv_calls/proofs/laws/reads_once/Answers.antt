use Rattle.nv_calls.proofs.ReadsOnce.{reads_once}
use Rattle.nv_calls.proofs.laws.reads_once.Goals as goal

pub returns : goal.returns
returns c = reads_once
