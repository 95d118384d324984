use Rattle.nv_halves.proofs.AskedOrder.{sessions_ask_in_order}
use Rattle.nv_halves.proofs.laws.asking_law.Goals as goal

pub returns : goal.returns
returns c = sessions_ask_in_order
