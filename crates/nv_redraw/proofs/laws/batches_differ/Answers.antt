use Rattle.nv_redraw.proofs.CandidateLemmas.{one_value_one_batch}
use Rattle.nv_redraw.proofs.laws.batches_differ.Goals as goal

pub returns : goal.returns
returns c = one_value_one_batch
