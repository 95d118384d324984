use Rattle.nv_stream.proofs.Single as single
use Rattle.nv_stream.proofs.laws.answers_are_one.Goals as goal

pub returns : goal.returns
returns c = single.answers_are_one
