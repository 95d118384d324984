use Rattle.nv_msgpack.proofs.Exact.{streams_have_one_cut}
use Rattle.nv_msgpack.proofs.laws.streams_have_one_cut.Goals as goal

pub returns : goal.returns
returns c = streams_have_one_cut
