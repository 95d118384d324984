use Rattle.nv_msgpack.proofs.Apart.{apart}
use Rattle.nv_msgpack.proofs.laws.spellings_are_apart.Goals as goal

pub returns : goal.returns
returns c = apart
