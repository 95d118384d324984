use Rattle.nv_msgpack.proofs.Least.{spelled_has_spelling}
use Rattle.nv_msgpack.proofs.laws.spelled_has_spelling.Goals as goal

pub returns : goal.returns
returns c = spelled_has_spelling
