use Rattle.nv_msgpack.proofs.Least.{shortest_is_least}
use Rattle.nv_msgpack.proofs.laws.shortest_is_least.Goals as goal

pub returns : goal.returns
returns c = shortest_is_least
