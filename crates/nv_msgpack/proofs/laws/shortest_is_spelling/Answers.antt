use Rattle.std.proofs.Common.{arith}
use Rattle.nv_msgpack.specs.Shortest.{depth}
use Rattle.nv_msgpack.proofs.Spelled.{spelled}
use Rattle.nv_msgpack.proofs.laws.shortest_is_spelling.Goals as goal

pub returns : goal.returns
returns c = λ t has ranged. spelled t ranged has (depth t) (omega arith)
