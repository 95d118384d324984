use Rattle.nv_msgpack.specs.Shortest.{shortest}
use Rattle.nv_msgpack.proofs.Complete.{complete}
use Rattle.nv_msgpack.proofs.Spelled.{spelled}
use Rattle.nv_msgpack.proofs.laws.encoded_is_read.Goals as goal

pub returns : goal.returns
returns c = λ t tail nested most has ranged deep long. complete nested t (shortest t) tail most (spelled t ranged has nested deep) long
