use Rattle.std.proofs.Common.{◌<◌, pos, length, arith}
use Rattle.std.proofs.lemmas.Option.{IfSome_then}
use Rattle.nv_value.specs.Content.{integer}
use Rattle.nv_msgpack.specs.FirstByte.{form_seen}
use Rattle.nv_msgpack.proofs.Requests.{stands_plain}
use Rattle.nv_msgpack.proofs.pieces.number_at.Goals as goal

pub returns-clause-stands : goal.returns-clause-stands
returns-clause-stands c =
    let l : c.args.at < length c.args.bytes.now = omega arith in
    IfSome_then c.number_of.result c.number_of.ensures
    (λ found e. stands_plain c.args.limit c.args.at c.args.bytes.now (form_seen c.first_byte.result) (integer (pos found.0)) found.1 l c.first_byte.ensures e)
