use Rattle.std.proofs.Common.{◌≡◌, ◌+◌, ◌-◌, ◌<◌, ℕ, length, drop, arith}
use Rattle.std.proofs.lemmas.Option.{IfSome_then}
use Rattle.nv_value.specs.Content.{text}
use Rattle.nv_msgpack.specs.FirstByte.{form_seen}
use Rattle.nv_msgpack.specs.Reading.{after, none, whole, read_by, IsReadAt}
use Rattle.nv_msgpack.proofs.Requests.{stands_plain}
use Rattle.nv_msgpack.proofs.pieces.text_at.Goals as goal

pub returns-clause-stands : goal.returns-clause-stands
returns-clause-stands c =
    let l : c.args.at < length c.args.bytes.now = omega arith in
    let f = form_seen c.first_byte.result in
    IfSome_then c.text_of.result c.text_of.ensures
    (λ found e. stands_plain c.args.limit c.args.at c.args.bytes.now f (text found.0.now) found.1 l c.first_byte.ensures e)
