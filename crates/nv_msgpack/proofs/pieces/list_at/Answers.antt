use Rattle.std.proofs.Common.{◌≡◌, ◌+◌, ◌-◌, ◌<◌, ◌≤◌, length, drop, IfSome, arith}
use Rattle.std.proofs.lemmas.Option.{IfSome_then}
use Rattle.std.proofs.lemmas.Result.{IfOk-weaker}
use Rattle.nv_value.specs.Content.{list}
use Rattle.nv_value.specs.View.{contents}
use Rattle.nv_msgpack.specs.FirstByte.{form_seen}
use Rattle.nv_msgpack.specs.Reading.{after, some, whole, read_by, items_at, value_at, IsReadAt}
use Rattle.nv_msgpack.proofs.Loop.{ends_within}
use Rattle.nv_msgpack.proofs.Requests.{stands_inside}
use Rattle.nv_msgpack.proofs.pieces.list_at.Goals as goal

pub returns-clause-stands : goal.returns-clause-stands
returns-clause-stands c =
    let d : 0 < c.args.depth = omega arith in
    let l : c.args.at < length c.args.bytes.now = omega arith in
    let f = form_seen c.first_byte.result in
    IfOk-weaker c.list_of.result
    (λ answer. IfSome answer (λ found. after c.args.at (read_by (some (items_at (value_at (c.args.depth - 1)))) f (c.args.limit - c.args.at) (drop (c.args.at + 1) c.args.bytes.now)) ≡ whole (list (contents found.0.items)) found.1))
    (λ answer. IfSome answer (λ found. IsReadAt c.args.depth c.args.limit c.args.bytes.now c.args.at (list (contents found.0.items)) found.1))
    (λ answer h. IfSome_then answer h (λ found e. stands_inside c.args.depth c.args.limit c.args.at c.args.bytes.now f (list (contents found.0.items)) found.1 d l c.first_byte.ensures e)) c.list_of.ensures

pub returns-clause-within : goal.returns-clause-within
returns-clause-within c =
    IfOk-weaker c.list_of.result
    (λ answer. IfSome answer (λ found. IsReadAt c.args.depth c.args.limit c.args.bytes.now c.args.at (list (contents found.0.items)) found.1))
    (λ answer. IfSome answer (λ found. found.1 ≤ length c.args.bytes.now))
    (λ answer h. IfSome_then answer h (λ found e. (ends_within c.args.depth c.args.limit c.args.at c.args.bytes.now (list (contents found.0.items)) found.1 c.requires.fits c.requires.within e).0)) (returns-clause-stands c)

pub returns-clause-fits : goal.returns-clause-fits
returns-clause-fits c =
    IfOk-weaker c.list_of.result
    (λ answer. IfSome answer (λ found. IsReadAt c.args.depth c.args.limit c.args.bytes.now c.args.at (list (contents found.0.items)) found.1))
    (λ answer. IfSome answer (λ found. found.1 ≤ c.args.limit))
    (λ answer h. IfSome_then answer h (λ found e. (ends_within c.args.depth c.args.limit c.args.at c.args.bytes.now (list (contents found.0.items)) found.1 c.requires.fits c.requires.within e).1)) (returns-clause-stands c)
