use Rattle.std.proofs.Common.{◌<◌, length, sym, ap, ◌∙◌, arith}
use Rattle.std.proofs.lemmas.Bool.{eqb-true, eqb-false}
use Rattle.std.proofs.lemmas.List.{take_rest}
use Rattle.nv_msgpack.specs.FirstByte.{form_seen}
use Rattle.nv_msgpack.specs.inside.Integers.{integer_by}
use Rattle.nv_msgpack.proofs.Integers.{first_is, empty_is}
use Rattle.nv_msgpack.proofs.handle_reader.whole_integer.Goals as goal

pub returns-then-is_empty : goal.returns-then-is_empty
returns-then-is_empty c = sym (empty_is c.args.bytes.now (eqb-true (length c.args.bytes.now) 0 (sym c.if-is_empty.ensures)))

pub returns : goal.returns
returns c =
    let bytes = c.args.bytes.now in
    let some : 0 < length bytes = omega (arith, eqb-false (length bytes) 0 (sym c.if-is_empty.ensures)) in
    c.integer_by.ensures ∙ ap (λ rest. integer_by (form_seen c.first_byte.result) rest) (take_rest bytes 1) ∙ sym (first_is bytes (form_seen c.first_byte.result) some c.first_byte.ensures)
