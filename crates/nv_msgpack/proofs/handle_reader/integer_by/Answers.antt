use Rattle.std.proofs.Common.{◌≡◌, Some, length, sym, ap, ◌∙◌, arith, rules, SFits, w64}
use Rattle.std.proofs.lemmas.Int.{to_z-of_z}
use Rattle.std.proofs.lemmas.Bool.{eqb-true, eqb-false}
use Rattle.nv_msgpack.specs.Spelling.{unsigned_number}
use Rattle.nv_msgpack.specs.declared.first_bytes.FirstByte.{FirstByte}
use Rattle.nv_msgpack.specs.FirstByte.{bytes_of, form_seen}
use Rattle.nv_msgpack.specs.Handle.{integer_of}
use Rattle.nv_msgpack.specs.inside.Integers.{integer_by}
use Rattle.nv_msgpack.proofs.Integers.{small_is, small_long, unsigned_is, unsigned_other, signed_is, signed_other, other_seen}
use Rattle.nv_msgpack.proofs.handle_reader.integer_by.Goals as goal

pub returns-then-is_empty : goal.returns-then-is_empty
returns-then-is_empty c =
    let rest = c.args.rest.now in
    let f : SFits w64 c.from.result = search rules in
    let n : c.from.result ≡ c.in-Small.number = grind (arith, to_z-of_z) in
    ap Some (to_z-of_z w64 c.from.result f ∙ n)
    ∙ sym (ap (λ (x : FirstByte). integer_by (form_seen x) rest) c.in-Small.is ∙ small_is c.in-Small.number rest (eqb-true (length rest) 0 (sym c.if-is_empty.ensures)))

pub returns-else-is_empty : goal.returns-else-is_empty
returns-else-is_empty c =
    let rest = c.args.rest.now in
    sym (ap (λ (x : FirstByte). integer_by (form_seen x) rest) c.in-Small.is ∙ small_long c.in-Small.number rest (eqb-false (length rest) 0 (sym c.if-is_empty.ensures)))

pub returns-then-rest-bytes : goal.returns-then-rest-bytes
returns-then-rest-bytes c =
    let rest = c.args.rest.now in
    let w = bytes_of c.in-Unsigned.width in
    let long : length rest ≡ w = c.if-rest-bytes.true ∙ c.bytes.ensures.value in
    c.small.ensures ∙ ap (λ n. integer_of (unsigned_number n)) c.unsigned_of.ensures
    ∙ sym (ap (λ (x : FirstByte). integer_by (form_seen x) rest) c.in-Unsigned.is ∙ unsigned_is w rest long)

pub returns-else-rest-bytes : goal.returns-else-rest-bytes
returns-else-rest-bytes c =
    let rest = c.args.rest.now in
    sym (ap (λ (x : FirstByte). integer_by (form_seen x) rest) c.in-Unsigned.is
    ∙ unsigned_other (bytes_of c.in-Unsigned.width) rest (λ e. c.if-rest-bytes.false (e ∙ sym c.bytes.ensures.value)))

pub returns-then-rest-bytes-2 : goal.returns-then-rest-bytes-2
returns-then-rest-bytes-2 c =
    let rest = c.args.rest.now in
    let w = bytes_of c.in-Signed.width in
    let long : length rest ≡ w = c.if-rest-bytes-2.true ∙ c.bytes-in-Signed.ensures.value in
    let f : SFits w64 c.signed_of.result = search rules in
    ap Some (to_z-of_z w64 c.signed_of.result f ∙ c.signed_of.ensures)
    ∙ sym (ap (λ (x : FirstByte). integer_by (form_seen x) rest) c.in-Signed.is ∙ signed_is w rest long)

pub returns-else-rest-bytes-2 : goal.returns-else-rest-bytes-2
returns-else-rest-bytes-2 c =
    let rest = c.args.rest.now in
    sym (ap (λ (x : FirstByte). integer_by (form_seen x) rest) c.in-Signed.is
    ∙ signed_other (bytes_of c.in-Signed.width) rest (λ e. c.if-rest-bytes-2.false (e ∙ sym c.bytes-in-Signed.ensures.value)))

pub returns-in_default : goal.returns-in_default
returns-in_default c = sym (other_seen c.args.first c.args.rest.now c.in_default.not-Small c.in_default.not-Unsigned c.in_default.not-Signed)
