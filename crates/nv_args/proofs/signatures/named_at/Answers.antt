use Rattle.std.proofs.Common.{map, sym, ◌∙◌, arith}
use Rattle.nv_args.specs.Methods.{signature_of}
use Rattle.nv_args.proofs.NameLookup.{among_length, found_at, none_left, passed_at, place_within}
use Rattle.nv_args.proofs.signatures.named_at.Goals as goal

pub loop-place-init : goal.loop-place-init
loop-place-init c = among_length c.args.name.now (map signature_of c.args.signatures.now)

pub bounds-signatures-from : goal.bounds-signatures-from
bounds-signatures-from c =
    place_within c.args.name.now c.args.signatures.now c.args.places.now c.loop-place.place-index c.from.result c.requires (omega arith) c.from.ensures

pub returns-then-is_one : goal.returns-then-is_one
returns-then-is_one c =
    found_at c.args.name.now c.as_bytes.result.now c.args.signatures.now c.args.places.now c.loop-place.place-index c.from.result _ c.requires (omega arith) c.from.ensures
    c.as_bytes.ensures.value (sym c.is_one.ensures ∙ c.if-is_one.true) c.loop-place.invariant

pub loop-place-preserved : goal.loop-place-preserved
loop-place-preserved c =
    passed_at c.args.name.now c.as_bytes.result.now c.args.signatures.now c.args.places.now c.loop-place.place-index _ c.from.result _ c.requires (omega arith) c.from.ensures
    c.as_bytes.ensures.value (sym c.is_one.ensures ∙ c.if-is_one.false) (omega arith) c.loop-place.invariant

pub returns : goal.returns
returns c =
    none_left c.args.name.now (map signature_of c.args.signatures.now) c.args.places.now c.loop-place.place-index c.requires (omega arith) c.loop-place.invariant
