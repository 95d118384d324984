use Rattle.std.proofs.Common.{◌<◌, ◌^◌, ◌∙◌, ap, arith, rules, length}
use Rattle.nv_places.specs.Flat.{flat}
use Rattle.nv_lines.proofs.FlatLengths.{flat_parts, length-flat-splice}
use Rattle.std.proofs.Common.{refl}
use Rattle.nv_lines.proofs.chunk.Chunk.replace.Goals as goal

pub flat_len-added-requires : goal.flat_len-added-requires
flat_len-added-requires c =
    omega (
      arith,
      ap (λ l. length (flat l)) c.as_slice.ensures.value,
      c.requires.small,
      length-flat-splice c.args.self.now.lines c.args.new c.args.from c.args.to,
    )

pub flat_len-requires : goal.flat_len-requires
flat_len-requires c =
    let is = c.as_slice-2.ensures.value ∙ c.in_ok-taken.ensures.taken in
    let fits : c.args.self.now.bytes < 2 ^ 64 = search rules in
    omega (
      arith,
      ap (λ l. length (flat l)) is,
      flat_parts c.args.self.now.lines c.args.self.now.lines c.args.from c.args.to refl c.requires.order,
      c.requires.bytes,
    )

pub overflow_sub-self : goal.overflow_sub-self
overflow_sub-self c =
    let is = c.as_slice-2.ensures.value ∙ c.in_ok-taken.ensures.taken in
    omega (
      arith,
      c.flat_len.ensures,
      ap (λ l. length (flat l)) is,
      flat_parts c.args.self.now.lines c.args.self.now.lines c.args.from c.args.to refl c.requires.order,
      c.requires.bytes,
    )

pub overflow_add-self : goal.overflow_add-self
overflow_add-self c =
    let is = c.as_slice-2.ensures.value ∙ c.in_ok-taken.ensures.taken in
    omega (
      arith,
      c.flat_len.ensures,
      c.flat_len-added.ensures,
      ap (λ l. length (flat l)) is,
      ap (λ l. length (flat l)) c.as_slice.ensures.value,
      flat_parts c.args.self.now.lines c.args.self.now.lines c.args.from c.args.to refl c.requires.order,
      length-flat-splice c.args.self.now.lines c.args.new c.args.from c.args.to,
      c.requires.bytes,
      c.requires.small,
    )

pub returns-clause-bytes : goal.returns-clause-bytes
returns-clause-bytes c =
    let is = c.as_slice-2.ensures.value ∙ c.in_ok-taken.ensures.taken in
    omega (
      arith,
      c.flat_len.ensures,
      c.flat_len-added.ensures,
      ap (λ l. length (flat l)) is,
      ap (λ l. length (flat l)) c.as_slice.ensures.value,
      flat_parts c.args.self.now.lines c.args.self.now.lines c.args.from c.args.to refl c.requires.order,
      length-flat-splice c.args.self.now.lines c.args.new c.args.from c.args.to,
      c.requires.bytes,
      ap (λ l. length (flat l)) c.in_ok-taken.ensures.ok,
    )
