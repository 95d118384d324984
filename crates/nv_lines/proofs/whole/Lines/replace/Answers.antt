use Rattle.std.proofs.Common.{◌∙◌, ap, arith, length, sym, subst, refl}
use Rattle.std.specs.List.{splice}
use Rattle.nv_places.specs.Flat.{flat, IsLine}
use Rattle.nv_lines.specs.Text.{IsText}
use Rattle.nv_lines.specs.Chunks.{chunk_lines}
use Rattle.nv_lines.proofs.FlatLengths.{flat_parts, length-flat-splice}
use Rattle.nv_lines.proofs.Splices.{All-splice, length-splice_some}
use Rattle.nv_lines.proofs.Chunks.{length-flat-le}
use Rattle.nv_lines.proofs.Ranges.{length-splice}
use Rattle.nv_lines.proofs.whole.Lines.replace.Goals as goal

pub overflow_add-rows : goal.overflow_add-rows
overflow_add-rows c =
    omega (
      arith,
      c.len.ensures.value,
      c.self.invariant.count,
      ap length c.self.view_is,
      length-splice c.args.self.now c.args.new c.args.from c.args.to c.requires.order c.requires.within,
      length-flat-le (splice c.args.self.now c.args.from c.args.to c.args.new),
      c.requires.small,
    )

pub flat_len-added-requires : goal.flat_len-added-requires
flat_len-added-requires c =
    omega (
      arith,
      ap (λ l. length (flat l)) c.as_slice.ensures.value,
      length-flat-splice c.args.self.now c.args.new c.args.from c.args.to,
      c.requires.small,
    )

pub flat_len-requires : goal.flat_len-requires
flat_len-requires c =
    let all = chunk_lines c.self.inside.chunks.items in
    omega (
      arith,
      ap (λ l. length (flat l)) (c.as_slice-2.ensures.value ∙ c.in_ok-taken.ensures.taken),
      flat_parts all all c.args.from c.args.to refl c.requires.order,
      c.self.invariant.text.small,
    )

pub overflow_sub-self : goal.overflow_sub-self
overflow_sub-self c =
    let all = chunk_lines c.self.inside.chunks.items in
    omega (
      arith,
      c.flat_len.ensures,
      ap (λ l. length (flat l)) (c.as_slice-2.ensures.value ∙ c.in_ok-taken.ensures.taken),
      flat_parts all all c.args.from c.args.to refl c.requires.order,
      c.self.invariant.total,
    )

pub overflow_add-self : goal.overflow_add-self
overflow_add-self c =
    let all = chunk_lines c.self.inside.chunks.items in
    omega (
      arith,
      c.flat_len.ensures,
      c.flat_len-added.ensures,
      ap (λ l. length (flat l)) c.as_slice.ensures.value,
      ap (λ l. length (flat l)) (c.as_slice-2.ensures.value ∙ c.in_ok-taken.ensures.taken),
      flat_parts all all c.args.from c.args.to refl c.requires.order,
      length-flat-splice all c.args.new c.args.from c.args.to,
      ap (λ l. length (flat (splice l c.args.from c.args.to c.args.new))) c.self.view_is,
      c.self.invariant.total,
      c.requires.small,
    )

pub invariant_of-self-2 : goal.invariant_of-self-2
invariant_of-self-2 c =
    let all = chunk_lines c.self.inside.chunks.items in
    let put = c.in_ok-taken.ensures.ok in
    let rows = ap length c.self.view_is in
    record {
      text =
          subst IsText (sym put) (record {
            some =
                length-splice_some all c.args.new c.args.from c.args.to c.requires.order (omega (arith, rows, c.requires.within))
                (omega (arith, rows, c.requires.left));
            each = All-splice IsLine all c.args.new c.args.from c.args.to c.self.invariant.text.each c.len.ensures.lines;
            small =
                omega (arith, ap (λ l. length (flat (splice l c.args.from c.args.to c.args.new))) c.self.view_is, c.requires.small);
          });
      table = c.in_ok-taken.ensures.table;
      count =
          omega (
            arith,
            ap length put,
            c.len.ensures.value,
            c.self.invariant.count,
            length-splice all c.args.new c.args.from c.args.to c.requires.order (omega (arith, rows, c.requires.within)),
          );
      total =
          omega (
            arith,
            ap (λ l. length (flat l)) put,
            c.flat_len.ensures,
            c.flat_len-added.ensures,
            ap (λ l. length (flat l)) c.as_slice.ensures.value,
            ap (λ l. length (flat l)) (c.as_slice-2.ensures.value ∙ c.in_ok-taken.ensures.taken),
            flat_parts all all c.args.from c.args.to refl c.requires.order,
            length-flat-splice all c.args.new c.args.from c.args.to,
            c.self.invariant.total,
          );
    }
