use Rattle.std.proofs.Common.{◌≡◌, ◌∙◌, ◌++◌, ap, arith, length}
use Rattle.std.specs.Vec.Iter.{into_iter_items}
use Rattle.nv_places.specs.Flat.{flat}
use Rattle.nv_lines.proofs.Cuts.{flat_rest-small}
use Rattle.nv_lines.proofs.cutting.next_chunk.Goals as goal

pub flat_len-bytes-requires : goal.flat_len-bytes-requires
flat_len-bytes-requires c =
    let text : c.move_next.new.into.items ++ into_iter_items c.move_next.new.from ≡ into_iter_items c.args.rest.now =
    c.move_next.ensures.items ∙ ap (λ l. l ++ into_iter_items c.args.rest.now) c.in_ok-lines.ensures.items in
    omega (
      arith,
      ap (λ l. length (flat l)) c.deref.ensures.value,
      flat_rest-small c.move_next.new.into.items (into_iter_items c.move_next.new.from) (into_iter_items c.args.rest.now) text,
      c.requires.small,
    )
