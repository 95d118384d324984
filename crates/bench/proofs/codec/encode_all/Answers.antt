-- The value at each place has a spelling.
use Rattle.std.proofs.Common.{◌<◌, length, arith, sym, subst}
use Rattle.nv_value.specs.View.{contents}
use Rattle.nv_msgpack.specs.Shortest.{HaveSpellings}
use Rattle.nv_msgpack.proofs.Writing.{item_spelling}
use Rattle.bench.proofs.codec.encode_all.Goals as goal

pub encode-requires : goal.encode-requires
encode-requires c =
    let vs = c.deref-value-items.result.now in
    let i = c.loop-value.value-index in
    let lt : i < length vs = omega arith in
    let has : HaveSpellings (contents vs) = subst (λ l. HaveSpellings (contents l)) (sym c.deref-value-items.ensures.value) c.requires in
    item_spelling vs i c.value-item.result lt c.value-item.is has
