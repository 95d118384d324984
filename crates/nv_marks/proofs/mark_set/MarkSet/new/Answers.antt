use Rattle.std.specs.Prelude.{vec_len, vec_capacity}
use Rattle.nv_marks.proofs.BandLemmas.{banded_none}
use Rattle.nv_marks.proofs.IndexLemmas.{index_none}
use Rattle.nv_marks.proofs.StoredLemmas.{stored_new, ready_new}
use Rattle.nv_marks.proofs.mark_set.MarkSet.new.Goals as goal

pub invariant_of-result : goal.invariant_of-result
invariant_of-result c = (
  stored_new c.new.result.chunks.items c.new-5.result.entries c.new.ensures,
  ready_new c.new.result.chunks.items c.new-4.result.items (vec_len c.new-4.result) (vec_capacity c.new-4.result) c.new-3.result.items c.new.ensures
      c.new-4.ensures.items c.new-4.ensures.len c.new-3.ensures.items,
  index_none c.new-2.result c.new.result.chunks.items c.new-2.ensures c.new.ensures,
  banded_none c.in_ok-bands.bands.items c.new.result.chunks.items c.in_ok-bands.ensures c.new.ensures,
)
