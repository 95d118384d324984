use Rattle.nv_marks.proofs.StoredLemmas.{ends_of_stored}
use Rattle.nv_marks.proofs.mark_set.MarkSet.find.Goals as goal

pub find_counted-requires-clause-ends : goal.find_counted-requires-clause-ends
find_counted-requires-clause-ends c =
    ends_of_stored c.self.inside.store.chunks.items c.self.inside.greatest.entries c.self.invariant.0
