use Rattle.std.proofs.Common.{◌∙◌, ap}
use Rattle.std.specs.Prelude.{filter}
use Rattle.nv_marks.specs.inside.Bands.{reaches_row}
use Rattle.nv_marks.specs.inside.Chunks.{spread_records}
use Rattle.nv_marks.proofs.BandLemmas.{reach_known}
use Rattle.nv_marks.proofs.IndexLemmas.{select_none}
use Rattle.nv_marks.proofs.StoredLemmas.{ends_of_stored}
use Rattle.nv_marks.proofs.mark_set.MarkSet.select.Goals as goal

pub list-result-requires-clause-ends : goal.list-result-requires-clause-ends
list-result-requires-clause-ends c =
    ends_of_stored c.self.inside.store.chunks.items c.self.inside.greatest.entries c.self.invariant.0

pub returns-then-has_none-clause-ok : goal.returns-then-has_none-clause-ok
returns-then-has_none-clause-ok c = select_none c.args.query.now c.args.limit c.args.self.now.marks c.args.into.now.items (c.has_none.ensures c.if-has_none.true)

pub list-result-requires-clause-reach : goal.list-result-requires-clause-reach
list-result-requires-clause-reach c =
    reach_known c.self.inside.bands.items c.deref-2.result.now c.args.query.now (spread_records c.self.inside.store.chunks.items) c.self.invariant.3
    (λ reach. c.deref-2.ensures.value ∙ c.in_ok-near.ensures reach ∙ ap (filter (reaches_row c.args.query.now.from.row)) c.deref.ensures.value)
