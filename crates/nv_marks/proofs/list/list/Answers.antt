use Rattle.std.proofs.Common.{◌≡◌, ◌∙◌, ◌+◌, ap, true, false}
use Rattle.std.proofs.lemmas.Result.{on_ok_weaker}
use Rattle.std.specs.Prelude.{filter}
use Rattle.nv_marks.specs.Queries.{is_selected}
use Rattle.nv_places.specs.Places.{is_before}
use Rattle.nv_marks.specs.declared.record.Record.{Record}
use Rattle.nv_marks.specs.inside.Bands.{IsReachKnown}
use Rattle.nv_marks.specs.inside.Records.{mark_among, marks_among}
use Rattle.nv_marks.specs.inside.Chunks.{spread_records}
use Rattle.nv_marks.specs.inside.Stored.{extended_list}
use Rattle.nv_marks.proofs.EachLemmas.{Each-weaker}
use Rattle.nv_marks.proofs.ListLemmas.{list_from}
use Rattle.nv_marks.proofs.PartsLemmas.{list_limit}
use Rattle.nv_marks.proofs.list.list.Goals as goal

pub returns-clause-ok : goal.returns-clause-ok
returns-clause-ok c =
    on_ok_weaker c.list_chunks.result
    (λ is. is
    ∙ ap (extended_list (c.args.held + c.args.limit) c.args.into.now.items)
    (list_from (spread_records c.args.store.now.chunks.items) c.args.query c.first_place.result (spread_records c.within-chunks.result.now)
    (spread_records c.args.store.now.chunks.items)
    (Each-weaker (IsReachKnown c.args.bands.now c.args.query (spread_records c.args.store.now.chunks.items))
    (λ (r : Record). r.info.is_end ≡ false → is_before r.pos c.first_place.result ≡ true → is_selected c.args.query (mark_among (spread_records c.args.store.now.chunks.items) r) ≡ false)
    (λ r known start before. c.first_place.ensures (spread_records c.args.store.now.chunks.items) r known start before) (spread_records c.within-chunks.result.now)
    (c.within-chunks.ensures.reach c.args.bands.now c.args.query c.requires.reach))
    (Each-weaker (IsReachKnown c.args.bands.now c.args.query (spread_records c.args.store.now.chunks.items))
    (λ (r : Record). r.info.is_end ≡ false → is_before r.pos c.first_place.result ≡ true → is_selected c.args.query (mark_among (spread_records c.args.store.now.chunks.items) r) ≡ false)
    (λ r known start before. c.first_place.ensures (spread_records c.args.store.now.chunks.items) r known start before) (spread_records c.args.store.now.chunks.items)
    c.requires.reach)
    c.within-chunks.ensures.within)
    ∙ list_limit c.args.held c.args.limit c.args.into.now.items
    (filter (is_selected c.args.query) (marks_among (spread_records c.args.store.now.chunks.items))) c.requires.held)
    c.list_chunks.ensures.ok

pub list_chunks-requires-clause-reach : goal.list_chunks-requires-clause-reach
list_chunks-requires-clause-reach c = c.within-chunks.ensures.reach c.args.bands.now c.args.query c.requires.reach
