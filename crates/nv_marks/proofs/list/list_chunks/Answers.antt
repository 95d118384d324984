use Rattle.std.proofs.Common.{◌∙◌, ◌+◌, ◌++◌, ap, sym, subst, map, take, drop, get_or, arith, List}
use Rattle.std.proofs.lemmas.List.{take-append-drop}
use Rattle.nv_places.specs.Places.{IsNarrow}
use Rattle.nv_marks.specs.declared.record.Record.{Record}
use Rattle.nv_marks.specs.inside.Records.{ForEach, Sort}
use Rattle.nv_marks.specs.inside.Chunks.{placed_record, records_of, spread_records}
use Rattle.nv_marks.specs.inside.Bands.{IsReachKnown}
use Rattle.nv_marks.specs.inside.Stored.{IsEndKnown}
use Rattle.nv_marks.proofs.EachLemmas.{Each-get_or}
use Rattle.nv_marks.proofs.SpreadLemmas.{by_parts, spread_at, spread_more, spread-append}
use Rattle.nv_marks.proofs.PartsLemmas.{list_more, list_stop}
use Rattle.nv_marks.proofs.list.list_chunks.Goals as goal

pub list_part-requires-clause-in_order : goal.list_part-requires-clause-in_order
list_part-requires-clause-in_order c =
    subst (λ (l : List Record). Sort l)
    (by_parts c.chunk-item.result (get_or c.args.chunks.now c.loop-chunk.chunk-index c.chunk-item.result) c.base.result c.kept.result.now c.chunk-item.is c.base.ensures
    c.kept.ensures)
    (Each-get_or (λ p. Sort (records_of p)) c.args.chunks.now c.loop-chunk.chunk-index c.chunk-item.result c.loop-chunk-test.true c.requires.in_order)

pub list_part-requires-clause-narrow : goal.list_part-requires-clause-narrow
list_part-requires-clause-narrow c =
    subst (λ (l : List Record). ForEach (λ r. IsNarrow r.pos) l)
    (by_parts c.chunk-item.result (get_or c.args.chunks.now c.loop-chunk.chunk-index c.chunk-item.result) c.base.result c.kept.result.now c.chunk-item.is c.base.ensures
    c.kept.ensures)
    (spread_at (λ r. IsNarrow r.pos) c.args.chunks.now c.loop-chunk.chunk-index c.chunk-item.result c.loop-chunk-test.true c.requires.narrow)

pub list_part-requires-clause-ends : goal.list_part-requires-clause-ends
list_part-requires-clause-ends c =
    subst (λ (l : List Record). ForEach (IsEndKnown (spread_records c.args.store.now.chunks.items)) l)
    (by_parts c.chunk-item.result (get_or c.args.chunks.now c.loop-chunk.chunk-index c.chunk-item.result) c.base.result c.kept.result.now c.chunk-item.is c.base.ensures
    c.kept.ensures)
    (spread_at (IsEndKnown (spread_records c.args.store.now.chunks.items)) c.args.chunks.now c.loop-chunk.chunk-index c.chunk-item.result c.loop-chunk-test.true
    c.requires.ends)

pub list_part-requires-clause-reach : goal.list_part-requires-clause-reach
list_part-requires-clause-reach c =
    subst (λ (l : List Record). ForEach (IsReachKnown c.args.bands.now c.args.range.query (spread_records c.args.store.now.chunks.items)) l)
    (by_parts c.chunk-item.result (get_or c.args.chunks.now c.loop-chunk.chunk-index c.chunk-item.result) c.base.result c.kept.result.now c.chunk-item.is c.base.ensures
    c.kept.ensures)
    (spread_at (IsReachKnown c.args.bands.now c.args.range.query (spread_records c.args.store.now.chunks.items)) c.args.chunks.now c.loop-chunk.chunk-index
    c.chunk-item.result c.loop-chunk-test.true c.requires.reach)

pub loop-chunk-preserved : goal.loop-chunk-preserved
loop-chunk-preserved c = (
  list_more (c.args.range.held + c.args.range.limit) (spread_records c.args.store.now.chunks.items) c.args.range.query c.args.into.now.items
      c.loop-chunk.into.items c.list_part.new.into.items (spread_records (take c.loop-chunk.chunk-index c.args.chunks.now)) (map (placed_record c.base.result) c.kept.result.now)
      (spread_records (take (c.loop-chunk.chunk-index + 1) c.args.chunks.now)) c.loop-chunk.invariant.0 c.in_ok-list_part.ensures.ok
      (spread_more c.args.chunks.now c.loop-chunk.chunk-index c.chunk-item.result c.loop-chunk-test.true
      ∙ ap (λ (l : List Record). spread_records (take c.loop-chunk.chunk-index c.args.chunks.now) ++ l)
      (by_parts c.chunk-item.result (get_or c.args.chunks.now c.loop-chunk.chunk-index c.chunk-item.result) c.base.result c.kept.result.now c.chunk-item.is
      c.base.ensures c.kept.ensures)),
  c.list_part.ensures.begun ∙ c.loop-chunk.invariant.1,
  omega (arith, c.loop-chunk.invariant.2, c.list_part.ensures.more),
)

pub returns-then-range-len-clause-ok : goal.returns-then-range-len-clause-ok
returns-then-range-len-clause-ok c =
    list_stop (c.args.range.held + c.args.range.limit) (spread_records c.args.store.now.chunks.items) c.args.range.query c.args.into.now.items
    c.loop-chunk.into.items (spread_records (take c.loop-chunk.chunk-index c.args.chunks.now)) (spread_records (drop c.loop-chunk.chunk-index c.args.chunks.now))
    (spread_records c.args.chunks.now) c.loop-chunk.invariant.0 (omega arith)
    (ap spread_records (sym (take-append-drop c.loop-chunk.chunk-index c.args.chunks.now))
    ∙ spread-append (take c.loop-chunk.chunk-index c.args.chunks.now) (drop c.loop-chunk.chunk-index c.args.chunks.now))
