use Rattle.std.proofs.Common.{◌≡◌, ◌∙◌, true, false, ◌+◌, ◌++◌, ◌∷◌, [], refl, ap, sym, subst, map, take, drop, get_or, take-append-drop, arith}
use Rattle.std.proofs.lemmas.List.{map_more, map-append}
use Rattle.nv_places.specs.Places.{IsNarrow, is_before}
use Rattle.nv_marks.specs.Order.{is_within}
use Rattle.nv_marks.specs.declared.record.Relative.{Relative}
use Rattle.nv_marks.specs.declared.record.Record.{Record}
use Rattle.nv_marks.specs.inside.Chunks.{placed_record, spread_records}
use Rattle.nv_marks.specs.inside.Stored.{IsEndKnown, extended_list, first_start}
use Rattle.nv_marks.proofs.EachLemmas.{Each-get_or, Each-unmap}
use Rattle.nv_marks.proofs.InPlaceLemmas.{behind_too, none_within_behind, is_inside}
use Rattle.nv_marks.proofs.PartsLemmas.{list_more, list_same, list_stop, filled_begun, filled_longer}
use Rattle.nv_marks.proofs.list.list_each.Goals as goal

pub placed-requires : goal.placed-requires
placed-requires c =
    let fits : (d : Relative) → IsNarrow (placed_record c.args.base (get_or c.args.kept.now c.loop-one.one-index d)).pos =
    λ d. Each-get_or (λ (k : Relative). IsNarrow (placed_record c.args.base k).pos) c.args.kept.now c.loop-one.one-index d c.loop-one-test.true
    (Each-unmap (λ (r : Record). IsNarrow r.pos) (placed_record c.args.base) c.args.kept.now c.requires.narrow) in
    fits _

pub list_one-requires-clause-ends : goal.list_one-requires-clause-ends
list_one-requires-clause-ends c =
    let known : (d : Relative) → IsEndKnown (spread_records c.args.store.now.chunks.items) (placed_record c.args.base (get_or c.args.kept.now c.loop-one.one-index d)) =
    λ d. Each-get_or (λ (k : Relative). IsEndKnown (spread_records c.args.store.now.chunks.items) (placed_record c.args.base k)) c.args.kept.now c.loop-one.one-index d
    c.loop-one-test.true
    (Each-unmap (IsEndKnown (spread_records c.args.store.now.chunks.items)) (placed_record c.args.base) c.args.kept.now c.requires.ends) in
    subst (λ (r : Record). IsEndKnown (spread_records c.args.store.now.chunks.items) r) (sym c.placed.ensures) (known _)

pub list_one-requires-clause-within : goal.list_one-requires-clause-within
list_one-requires-clause-within c =
    let after : (d : Relative) → is_before (placed_record c.args.base (get_or c.args.kept.now c.loop-one.one-index d)).pos (first_start c.args.range.query) ≡ false =
    λ d. Each-get_or (λ (k : Relative). is_before (placed_record c.args.base k).pos (first_start c.args.range.query) ≡ false) c.args.kept.now c.loop-one.one-index d
    c.loop-one-test.true
    (Each-unmap (λ (r : Record). is_before r.pos (first_start c.args.range.query) ≡ false) (placed_record c.args.base) c.args.kept.now c.requires.from) in
    subst (λ (r : Record). is_within (first_start c.args.range.query) c.args.range.query.to r.pos ≡ true) (sym c.placed.ensures)
    (is_inside (first_start c.args.range.query) c.args.range.query.to (placed_record c.args.base (get_or c.args.kept.now c.loop-one.one-index _)).pos (after _)
    (sym c.stands_behind.ensures ∙ c.if-stands_behind.false))

pub loop-one-preserved : goal.loop-one-preserved
loop-one-preserved c = (
  list_more (c.args.range.held + c.args.range.limit) (spread_records c.args.store.now.chunks.items) c.args.range.query c.args.into.now.items
      c.loop-one.into.items c.list_one.new.into.items (map (placed_record c.args.base) (take c.loop-one.one-index c.args.kept.now)) (c.placed.result ∷ [])
      (map (placed_record c.args.base) (take (c.loop-one.one-index + 1) c.args.kept.now)) c.loop-one.invariant.0 c.in_ok-list_one.ensures.ok
      (map_more (placed_record c.args.base) c.args.kept.now c.loop-one.one-index _ c.loop-one-test.true
      ∙ ap (λ (r : Record). map (placed_record c.args.base) (take c.loop-one.one-index c.args.kept.now) ++ r ∷ []) (sym c.placed.ensures)),
  filled_begun (c.args.range.held + c.args.range.limit) c.args.range.held c.loop-one.into.items _ c.list_one.new.into.items
      (omega (arith, c.requires.held, c.loop-one.invariant.2)) c.in_ok-list_one.ensures.ok ∙ c.loop-one.invariant.1,
  omega (arith, c.loop-one.invariant.2, filled_longer (c.args.range.held + c.args.range.limit) c.loop-one.into.items _ c.list_one.new.into.items c.in_ok-list_one.ensures.ok),
)

pub returns-then-range-len-clause-ok : goal.returns-then-range-len-clause-ok
returns-then-range-len-clause-ok c =
    list_stop (c.args.range.held + c.args.range.limit) (spread_records c.args.store.now.chunks.items) c.args.range.query c.args.into.now.items
    c.loop-one.into.items (map (placed_record c.args.base) (take c.loop-one.one-index c.args.kept.now))
    (map (placed_record c.args.base) (drop c.loop-one.one-index c.args.kept.now)) (map (placed_record c.args.base) c.args.kept.now) c.loop-one.invariant.0 (omega arith)
    (ap (map (placed_record c.args.base)) (sym (take-append-drop c.loop-one.one-index c.args.kept.now))
    ∙ map-append (placed_record c.args.base) (take c.loop-one.one-index c.args.kept.now) (drop c.loop-one.one-index c.args.kept.now))

pub returns-then-stands_behind-clause-ok : goal.returns-then-stands_behind-clause-ok
returns-then-stands_behind-clause-ok c =
    let behind = behind_too c.args.range.query.to c.args.base c.args.kept.now c.loop-one.one-index _ c.loop-one-test.true c.requires.in_order
    (sym c.stands_behind.ensures ∙ c.if-stands_behind.true) in
    c.loop-one.invariant.0
    ∙ ap (extended_list (c.args.range.held + c.args.range.limit) c.args.into.now.items)
    (sym (list_same (spread_records c.args.store.now.chunks.items) c.args.range.query (first_start c.args.range.query) (map (placed_record c.args.base) c.args.kept.now)
    (map (placed_record c.args.base) (take c.loop-one.one-index c.args.kept.now)) refl
    (none_within_behind (first_start c.args.range.query) c.args.range.query.to c.args.base c.args.kept.now c.loop-one.one-index behind)))
