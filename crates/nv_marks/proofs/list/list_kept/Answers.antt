use Rattle.std.proofs.Common.{◌≡◌, ◌∙◌, ◌+◌, ap, subst, map, false}
use Rattle.std.proofs.lemmas.Result.{on_ok_weaker}
use Rattle.nv_places.specs.declared.place.Pos.{Pos}
use Rattle.nv_places.specs.Places.{is_before}
use Rattle.nv_marks.specs.declared.record.Record.{Record}
use Rattle.nv_marks.specs.inside.Records.{ForEach}
use Rattle.nv_marks.specs.inside.Chunks.{placed_record, spread_records}
use Rattle.nv_marks.specs.inside.Stored.{extended_list}
use Rattle.nv_marks.proofs.PartsLemmas.{list_same}
use Rattle.nv_marks.proofs.list.list_kept.Goals as goal

pub returns-clause-ok : goal.returns-clause-ok
returns-clause-ok c =
    on_ok_weaker c.list_each.result
    (λ is. is
    ∙ ap (extended_list (c.args.range.held + c.args.range.limit) c.args.into.now.items)
    (list_same (spread_records c.args.store.now.chunks.items) c.args.range.query c.first_start.result (map (placed_record c.args.base) c.rest_from-rest.result.now)
    (map (placed_record c.args.base) c.args.kept.now) c.first_start.ensures (c.rest_from-rest.ensures.within c.args.range.query.to)))
    c.list_each.ensures.ok

pub list_each-requires-clause-from : goal.list_each-requires-clause-from
list_each-requires-clause-from c =
    subst (λ (p : Pos). ForEach (λ (r : Record). is_before r.pos p ≡ false) (map (placed_record c.args.base) c.rest_from-rest.result.now)) c.first_start.ensures
    c.rest_from-rest.ensures.from

pub list_each-requires-clause-ends : goal.list_each-requires-clause-ends
list_each-requires-clause-ends c = c.rest_from-rest.ensures.ends (spread_records c.args.store.now.chunks.items) c.requires.ends
