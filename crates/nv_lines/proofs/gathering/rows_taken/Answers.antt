use Rattle.std.proofs.Common.{◌≡◌, ◌∷◌, arith, rules, slice_range}
use Rattle.std.specs.Vec.Iter.{into_iter_items}
use Rattle.nv_lines.specs.inside.Tables.{table_lines}
use Rattle.nv_lines.proofs.Parts.{length-gathered}
use Rattle.nv_lines.proofs.TableLemmas.{table_moved, first_within}
use Rattle.nv_lines.proofs.gathering.rows_taken.Goals as goal

pub move_many-requires : goal.move_many-requires
move_many-requires c =
    let at = c.loop-table in
    let parts : into_iter_items at.table-iterator ≡ c.in-Some.table ∷ into_iter_items c.next.new.self = search rules in
    omega (arith, at.invariant.room, first_within c.in-Some.table (into_iter_items c.next.new.self) (into_iter_items at.table-iterator) at.start at.end parts)

pub loop-table-preserved : goal.loop-table-preserved
loop-table-preserved c =
    let at = c.loop-table in
    let parts : into_iter_items at.table-iterator ≡ c.in-Some.table ∷ into_iter_items c.next.new.self = search rules in
    let items =
    table_moved c.in-Some.table (into_iter_items c.next.new.self) (into_iter_items at.table-iterator) at.start at.end
    c.saturating_sub-start.result c.saturating_sub-end.result at.taken.items c.move_many.new.into.items _ at.invariant.items parts
    c.move_many.ensures.items (omega (arith, c.saturating_sub-start.ensures, c.len-len.ensures))
    (omega (arith, c.saturating_sub-end.ensures, c.len-len.ensures)) in record {
      items = items;
      room =
          omega (
            arith,
            at.invariant.room,
            c.move_many.ensures.capacity,
            at.taken.ok.0,
            c.move_many.new.into.ok.0,
            length-gathered at.taken.items (slice_range (table_lines (into_iter_items at.table-iterator)) at.start at.end) _ at.invariant.items,
            length-gathered c.move_many.new.into.items
                (slice_range (table_lines (into_iter_items c.next.new.self)) c.saturating_sub-start.result c.saturating_sub-end.result) _ items,
          );
    }
