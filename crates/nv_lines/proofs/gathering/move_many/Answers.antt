use Rattle.std.proofs.Common.{◌≡◌, ◌∷◌, arith, rules, slice_range}
use Rattle.std.specs.Vec.Iter.{into_iter_items}
use Rattle.nv_lines.proofs.Parts.{row_moved, row_passed, length-gathered}
use Rattle.nv_lines.proofs.gathering.move_many.Goals as goal

pub loop-line-preserved-then-not-inside : goal.loop-line-preserved-then-not-inside
loop-line-preserved-then-not-inside c =
    let at = c.loop-line in
    let parts : into_iter_items at.line-iterator ≡ c.in-Some.line ∷ into_iter_items c.next.new.self = search rules in
    let items =
    row_passed c.in-Some.line (into_iter_items c.next.new.self) (into_iter_items at.line-iterator) at.start at.end c.saturating_sub-start.result
    c.saturating_sub-end.result at.into.items _ at.invariant.items parts c.if-not-inside.ensures c.saturating_sub-start.ensures
    c.saturating_sub-end.ensures in record {
      items = items;
      room =
          omega (
            arith,
            at.invariant.room,
            length-gathered at.into.items (slice_range (into_iter_items at.line-iterator) at.start at.end) _ at.invariant.items,
            length-gathered at.into.items
                (slice_range (into_iter_items c.next.new.self) c.saturating_sub-start.result c.saturating_sub-end.result) _ items,
          );
      capacity = at.invariant.capacity;
    }

pub loop-line-preserved : goal.loop-line-preserved
loop-line-preserved c =
    let at = c.loop-line in
    let parts : into_iter_items at.line-iterator ≡ c.in-Some.line ∷ into_iter_items c.next.new.self = search rules in
    let inside = c.if-not-inside.ensures in
    let items =
    row_moved c.in-Some.line (into_iter_items c.next.new.self) (into_iter_items at.line-iterator) at.start at.end c.saturating_sub-start.result
    c.saturating_sub-end.result at.into.items c.push_reserved.new.self.items _ at.invariant.items parts inside.0 inside.1
    c.push_reserved.ensures.items c.saturating_sub-start.ensures c.saturating_sub-end.ensures in record {
      items = items;
      room =
          omega (
            arith,
            at.invariant.room,
            c.push_reserved.ensures.len,
            c.push_reserved.ensures.capacity,
            at.into.ok.0,
            c.push_reserved.new.self.ok.0,
            length-gathered at.into.items (slice_range (into_iter_items at.line-iterator) at.start at.end) _ at.invariant.items,
            length-gathered c.push_reserved.new.self.items
                (slice_range (into_iter_items c.next.new.self) c.saturating_sub-start.result c.saturating_sub-end.result) _ items,
          );
      capacity = omega (arith, at.invariant.capacity, c.push_reserved.ensures.capacity);
    }
