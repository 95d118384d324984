use Rattle.std.proofs.Common.{◌≡◌, ◌∙◌, ap, sym, subst, length, not, ℕ, List, arith}
use Rattle.std.specs.Prelude.{filter, vec_len, vec_capacity}
use Rattle.std.specs.declared.cmp.Reverse.{Reverse}
use Rattle.std.proofs.lemmas.List.{length-map}
use Rattle.nv_places.specs.Places.{IsNarrow}
use Rattle.nv_marks.specs.Marks.{Marks}
use Rattle.nv_marks.specs.Queries.{is_meant}
use Rattle.nv_marks.specs.declared.extmark.Mark.{Mark}
use Rattle.nv_marks.specs.declared.record.Record.{Record}
use Rattle.nv_marks.specs.inside.Records.{ForEach, is_start, mark_among, marks_among}
use Rattle.nv_marks.specs.inside.Chunks.{spread_records}
use Rattle.nv_marks.specs.inside.Names.{IsIndexOf}
use Rattle.nv_marks.specs.inside.Restoring.{other_marks}
use Rattle.nv_marks.proofs.BandLemmas.{banded_filter}
use Rattle.nv_marks.proofs.EachLemmas.{Each-filter, Each-map}
use Rattle.nv_marks.proofs.LeftLemmas.{index_left, marks_are_left, stored_left}
use Rattle.nv_marks.proofs.PackLemmas.{length-filter}
use Rattle.nv_marks.proofs.StoredLemmas.{records_fit, room_less}
use Rattle.nv_marks.proofs.mark_set.MarkSet.clear_all.Goals as goal

pub keep_others-left-requires-clause-scratch : goal.keep_others-left-requires-clause-scratch
keep_others-left-requires-clause-scratch c = record {
  none = c.self.invariant.1.none;
  empty = c.self.invariant.1.empty;
  room =
      records_fit c.self.inside.store.chunks.items c.self.inside.greatest.entries c.self.inside.count c.self.inside.scratch.items (vec_len c.self.inside.scratch)
      (vec_capacity c.self.inside.scratch) c.self.inside.spare.items c.self.invariant.0 c.self.invariant.1;
}

pub invariant_of-self : goal.invariant_of-self
invariant_of-self c =
    let left = marks_are_left (λ (n i : ℕ). not (is_meant c.args.meant n)) c.self.inside.store.chunks.items c.keep_others-left.new.self.chunks.items
    c.self.inside.greatest.entries c.self.invariant.0 c.keep_others-left.ensures.laid c.keep_others-left.ensures.rest in
    let count : c.keep_others-left.result ≡ length (marks_among (spread_records c.keep_others-left.new.self.chunks.items)) =
    c.keep_others-left.ensures.starts
    ∙ sym (length-map (filter is_start (spread_records c.keep_others-left.new.self.chunks.items)) (mark_among (spread_records c.keep_others-left.new.self.chunks.items))) in
    let fewer = length-filter (λ (m : Mark). not (is_meant c.args.meant m.ns)) (marks_among (spread_records c.self.inside.store.chunks.items)) in (
      stored_left (λ (n i : ℕ). not (is_meant c.args.meant n)) c.self.inside.store.chunks.items c.keep_others-left.new.self.chunks.items
          c.self.inside.greatest.entries c.self.invariant.0 c.keep_others-left.ensures.laid c.keep_others-left.ensures.rest,
      record {
        count = count;
        none = c.clear.ensures.items;
        empty = c.clear.ensures.len;
        room = room_less c.self.inside.count c.keep_others-left.result (vec_capacity c.clear.new.self) (omega (arith, count, ap length left, fewer, c.self.invariant.1.count))
            (omega (arith, c.clear.ensures.capacity, c.keep_others-left.ensures.room, c.self.invariant.1.room));
        spares = c.self.invariant.1.spares;
      },
      index_left (λ (n i : ℕ). not (is_meant c.args.meant n)) c.keep_others-left.new.index c.forget_all.new.self
          (marks_among (spread_records c.self.inside.store.chunks.items)) (marks_among (spread_records c.keep_others-left.new.self.chunks.items)) c.forget_all.ensures left
          (subst (λ (l : List (ℕ × Reverse ℕ)). IsIndexOf l (marks_among (spread_records c.self.inside.store.chunks.items))) (sym c.keep_others-left.ensures.index)
          c.self.invariant.2),
      banded_filter (λ (m : Mark). not (is_meant c.args.meant m.ns)) c.self.inside.bands.items (marks_among (spread_records c.self.inside.store.chunks.items))
          (marks_among (spread_records c.keep_others-left.new.self.chunks.items)) c.self.invariant.3 left,
    )

pub returns-clause-marks : goal.returns-clause-marks
returns-clause-marks c =
    marks_are_left (λ (n i : ℕ). not (is_meant c.args.meant n)) c.self.inside.store.chunks.items c.keep_others-left.new.self.chunks.items
    c.self.inside.greatest.entries c.self.invariant.0 c.keep_others-left.ensures.laid c.keep_others-left.ensures.rest
    ∙ ap (λ (v : Marks). other_marks c.args.meant v.marks) c.self.view_is

pub returns-clause-narrow : goal.returns-clause-narrow
returns-clause-narrow c =
    subst (λ (v : Marks). ForEach (λ (m : Mark). IsNarrow m.start) v.marks) c.self.view_is
    (Each-map (λ (m : Mark). IsNarrow m.start) (mark_among (spread_records c.self.inside.store.chunks.items)) (filter is_start (spread_records c.self.inside.store.chunks.items))
    (Each-filter (λ (r : Record). IsNarrow r.pos) is_start (spread_records c.self.inside.store.chunks.items) c.self.invariant.0.laid.narrow))
