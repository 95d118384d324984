use Rattle.std.proofs.Common.{◌≤◌, ◌+◌, ◌∙◌, ap, sym, subst, map, length, All, ℕ, List, arith}
use Rattle.std.specs.Prelude.{option_map, vec_len, vec_capacity}
use Rattle.std.specs.declared.cmp.Reverse.{Reverse}
use Rattle.std.proofs.lemmas.List.{with_items_is}
use Rattle.nv_marks.specs.Marks.{Marks, mark_at}
use Rattle.nv_marks.specs.Order.{IsInOrder}
use Rattle.nv_marks.specs.Cost.{most_steps}
use Rattle.nv_marks.specs.Moves.{moved_mark, MovesNarrowly}
use Rattle.nv_marks.specs.inside.Records.{marks_among}
use Rattle.nv_marks.specs.inside.Chunks.{spread_records}
use Rattle.nv_marks.specs.inside.Names.{IsIndexOf}
use Rattle.nv_marks.specs.declared.bands.Band.{Band}
use Rattle.nv_marks.specs.inside.Bands.{HasBand, IsBanded}
use Rattle.nv_marks.proofs.BandLemmas.{banded_moved}
use Rattle.nv_marks.proofs.IndexLemmas.{index_moved}
use Rattle.nv_marks.proofs.StoredLemmas.{moves_records, records_fit, stored_moved, ordered_moved, found_moved, count_moved, cost_in_marks}
use Rattle.nv_marks.proofs.mark_set.MarkSet.splice_counted.Goals as goal

pub splice_counted-requires-clause-moved : goal.splice_counted-requires-clause-moved
splice_counted-requires-clause-moved g c =
    moves_records c.args.start c.args.old c.args.new c.self.inside.store.chunks.items c.self.inside.greatest.entries c.self.invariant.0
    (subst (λ (v : Marks). All (MovesNarrowly c.args.start c.args.old c.args.new) v.marks) (sym c.self.view_is) c.requires.moved)

pub splice_counted-requires-clause-scratch : goal.splice_counted-requires-clause-scratch
splice_counted-requires-clause-scratch g c = record {
  none = c.self.invariant.1.none;
  empty = c.self.invariant.1.empty;
  room =
      records_fit c.self.inside.store.chunks.items c.self.inside.greatest.entries c.self.inside.count c.self.inside.scratch.items (vec_len c.self.inside.scratch)
      (vec_capacity c.self.inside.scratch) c.self.inside.spare.items c.self.invariant.0 c.self.invariant.1;
}

pub invariant_of-self : goal.invariant_of-self
invariant_of-self g c = (
  stored_moved c.args.start c.args.old c.args.new c.self.inside.store.chunks.items c.splice_counted.new.self.chunks.items c.self.inside.greatest.entries
      c.self.invariant.0 c.splice_counted.ensures.laid c.splice_counted.ensures.same_records,
  record {
    count = c.self.invariant.1.count
        ∙ sym (count_moved c.args.start c.args.old c.args.new c.self.inside.store.chunks.items c.splice_counted.new.self.chunks.items c.self.inside.greatest.entries
        c.self.invariant.0 c.splice_counted.ensures.laid c.splice_counted.ensures.same_records);
    none = c.clear.ensures.items;
    empty = c.clear.ensures.len;
    room = omega (arith, c.clear.ensures.capacity, c.splice_counted.ensures.room, c.self.invariant.1.room);
    spares = c.self.invariant.1.spares;
  },
  subst (λ (l : List (ℕ × Reverse ℕ)). IsIndexOf l (marks_among (spread_records c.splice_counted.new.self.chunks.items))) (sym c.splice_counted.ensures.index)
      (index_moved c.self.inside.index (marks_among (spread_records c.self.inside.store.chunks.items))
      (marks_among (spread_records c.splice_counted.new.self.chunks.items)) (moved_mark c.args.start c.args.old c.args.new)
      (found_moved c.args.start c.args.old c.args.new c.self.inside.store.chunks.items c.splice_counted.new.self.chunks.items c.self.inside.greatest.entries
      c.self.invariant.0 c.splice_counted.ensures.laid c.splice_counted.ensures.same_records)
      c.self.invariant.2),
  subst (λ (l : List Band). IsBanded l (marks_among (spread_records c.splice_counted.new.self.chunks.items)))
      (sym (with_items_is c.self.inside.bands c.move_bands.new.bands
      (omega (arith, c.move_bands.ensures.len, ap length c.as_mut_slice-bands.ensures.value, c.self.inside.bands.ok.0))))
      (banded_moved c.args.start c.args.old c.args.new c.self.inside.bands.items c.move_bands.new.bands (marks_among (spread_records c.self.inside.store.chunks.items))
      (marks_among (spread_records c.splice_counted.new.self.chunks.items)) c.self.invariant.3
      (c.move_bands.ensures.len ∙ ap length c.as_mut_slice-bands.ensures.value)
      (λ m narrow has. c.move_bands.ensures.moved m narrow (subst (λ (l : List Band). HasBand l m) (sym c.as_mut_slice-bands.ensures.value) has))
      (subst (λ (v : Marks). All (MovesNarrowly c.args.start c.args.old c.args.new) v.marks) (sym c.self.view_is) c.requires.moved)
      (ordered_moved c.args.start c.args.old c.args.new c.self.inside.store.chunks.items c.splice_counted.new.self.chunks.items c.self.inside.greatest.entries
      c.self.invariant.0 c.splice_counted.ensures.laid c.splice_counted.ensures.same_records)),
)

pub returns-clause-marks : goal.returns-clause-marks
returns-clause-marks g c =
    subst (λ (v : Marks). IsInOrder (map (moved_mark c.args.start c.args.old c.args.new) v.marks) (marks_among (spread_records c.splice_counted.new.self.chunks.items)))
    c.self.view_is
    (ordered_moved c.args.start c.args.old c.args.new c.self.inside.store.chunks.items c.splice_counted.new.self.chunks.items c.self.inside.greatest.entries
    c.self.invariant.0 c.splice_counted.ensures.laid c.splice_counted.ensures.same_records)

pub returns-clause-found : goal.returns-clause-found
returns-clause-found g c = λ ns id.
    found_moved c.args.start c.args.old c.args.new c.self.inside.store.chunks.items c.splice_counted.new.self.chunks.items c.self.inside.greatest.entries
    c.self.invariant.0 c.splice_counted.ensures.laid c.splice_counted.ensures.same_records ns id
    ∙ ap (λ (v : Marks). option_map (moved_mark c.args.start c.args.old c.args.new) (mark_at v.marks ns id)) c.self.view_is

pub returns-clause-cost : goal.returns-clause-cost
returns-clause-cost g c =
    subst (λ (n : ℕ). c.splice_counted.new.steps ≤ c.args.steps.now + n)
    (cost_in_marks c.args.start c.args.old c.self.inside.store.chunks.items c.self.inside.greatest.entries c.self.invariant.0
    ∙ ap (λ (v : Marks). most_steps c.args.start c.args.old v.marks) c.self.view_is)
    c.splice_counted.ensures.cost
