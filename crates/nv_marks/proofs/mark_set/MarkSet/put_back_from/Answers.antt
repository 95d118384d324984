use Rattle.std.proofs.Common.{◌∙◌, ap, sym, subst, map, length, ℕ, List, arith}
use Rattle.std.specs.Prelude.{option_map, vec_len, vec_capacity}
use Rattle.std.specs.declared.cmp.Reverse.{Reverse}
use Rattle.std.proofs.lemmas.List.{with_items_is}
use Rattle.nv_marks.specs.Keeping.{put_back_mark}
use Rattle.nv_marks.specs.Marks.{Marks, mark_at}
use Rattle.nv_marks.specs.Order.{IsInOrder}
use Rattle.nv_marks.specs.inside.Records.{marks_among}
use Rattle.nv_marks.specs.inside.Chunks.{spread_records}
use Rattle.nv_marks.specs.inside.Names.{IsIndexOf}
use Rattle.nv_marks.specs.declared.bands.Band.{Band}
use Rattle.nv_marks.specs.inside.Bands.{IsBanded, is_banded}
use Rattle.nv_marks.proofs.BandLemmas.{banded_back}
use Rattle.nv_marks.proofs.IndexLemmas.{index_moved}
use Rattle.nv_marks.proofs.StoredLemmas.{ends_of_stored, records_fit}
use Rattle.nv_marks.proofs.RestoreLemmas.{stored_back, ordered_back, found_back, count_back}
use Rattle.nv_marks.proofs.mark_set.MarkSet.put_back_from.Goals as goal

pub put_back-requires-clause-scratch : goal.put_back-requires-clause-scratch
put_back-requires-clause-scratch g c = record {
  none = c.self.invariant.1.none;
  empty = c.self.invariant.1.empty;
  room =
      records_fit c.self.inside.store.chunks.items c.self.inside.greatest.entries c.self.inside.count c.self.inside.scratch.items (vec_len c.self.inside.scratch)
      (vec_capacity c.self.inside.scratch) c.self.inside.spare.items c.self.invariant.0 c.self.invariant.1;
}

pub put_back-requires-clause-ends : goal.put_back-requires-clause-ends
put_back-requires-clause-ends g c = ends_of_stored c.self.inside.store.chunks.items c.self.inside.greatest.entries c.self.invariant.0

pub put_back-requires-clause-index : goal.put_back-requires-clause-index
put_back-requires-clause-index g c = c.self.invariant.2

pub cover_kept-requires-clause-once : goal.cover_kept-requires-clause-once
cover_kept-requires-clause-once g c = (stored_back c.args.kept.now c.self.inside.store.chunks.items c.put_back.new.self.chunks.items c.self.inside.greatest.entries c.self.invariant.0
    c.put_back.ensures.laid c.put_back.ensures.same_records).once

pub cover_kept-requires-clause-ends : goal.cover_kept-requires-clause-ends
cover_kept-requires-clause-ends g c =
    ends_of_stored c.put_back.new.self.chunks.items c.self.inside.greatest.entries
    (stored_back c.args.kept.now c.self.inside.store.chunks.items c.put_back.new.self.chunks.items c.self.inside.greatest.entries c.self.invariant.0
    c.put_back.ensures.laid c.put_back.ensures.same_records)

pub cover_kept-requires-clause-index : goal.cover_kept-requires-clause-index
cover_kept-requires-clause-index g c =
    subst (λ (l : List (ℕ × Reverse ℕ)). IsIndexOf l (marks_among (spread_records c.put_back.new.self.chunks.items))) (sym c.put_back.ensures.index)
    (index_moved c.self.inside.index (marks_among (spread_records c.self.inside.store.chunks.items)) (marks_among (spread_records c.put_back.new.self.chunks.items))
    (put_back_mark c.args.kept.now)
    (found_back c.args.kept.now c.self.inside.store.chunks.items c.put_back.new.self.chunks.items c.self.inside.greatest.entries c.self.invariant.0
    c.put_back.ensures.laid c.put_back.ensures.same_records)
    c.self.invariant.2)

pub cover_kept-requires-clause-some : goal.cover_kept-requires-clause-some
cover_kept-requires-clause-some g c = omega (arith, ap length c.as_mut_slice-bands.ensures.value, c.self.invariant.3.some)

pub invariant_of-self : goal.invariant_of-self
invariant_of-self g c = (
  stored_back c.args.kept.now c.self.inside.store.chunks.items c.put_back.new.self.chunks.items c.self.inside.greatest.entries c.self.invariant.0
      c.put_back.ensures.laid c.put_back.ensures.same_records,
  record {
    count = c.self.invariant.1.count
        ∙ sym (count_back c.args.kept.now c.self.inside.store.chunks.items c.put_back.new.self.chunks.items c.self.inside.greatest.entries c.self.invariant.0
        c.put_back.ensures.laid c.put_back.ensures.same_records);
    none = c.clear.ensures.items;
    empty = c.clear.ensures.len;
    room = omega (arith, c.clear.ensures.capacity, c.put_back.ensures.room, c.self.invariant.1.room);
    spares = c.self.invariant.1.spares;
  },
  subst (λ (l : List (ℕ × Reverse ℕ)). IsIndexOf l (marks_among (spread_records c.put_back.new.self.chunks.items))) (sym c.put_back.ensures.index)
      (index_moved c.self.inside.index (marks_among (spread_records c.self.inside.store.chunks.items)) (marks_among (spread_records c.put_back.new.self.chunks.items))
      (put_back_mark c.args.kept.now)
      (found_back c.args.kept.now c.self.inside.store.chunks.items c.put_back.new.self.chunks.items c.self.inside.greatest.entries c.self.invariant.0
      c.put_back.ensures.laid c.put_back.ensures.same_records)
      c.self.invariant.2),
  subst (λ (l : List Band). IsBanded l (marks_among (spread_records c.put_back.new.self.chunks.items)))
      (sym (with_items_is c.self.inside.bands c.cover_kept.new.bands
      (omega (arith, c.cover_kept.ensures.len, ap length c.as_mut_slice-bands.ensures.value, c.self.inside.bands.ok.0))))
      (banded_back c.cover_kept.new.bands c.args.kept.now c.self.inside.bands.items (marks_among (spread_records c.self.inside.store.chunks.items))
      (marks_among (spread_records c.put_back.new.self.chunks.items)) c.self.inside.greatest.entries c.self.invariant.0.sound c.self.invariant.3
      (c.cover_kept.ensures.len ∙ ap length c.as_mut_slice-bands.ensures.value)
      (λ s e had. c.cover_kept.ensures.kept s e (ap (λ (l : List Band). is_banded l s e) c.as_mut_slice-bands.ensures.value ∙ had))
      c.cover_kept.ensures.own
      (found_back c.args.kept.now c.self.inside.store.chunks.items c.put_back.new.self.chunks.items c.self.inside.greatest.entries c.self.invariant.0
      c.put_back.ensures.laid c.put_back.ensures.same_records)
      (ordered_back c.args.kept.now c.self.inside.store.chunks.items c.put_back.new.self.chunks.items c.self.inside.greatest.entries c.self.invariant.0
      c.put_back.ensures.laid c.put_back.ensures.same_records)),
)

pub returns-clause-marks : goal.returns-clause-marks
returns-clause-marks g c =
    subst (λ (v : Marks). IsInOrder (map (put_back_mark c.args.kept.now) v.marks) (marks_among (spread_records c.put_back.new.self.chunks.items))) c.self.view_is
    (ordered_back c.args.kept.now c.self.inside.store.chunks.items c.put_back.new.self.chunks.items c.self.inside.greatest.entries c.self.invariant.0
    c.put_back.ensures.laid c.put_back.ensures.same_records)

pub returns-clause-found : goal.returns-clause-found
returns-clause-found g c = λ ns id.
    found_back c.args.kept.now c.self.inside.store.chunks.items c.put_back.new.self.chunks.items c.self.inside.greatest.entries c.self.invariant.0
    c.put_back.ensures.laid c.put_back.ensures.same_records ns id
    ∙ ap (λ (v : Marks). option_map (put_back_mark c.args.kept.now) (mark_at v.marks ns id)) c.self.view_is
